-- What is said of a line, from what the functions that find it ensure. By the clauses of the definitions.
use Prim.Native.Nat.{ℕ, ◌+◌, ◌≤◌, ◌<◌}
use mathlib.Core.Bool.{Bool, false}
use mathlib.Core.List.{List}
use mathlib.Core.Path.{◌≡◌, ap, sym, subst, ◌∙◌}
use native.Mathlib.Omega.{arith}
use lib.ListN.{length, drop, get_or}
use borrow.Author.Tests.{lt-ltb, le-ltb}
use Rattle.folds.proofs.Folds.{picked, passed}
use Rattle.text.specs.declared.Field.{Field}
use Rattle.text.specs.Text.{part_length, field_of}
use Rattle.text.proofs.Parts.{part_most}
use Rattle.lines.specs.declared.Kind.{Kind}
use Rattle.lines.specs.declared.Form.{Form}
use Rattle.lines.specs.Lines.{form_of}
use Rattle.lines.specs.LineText.{may_stand}
use Rattle.reasons.specs.Words.{sentence}
use Rattle.reasons.specs.Reasons.{field_bytes, readable, unread, unread_text, malformed_text, outside, limit_text, field_text, total_text}
use Rattle.reasons.specs.Reasons.{value_text}

module _ (k : Kind) (v : List ℕ) (i : ℕ) (F : Form) (q : i ≡ outside k v) (r : F ≡ form_of k) where
  counted : F.count ≡ (form_of k).count
  counted = ap (λ (G : Form). G.count) r

  pub value_field : i < F.count → limit_text k i (get_or v i 0) (get_or F.lows i 0) (get_or F.highs i 0) ≡ value_text k v
  unfolding value_text
  value_field h =
      ap (λ (G : Form). limit_text k i (get_or v i 0) (get_or G.lows i 0) (get_or G.highs i 0)) r
      ∙ ap (field_text k v) q
      ∙ sym (picked _ _ _ (lt-ltb _ _ (subst (λ (j : ℕ). j < (form_of k).count) q (subst (λ (n : ℕ). i < n) counted h))))

  pub value_total : F.count ≤ i → total_text k v ≡ value_text k v
  unfolding value_text
  value_total h = sym (passed _ _ _ (le-ltb _ _ (subst (λ (j : ℕ). (form_of k).count ≤ j) q (subst (λ (n : ℕ). n ≤ i) counted h))))

-- a field that is read, and the first one that may not stand
pub read_at : (f : Form) (b : List ℕ) (i : ℕ) (x : Field) (p : List ℕ) (r : Bool)
    → r ≡ may_stand (get_or f.dashes i false) x → x ≡ field_of p → p ≡ field_bytes b i → r ≡ readable f b i
read_at f b i x p r u v w = u ∙ ap (may_stand (get_or f.dashes i false)) (v ∙ ap field_of w)

module _ (k : Kind) (b : List ℕ) (i : ℕ) (F : Form) (q : i ≡ unread k b) (r : F ≡ form_of k) where
  pub malformed_field : (x : List ℕ) → x ≡ field_bytes b i → i < F.count → unread_text k i x ≡ malformed_text k b
  unfolding malformed_text
  malformed_field x e h =
      ap (unread_text k i) e ∙ ap (λ (j : ℕ). unread_text k j (field_bytes b j)) q
      ∙ sym (picked _ _ _ (lt-ltb _ _ (subst (λ (j : ℕ). j < (form_of k).count) q (subst (λ (G : Form). i < G.count) r h))))

  pub malformed_none : F.count ≤ i → sentence 1 0 0 ≡ malformed_text k b
  unfolding malformed_text
  malformed_none h = sym (passed _ _ _ (le-ltb _ _ (subst (λ (j : ℕ). (form_of k).count ≤ j) q (subst (λ (G : Form). G.count ≤ i) r h))))

pub rest_most : (r : List ℕ) (n : ℕ) → n ≡ 0 + part_length 10 (drop 0 r) → n ≤ length r
rest_most r n e = omega (arith, part_most 10 r)
