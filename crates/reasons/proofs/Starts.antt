-- Where a part begins: byte by byte, a separator ends a part. By the clauses of `from_part`, at the byte where the walk stands.
use Prim.Native.Nat.{ℕ, zero, suc, ◌+◌, ◌-◌, ◌≤◌, ◌<◌}
use mathlib.Core.List.{List, [], ◌∷◌}
use mathlib.Core.Path.{◌≡◌, refl, ap, sym, ◌∙◌}
use native.Mathlib.Numerals.{add-one}
use native.Mathlib.Omega.{arith}
use lib.ListN.{length, drop, get_or, drop_of_length-le}
use lib.Seq.{drop-cons}
use borrow.Author.Tests.{eq-eqb, ne_eqb}
use Rattle.folds.proofs.Folds.{picked, passed}
use mathlib.Core.Bool.{Bool, true, false}
use Rattle.text.specs.Text.{part_length}
use Rattle.text.proofs.Parts.{part_fits}
use Rattle.reasons.specs.Words.{from_part}
use Rattle.reasons.specs.Reasons.{first_failing}

module _ (sep : ℕ) (s : List ℕ) (i : ℕ) (h : i < length s) where
  at_byte : (k : ℕ) → from_part sep k (drop i s) ≡ from_part sep k (get_or s i 0 ∷ drop (i + 1) s)
  at_byte k = ap (from_part sep k) (drop-cons s i 0 h ∙ ap (λ (n : ℕ). get_or s i 0 ∷ drop n s) (sym (add-one i)))

  pub part_next : (k : ℕ) → (k ≡ 0 → ⊥) → get_or s i 0 ≡ sep → from_part sep k (drop i s) ≡ from_part sep (k - 1) (drop (i + 1) s)
  unfolding from_part
  part_next zero d e = absurd (d refl)
  part_next (suc k) d e = at_byte (suc k) ∙ ap (λ (n : ℕ). from_part sep n (drop (i + 1) s)) (picked _ k (suc k) (eq-eqb _ _ e) ∙ omega arith)

  pub part_on : (k : ℕ) → (k ≡ 0 → ⊥) → (get_or s i 0 ≡ sep → ⊥) → from_part sep k (drop i s) ≡ from_part sep k (drop (i + 1) s)
  unfolding from_part
  part_on zero d e = absurd (d refl)
  part_on (suc k) d e = at_byte (suc k) ∙ ap (λ (n : ℕ). from_part sep n (drop (i + 1) s)) (passed _ k (suc k) (ne_eqb _ _ e))

part_zero : (sep : ℕ) (s : List ℕ) → from_part sep 0 s ≡ s
unfolding from_part
part_zero sep [] = refl
part_zero sep (b ∷ s) = refl

pub part_here : (sep : ℕ) (s : List ℕ) (k : ℕ) → k ≡ 0 → from_part sep k s ≡ s
part_here sep s k e = ap (λ (n : ℕ). from_part sep n s) e ∙ part_zero sep s

-- at the end of the bytes nothing is left of any part
pub part_past : (sep : ℕ) (s : List ℕ) (i k : ℕ) → length s ≤ i → from_part sep k (drop i s) ≡ drop i s
unfolding from_part
part_past sep s i k h = ap (from_part sep k) (drop_of_length-le s h) ∙ nothing k ∙ sym (drop_of_length-le s h) where
  nothing : (k : ℕ) → from_part sep k [] ≡ []
  nothing zero = refl
  nothing (suc k) = refl

-- the part of the bytes from its start to its separator
module _ (sep : ℕ) where
  pub part_ends : (s : List ℕ) (from e : ℕ) → from ≤ length s → e ≡ from + part_length sep (drop from s) → e ≤ length s
  part_ends s from e h q = omega (arith, part_fits sep s from h)

module _ (i n : ℕ) (f : ℕ → Bool) where
  pub failing_on : i < n → f i ≡ true → first_failing i (n - i) f ≡ first_failing (i + 1) (n - (i + 1)) f
  unfolding first_failing
  failing_on h e =
      let m : n - i ≡ suc (n - (i + 1)) = omega arith in
      ap (λ (k : ℕ). first_failing i k f) m ∙ picked (f i) _ _ e ∙ ap (λ (k : ℕ). first_failing k (n - (i + 1)) f) (sym (add-one i))

  pub failing_here : i < n → f i ≡ false → first_failing i (n - i) f ≡ i
  unfolding first_failing
  failing_here h e =
      let m : n - i ≡ suc (n - (i + 1)) = omega arith in ap (λ (k : ℕ). first_failing i k f) m ∙ passed (f i) _ _ e

  pub failing_none : i ≡ n → first_failing i (n - i) f ≡ n
  unfolding first_failing
  failing_none h = let m : n - i ≡ 0 = omega arith in ap (λ (k : ℕ). first_failing i k f) m ∙ h
