-- Laws of a line: its parts read one after the other, its record name by the tests in order, its form's table. By the laws
-- of parts at a position, and by cases.
use Prim.Native.Nat.{ℕ, ◌+◌, ◌-◌, ◌≤◌, ◌<◌}
use mathlib.Core.Bool.{Bool, true, false}
use mathlib.Core.List.{List, [], map}
use mathlib.Core.Path.{◌≡◌, refl, sym, ◌∙◌, ap}
use native.Mathlib.Omega.{arith}
use lib.Dec.{ltb, lit≤}
use lib.ListN.{length, take, drop}
use lib.Seq.{set_out}
use borrow.Author.Tests.{lt-ltb, le-ltb}
use Rattle.folds.specs.Fold.{pick}
use Rattle.text.specs.declared.Field.{Field}
use Rattle.text.specs.declared.Field.TheVariants.{Malformed, Dash, Number}
use Rattle.text.specs.Text.{parts, part_length, same, field_of}
use Rattle.text.proofs.Parts.{part_next}
use Rattle.folds.proofs.Folds.{picked, passed}
use Rattle.lines.specs.declared.Kind.{Kind}
use Rattle.lines.specs.declared.Kind.TheVariants.{NoRecord, BusLine, IntLine, AccLine, OfferLine, Bus3Line}
use Rattle.lines.specs.declared.Line.{Line}
use Rattle.lines.specs.Lines.{name_of, kind_of, named, push, pushed, line_from, line_of, form_of}

-- the tests of a record name, one after the other
module _ (name : List ℕ) where
  pub kind_bus : same name (name_of BusLine) ≡ true → kind_of name ≡ BusLine
  unfolding kind_of
  kind_bus e = picked _ _ _ e

  module _ (b : same name (name_of BusLine) ≡ false) where
    pub kind_int : same name (name_of IntLine) ≡ true → kind_of name ≡ IntLine
    unfolding kind_of
    kind_int e = passed _ _ _ b ∙ picked _ _ _ e

    module _ (i : same name (name_of IntLine) ≡ false) where
      pub kind_acc : same name (name_of AccLine) ≡ true → kind_of name ≡ AccLine
      unfolding kind_of
      kind_acc e = passed _ _ _ b ∙ passed _ _ _ i ∙ picked _ _ _ e

      module _ (a : same name (name_of AccLine) ≡ false) where
        pub kind_offer : same name (name_of OfferLine) ≡ true → kind_of name ≡ OfferLine
        unfolding kind_of
        kind_offer e = passed _ _ _ b ∙ passed _ _ _ i ∙ passed _ _ _ a ∙ picked _ _ _ e

        module _ (o : same name (name_of OfferLine) ≡ false) where
          pub kind_bus3 : same name (name_of Bus3Line) ≡ true → kind_of name ≡ Bus3Line
          unfolding kind_of
          kind_bus3 e = passed _ _ _ b ∙ passed _ _ _ i ∙ passed _ _ _ a ∙ passed _ _ _ o ∙ picked _ _ _ e

          pub kind_none : same name (name_of Bus3Line) ≡ false → kind_of name ≡ NoRecord
          unfolding kind_of
          kind_none e = passed _ _ _ b ∙ passed _ _ _ i ∙ passed _ _ _ a ∙ passed _ _ _ o ∙ passed _ _ _ e

pub form_count : (k : Kind) → (form_of k).count ≤ 11
form_count NoRecord = lit≤ tt
form_count BusLine = lit≤ tt
form_count IntLine = lit≤ tt
form_count AccLine = lit≤ tt
form_count OfferLine = lit≤ tt
form_count Bus3Line = lit≤ tt

pub push_count : (l : Line) (f : Field) → (push l f).count ≡ l.count + 1
push_count l Malformed = refl
push_count l Dash = refl
push_count l (Number x) = refl

-- past the eleventh a field is only counted
pub dash_past : (l : Line) → length l.dashes ≤ l.count
    → record { kind = l.kind; count = l.count + 1; malformed = l.malformed; dashes = l.dashes; values = l.values } ≡ push l Dash
dash_past l h =
    ap (λ (d : List Bool). record { kind = l.kind; count = l.count + 1; malformed = l.malformed; dashes = d; values = l.values })
    (sym (set_out l.dashes l.count true h))

pub number_past : (l : Line) (x : ℕ) → length l.values ≤ l.count
    → record { kind = l.kind; count = l.count + 1; malformed = l.malformed; dashes = l.dashes; values = l.values } ≡ push l (Number x)
number_past l x h =
    ap (λ (v : List ℕ). record { kind = l.kind; count = l.count + 1; malformed = l.malformed; dashes = l.dashes; values = v })
    (sym (set_out l.values l.count x h))

-- the fields after the one that ends at e
abbrev pub later : List ℕ → ℕ → List Field
later s e = map field_of (pick (ltb e (length s)) (parts 9 (drop (e + 1) s)) [])

pub line_begun : (s : List ℕ) (e : ℕ) → e ≡ 0 + part_length 9 (drop 0 s) → line_of s ≡ pushed (named (kind_of (take (e - 0) (drop 0 s)))) (later s e)
unfolding line_of
line_begun s e q = ap line_from (part_next 9 s 0 e (omega arith) q)

pub line_next : (s : List ℕ) (r : Line) (e d : ℕ) → e < length s → d ≡ (e + 1) + part_length 9 (drop (e + 1) s)
    → pushed r (later s e) ≡ pushed (push r (field_of (take (d - (e + 1)) (drop (e + 1) s)))) (later s d)
unfolding pushed
line_next s r e d h q = ap (λ (ps : List (List ℕ)). pushed r (map field_of ps)) (picked _ _ _ (lt-ltb _ _ h) ∙ part_next 9 s (e + 1) d (omega arith) q)

pub line_end : (s : List ℕ) (r : Line) (e : ℕ) → length s ≤ e → pushed r (later s e) ≡ r
unfolding pushed
line_end s r e h = ap (λ (ps : List (List ℕ)). pushed r (map field_of ps)) (passed _ _ _ (le-ltb _ _ h))
