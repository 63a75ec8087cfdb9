-- Where a part or a field ends, as the first position at which a test holds; equal bytes, as the slices compare them. By the clauses of
-- the definitions.
use Prim.Native.Nat.{ℕ, suc, ◌+◌, ◌-◌, ◌≤◌, min}
use mathlib.Core.Bool.{Bool, true, false, ◌&&◌, ◌||◌, and-false, cond}
use mathlib.Core.List.{List, [], ◌∷◌}
use mathlib.Core.Path.{◌≡◌, refl, ap, sym, ◌∙◌}
use native.Mathlib.Decide.{dec_lt}
use native.Mathlib.Omega.{arith}
use lib.Dec.{eqb}
use lib.ListN.{length, take, drop, drop_of_length-le, length-drop}
use lib.Pointwise.{pointwise}
use lib.Seq.{take_all}
use borrow.Author.Tests.{lt-ltb, le-ltb}
use Rattle.std.specs.Prelude.{Some, None}
use Rattle.std.specs.Option.{unwrap_or}
use Rattle.std.specs.List.{list_all, zip, position, position_or_len}
use Rattle.std.proofs.lemmas.List.Recursion.{is_position_or_len}
use Rattle.folds.specs.Fold.{pick}
use Rattle.text.specs.Text.{part_length, field_length, same}
use Rattle.text.proofs.Parts.{part_most}

part_found : (sep : ℕ) (s : List ℕ) → part_length sep s ≡ position_or_len (λ b. eqb b sep) s
unfolding part_length
part_found sep = is_position_or_len (part_length sep) (λ b. eqb b sep) refl (λ x xs. go (eqb x sep) (part_length sep xs)) where
  go : (b : Bool) (n : ℕ) → pick b 0 (suc n) ≡ cond b 0 (1 + n)
  go true n = refl
  go false n = omega arith

field_found : (s : List ℕ) → field_length s ≡ position_or_len (λ b. eqb b 9 || eqb b 10) s
unfolding field_length
field_found = is_position_or_len field_length (λ b. eqb b 9 || eqb b 10) refl (λ x xs. go (eqb x 9) (eqb x 10) (field_length xs)) where
  go : (a b : Bool) (n : ℕ) → pick a 0 (pick b 0 (suc n)) ≡ cond (a || b) 0 (1 + n)
  go true b n = refl
  go false true n = refl
  go false false n = omega arith

field_most : (s : List ℕ) → field_length s ≤ length s
unfolding field_length
field_most [] = omega arith
field_most (b ∷ s) = go (eqb b 9) (eqb b 10) (field_most s) where
  go : (x y : Bool) → field_length s ≤ length s → pick x 0 (pick y 0 (suc (field_length s))) ≤ suc (length s)
  go true y h = omega arith
  go false true h = omega arith
  go false false h = omega arith

found_or : (p : ℕ → Bool) (xs : List ℕ) (n : ℕ) → n ≡ position_or_len p xs → n ≤ length xs → unwrap_or (position p xs) (length xs) ≡ n
found_or p xs n e h = elim (dec_lt (position_or_len p xs) (length xs)) [
  | yes l ↦ ap (λ (b : Bool). unwrap_or (cond b (Some (position_or_len p xs)) None) (length xs)) (lt-ltb _ _ l) ∙ sym e
  | no l ↦ ap (λ (b : Bool). unwrap_or (cond b (Some (position_or_len p xs)) None) (length xs)) (le-ltb _ _ (omega arith)) ∙ omega arith
]

-- the bytes from `at` on, also where there are fewer bytes
module _ (s : List ℕ) (at m : ℕ) (e : m ≡ min at (length s)) where
  abbrev pub left : List ℕ
  left = take (length s - m) (drop m s)

  left_is : left ≡ drop at s
  left_is = elim (dec_lt at (length s)) [
    | yes l ↦ let q : m ≡ at = omega arith in take_all (length s - m) (drop m s) (omega (arith, length-drop m s)) ∙ ap (λ (k : ℕ). drop k s) q
    | no l ↦ take_all (length s - m) (drop m s) (omega (arith, length-drop m s)) ∙ drop_of_length-le s {i = m} (omega arith) ∙ sym (drop_of_length-le s {i = at} (omega arith))
  ]

  pub part_ended : (sep : ℕ) → unwrap_or (position (λ b. eqb b sep) left) (length left) ≡ part_length sep (drop at s)
  part_ended sep = found_or (λ b. eqb b sep) left (part_length sep left) (part_found sep left) (part_most sep left) ∙ ap (part_length sep) left_is

  pub field_ended : unwrap_or (position (λ b. eqb b 9 || eqb b 10) left) (length left) ≡ field_length (drop at s)
  field_ended = found_or (λ b. eqb b 9 || eqb b 10) left (field_length left) (field_found left) (field_most left) ∙ ap field_length left_is

pub same_pointwise : (a b : List ℕ) → pointwise eqb a b ≡ same a b
unfolding same
same_pointwise [] [] = refl
same_pointwise [] (y ∷ b) = refl
same_pointwise (x ∷ a) [] = refl
same_pointwise (x ∷ a) (y ∷ b) = ap (λ (t : Bool). eqb x y && t) (same_pointwise a b)

pub same_paired : (a b : List ℕ) → length a ≡ length b → list_all (λ p. eqb p.0 p.1) (zip a b) ≡ same a b
unfolding same
same_paired [] [] e = refl
same_paired [] (y ∷ b) e = absurd (omega (arith, e))
same_paired (x ∷ a) [] e = absurd (omega (arith, e))
same_paired (x ∷ a) (y ∷ b) e = ap (λ (t : Bool). eqb x y && t) (same_paired a b (omega (arith, e)))

pub same_long : (a b : List ℕ) → (length a ≡ length b → ⊥) → same a b ≡ false
unfolding same
same_long [] [] h = absurd (h refl)
same_long [] (y ∷ b) h = refl
same_long (x ∷ a) [] h = refl
same_long (x ∷ a) (y ∷ b) h = rw (same_long a b (λ e. h (ap suc e))) (and-false (eqb x y))
