-- Laws of digits, read at a position: what stands there says what the rest of the bytes says. By the
-- clauses of the definitions through `drop-cons`; the value of digits by their places.
use Prim.Native.Nat.{ℕ, suc, ◌+◌, ◌-◌, ◌*◌, ◌^◌, ◌≤◌, ◌<◌}
use mathlib.Core.Bool.{true, false}
use mathlib.Core.List.{List, [], ◌∷◌}
use mathlib.Core.Path.{◌≡◌, refl, ◌∙◌, ap}
use native.Mathlib.Nat.{add-mul, mul_assoc, mul_comm, pow-suc}
use native.Mathlib.Numerals.{add-one}
use native.Mathlib.Omega.{arith}
use lib.Dec.{leb}
use lib.ListN.{length, get_or, drop, length-drop, drop_of_length-le}
use lib.Seq.{drop-cons}
use borrow.Author.Tests.{le-leb, le-ltb, leb-true, lt-leb, lt-ltb}
use Rattle.folds.proofs.Folds.{both, picked, passed}
use Rattle.text.specs.declared.Field.TheVariants.{Malformed, Dash}
use Rattle.text.specs.Text.{same, all_digits, decimal, leading_zero, is_digit, digits_of, field_of}

pub digits_end : (s : List ℕ) (i : ℕ) → length s ≤ i → all_digits (drop i s) ≡ true
unfolding all_digits
digits_end s i h = rw (drop_of_length-le s h)

pub digits_low : (s : List ℕ) (i : ℕ) → i < length s → get_or s i 0 < 48 → all_digits (drop i s) ≡ false
unfolding all_digits
digits_low s i h l = rw (drop-cons s i 0 h, lt-leb 48 (get_or s i 0) l) refl

pub digits_high : (s : List ℕ) (i : ℕ) → i < length s → 48 ≤ get_or s i 0 → 57 < get_or s i 0 → all_digits (drop i s) ≡ false
unfolding all_digits
digits_high s i h k l = rw (drop-cons s i 0 h, le-leb 48 (get_or s i 0) k, lt-leb (get_or s i 0) 57 l) refl

pub digits_next : (s : List ℕ) (i : ℕ) → i < length s → 48 ≤ get_or s i 0 → get_or s i 0 ≤ 57 → all_digits (drop i s) ≡ all_digits (drop (i + 1) s)
unfolding all_digits
digits_next s i h k l = rw (add-one, drop-cons s i 0 h, le-leb 48 (get_or s i 0) k, le-leb (get_or s i 0) 57 l) refl

-- where a byte is no digit, and where it is one
pub digits_not : (s : List ℕ) (i : ℕ) → i < length s → is_digit (get_or s i 0) ≡ false → all_digits (drop i s) ≡ false
unfolding all_digits
digits_not s i h e = rw (drop-cons s i 0 h, e) refl

pub digits_on : (s : List ℕ) (i : ℕ) → i < length s → is_digit (get_or s i 0) ≡ true → all_digits (drop i s) ≡ all_digits (drop (i + 1) s)
unfolding all_digits
digits_on s i h e = rw (add-one, drop-cons s i 0 h, e) refl

pub digit_low : (b : ℕ) → is_digit b ≡ true → 48 ≤ b
digit_low b e = leb-true 48 b (both (leb 48 b) (leb b 57) e).0

pub digit_high : (b : ℕ) → is_digit b ≡ true → b - 48 ≤ 9
digit_high b e = omega (arith, leb-true b 57 (both (leb 48 b) (leb b 57) e).1)

pub decimal_end : (s : List ℕ) (i v : ℕ) → i ≡ length s → v * 10 ^ (length s - i) + decimal (drop i s) ≡ v
unfolding decimal
decimal_end s i v e = let z : length s - i ≡ 0 = omega arith in rw (z, drop_of_length-le s {i = i} (omega arith)) (omega arith)

place_up : (v d n r : ℕ) → v * (n * 10) + (d * n + r) ≡ (v * 10 + d) * n + r
place_up v d n r = omega (arith, add-mul (v * 10) d n, mul_assoc v 10 n, ap (λ k. v * k) (mul_comm n 10))

-- one more digit moves what was read one place up
pub decimal_next : (s : List ℕ) (i v : ℕ) → i < length s
    → v * 10 ^ (length s - i) + decimal (drop i s) ≡ (v * 10 + (get_or s i 0 - 48)) * 10 ^ (length s - (i + 1)) + decimal (drop (i + 1) s)
unfolding decimal
decimal_next s i v h =
    let m : length s - i ≡ suc (length s - suc i) = omega arith in
    rw (add-one i, drop-cons s i 0 h, length-drop (suc i) s, m, pow-suc)
    (place_up v (get_or s i 0 - 48) (10 ^ (length s - suc i)) (decimal (drop (suc i) s)))

-- i digits are below 10 to the i: with ten at most, 64 bits hold them
pub below_ten : (i v d : ℕ) → v < 10 ^ i → d ≤ 9 → v * 10 + d < 10 ^ (i + 1)
below_ten i v d h k = rw (add-one, pow-suc) (omega arith)

-- the tests of a field, one after the other
module _ (s : List ℕ) where
  pub field_dash : same s (45 ∷ []) ≡ true → field_of s ≡ Dash
  unfolding field_of
  field_dash e = picked _ _ _ e

  pub field_short : same s (45 ∷ []) ≡ false → length s < 1 → field_of s ≡ Malformed
  unfolding field_of
  field_short e l = passed _ _ _ e ∙ picked _ _ _ (lt-ltb _ _ l)

  pub field_long : same s (45 ∷ []) ≡ false → 1 ≤ length s → 10 < length s → field_of s ≡ Malformed
  unfolding field_of
  field_long e l m = passed _ _ _ e ∙ passed _ _ _ (le-ltb _ _ l) ∙ picked _ _ _ (lt-ltb _ _ m)

  pub field_zero : same s (45 ∷ []) ≡ false → 1 ≤ length s → length s ≤ 10 → leading_zero s ≡ true → field_of s ≡ Malformed
  unfolding field_of
  field_zero e l m z = passed _ _ _ e ∙ passed _ _ _ (le-ltb _ _ l) ∙ passed _ _ _ (le-ltb _ _ m) ∙ picked _ _ _ z

  pub field_digits : same s (45 ∷ []) ≡ false → 1 ≤ length s → length s ≤ 10 → leading_zero s ≡ false → field_of s ≡ digits_of s
  unfolding field_of
  field_digits e l m z = passed _ _ _ e ∙ passed _ _ _ (le-ltb _ _ l) ∙ passed _ _ _ (le-ltb _ _ m) ∙ passed _ _ _ z
