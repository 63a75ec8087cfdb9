-- A word as an address: what a field says is 1 to 10 digits, and a number of more digits, none of them a leading 0, is above 32 bits.
use Prim.Native.Nat.{ℕ, suc, ◌-◌, ◌*◌, ◌^◌, ◌≤◌, ◌<◌}
use mathlib.Core.Bool.{Bool, true, false, ◌&&◌, not}
use mathlib.Core.List.{List, [], ◌∷◌}
use mathlib.Core.Path.{◌≡◌, refl, ap, ap₂, sym, ◌∙◌}
use native.Mathlib.Nat.{mul-le-mul_right, one-mul, pow-le-pow_right}
use native.Mathlib.Omega.{arith}
use lib.Dec.{leb, ltb, lit<}
use lib.ListN.{length}
use borrow.Author.Tests.{eq-eqb, ne_eqb, leb-true, le-leb, lt-leb, ltb-true, ltb-false}
use Rattle.folds.specs.Fold.{pick}
use Rattle.folds.proofs.Folds.{both, clash, picked, passed}
use Rattle.text.specs.declared.Field.{Field}
use Rattle.text.specs.declared.Field.TheVariants.{Malformed, Dash, Number as Digits}
use Rattle.text.specs.Text.{same, is_digit, all_digits, decimal, leading_zero, field_of}
use Rattle.text.specs.Write.{dash}
use Rattle.text.proofs.Back.{same_back}
use Rattle.std.specs.Prelude.{Option, Some, None, Result, Ok, Err, OkIff}
use Rattle.std.specs.Result.{result_ok}
use Rattle.usage.specs.Usage.{plain_number, address_asked}
use Rattle.usage.proofs.Numbers.{no_word, zero_first, told}

-- what the field of a word says of an address
abbrev pub address_in : Field → Option ℕ
address_in Malformed = None
address_in Dash = None
address_in (Digits n) = pick (leb n 4294967295) (Some n) None

-- more than 10 digits, of which the first is not 0
above : (w : List ℕ) → all_digits w ≡ true → leading_zero w ≡ false → 10 < length w → 4294967295 < decimal w
unfolding all_digits decimal
above [] d z l = absurd (omega arith)
above (b ∷ s) d z l =
    let first : (48 ≤ b) × (b ≤ 57) =
    let a = both (leb 48 b) (leb b 57) (both (is_digit b) (all_digits s) d).0 in (leb-true _ _ a.0, leb-true _ _ a.1) in
    let more : b ≡ 48 → ⊥ = λ e.
    let f = sym (ap₂ (λ (x y : Bool). x && not y) (eq-eqb b 48 e) (ne_eqb (suc (length s)) 1 (omega arith))) ∙ z in clash cc in
    let tens : 10 ^ 10 ≤ 10 ^ length s = let more_digits : 10 ≤ length s = omega arith in pow-le-pow_right {n = 10} (lit< tt) more_digits in
    let up : 1 * 10 ^ length s ≤ (b - 48) * 10 ^ length s = mul-le-mul_right (10 ^ length s) (omega (arith, more)) in
    omega (arith, up, tens, one-mul (10 ^ length s))

module _ (w : List ℕ) where
  none : plain_number w ≡ false → address_asked w ≡ None
  unfolding address_asked
  none e = passed _ _ _ (ap (λ (b : Bool). b && leb (decimal w) 4294967295) e)

  known : (b : Bool) → plain_number w ≡ true → leb (decimal w) 4294967295 ≡ b → address_asked w ≡ pick b (Some (decimal w)) None
  unfolding address_asked
  known true p e = picked _ _ _ (ap₂ ◌&&◌ p e)
  known false p e = passed _ _ _ (ap₂ ◌&&◌ p e)

  some : ltb (length w) 1 ≡ false → length w ≡ 0 → ⊥
  some g q = omega (arith, q, ltb-false (length w) 1 g)

  -- the word says an address exactly as its field does
  pub address_read : address_asked w ≡ address_in (field_of w)
  unfolding field_of all_digits
  address_read = go (same w dash) (ltb (length w) 1) (ltb 10 (length w)) (leading_zero w) (all_digits w) refl refl refl refl refl where
    go : (a b c d e : Bool) → same w dash ≡ a → ltb (length w) 1 ≡ b → ltb 10 (length w) ≡ c → leading_zero w ≡ d → all_digits w ≡ e
        → address_asked w
        ≡ address_in (pick a Dash (pick b Malformed (pick c Malformed (pick d Malformed (pick e (Digits (decimal w)) Malformed)))))
    go true b c d e f g h i j = none (ap plain_number (same_back w dash f))
    go false true c d e f g h i j = none (no_word w (omega (arith, ltb-true (length w) 1 g)))
    go false false true true e f g h i j = none (zero_first w (some g) i)
    go false false true false false f g h i j = none (told w (some g) i false j)
    go false false true false true f g h i j =
        known false (told w (some g) i true j)
        (lt-leb (decimal w) 4294967295 (above w j i (ltb-true 10 (length w) h)))
    go false false false true e f g h i j = none (zero_first w (some g) i)
    go false false false false false f g h i j = none (told w (some g) i false j)
    go false false false false true f g h i j =
        known (leb (decimal w) 4294967295) (told w (some g) i true j) refl

  -- by what was read
  module _ {x : Field} (e : x ≡ field_of w) where
    pub as_read : {y : Field} → x ≡ y → address_in y ≡ address_asked w
    as_read f = ap address_in (sym f ∙ e) ∙ sym address_read

    module _ {n : ℕ} (f : x ≡ Digits n) where
      pub as_number : {E : Type 0} (r : Result ℕ E) → OkIff r (n < 4294967296) n → {o : Option ℕ} → o ≡ result_ok r → o ≡ address_asked w
      as_number (Ok m) h q = q ∙ ap Some h.1 ∙ sym (picked _ _ _ (le-leb n 4294967295 (omega (arith, h.0)))) ∙ as_read f
      as_number (Err e) h q = q ∙ sym (passed _ _ _ (lt-leb n 4294967295 (omega (arith, h)))) ∙ as_read f
