-- A word as a number. What was read, once it reached the cap, stays at it, whatever digits follow; the tests are those of the
-- definition.
use Prim.Native.Nat.{ℕ, ◌+◌, ◌*◌, ◌≤◌, min}
use mathlib.Core.Bool.{Bool, true, false}
use mathlib.Core.List.{List}
use mathlib.Core.Path.{◌≡◌, refl, ap, sym, ◌∙◌}
use native.Mathlib.Decide.{dec_le}
use native.Mathlib.Nat.{mul-le-mul_left, mul-one, mul-le-mul_right}
use native.Mathlib.Omega.{arith}
use lib.ListN.{length}
use borrow.Author.Tests.{eq-eqb, ne_eqb}
use Rattle.folds.specs.Fold.{pick}
use Rattle.folds.proofs.Folds.{picked, passed}
use Rattle.text.specs.Text.{all_digits, decimal, leading_zero}
use Rattle.std.specs.Prelude.{Option, Some, None}
use Rattle.usage.specs.Usage.{plain_number, number_asked}

-- a number capped and then moved up by digits is capped as the number is
pub capped_up : (m v n r : ℕ) → 1 ≤ n → min (min v m * n + r) m ≡ min (v * n + r) m
capped_up m v n r h = elim (dec_le v m) [ yes l ↦ small l | no l ↦ large l ] where
  small : v ≤ m → min (min v m * n + r) m ≡ min (v * n + r) m
  small l = ap (λ (k : ℕ). min (k * n + r) m) (omega arith)

  large : (v ≤ m → ⊥) → min (min v m * n + r) m ≡ min (v * n + r) m
  large l =
      let a : m * 1 ≤ m * n = mul-le-mul_left m h in
      let b : m * n ≤ v * n = mul-le-mul_right n (omega arith) in
      let c : min v m ≡ m = omega arith in
      ap (λ (k : ℕ). min (k * n + r) m) c ∙ omega (arith, mul-one m)

module _ (w : List ℕ) (m : ℕ) where
  pub asked_none : plain_number w ≡ false → None ≡ number_asked w m
  unfolding number_asked
  asked_none e = sym (passed _ _ _ e)

  pub asked_number : (k : ℕ) → plain_number w ≡ true → k ≡ min (decimal w) m → Some k ≡ number_asked w m
  unfolding number_asked
  asked_number k e f = ap Some f ∙ sym (picked _ _ _ e)

module _ (w : List ℕ) where
  pub no_word : length w ≡ 0 → plain_number w ≡ false
  no_word e = rw (eq-eqb _ _ e) refl

  pub zero_first : (length w ≡ 0 → ⊥) → leading_zero w ≡ true → plain_number w ≡ false
  zero_first d e = rw (ne_eqb _ _ d, e) refl

  pub told : (length w ≡ 0 → ⊥) → leading_zero w ≡ false → (b : Bool) → all_digits w ≡ b → plain_number w ≡ b
  told d e b f = rw (ne_eqb _ _ d, e) f

-- what a word that was read as a number says
abbrev pub number_in : Option ℕ → ℕ
number_in None = 0
number_in (Some k) = k

abbrev pub is_number : Option ℕ → Bool
is_number None = false
is_number (Some k) = true

module _ (w : List ℕ) (m : ℕ) where
  pub said_plain : (x : Option ℕ) → x ≡ number_asked w m → plain_number w ≡ is_number x
  unfolding number_asked
  said_plain x e = by (plain_number w) ∙ ap is_number (sym e) where
    by : (b : Bool) → b ≡ is_number (pick b (Some (min (decimal w) m)) None)
    by true = refl
    by false = refl

  pub said_number : (x : Option ℕ) → x ≡ number_asked w m → plain_number w ≡ true → number_in x ≡ min (decimal w) m
  unfolding number_asked
  said_number x e p = ap number_in (e ∙ picked _ _ _ p)
