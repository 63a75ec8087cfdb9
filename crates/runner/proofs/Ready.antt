-- The sets of accelerators that offer before a slot, by the laws of sets as numbers: a shift within thirty-two bits is a power of two.
use Prim.Native.Nat.{ℕ, ◌*◌, ◌-◌, ◌%◌, ◌^◌, ◌≤◌, ◌<◌, min}
use mathlib.Core.Bool.{Bool, true, false, ◌&&◌, ◌||◌}
use mathlib.Core.Path.{◌≡◌, refl, sym, ◌∙◌, ap}
use native.Mathlib.Nat.{one-mul}
use native.Mathlib.Omega.{arith}
use lib.Bits.{bit_and}
use lib.Dec.{lit<}
use lib.Pow.{pow_pos, shl_exact}
use Rattle.admit.specs.Admitting.{is_in}
use Rattle.admit.proofs.Sets.{in_and}
use Rattle.runner.specs.Arrays.{ready_on}

pub shifted : (n : ℕ) → n ≤ 31 → 1 * 2 ^ n % 2 ^ 32 ≡ 2 ^ n
shifted n h = shl_exact {a = 1} 1 n 32 (lit< tt) (omega arith) ∙ one-mul (2 ^ n)

-- the accelerators below n
pub below_all : (n : ℕ) → 31 < n → 4294967295 ≡ 2 ^ min 32 n - 1
below_all n h = let e : 32 ≡ min 32 n = omega arith in ap (λ k. 2 ^ k - 1) e

pub below_some : (n : ℕ) → n ≤ 31 → 1 * 2 ^ n % 2 ^ 32 - 1 ≡ 2 ^ min 32 n - 1
below_some n h = let e : n ≡ min 32 n = omega arith in ap (λ k. k - 1) (shifted n h ∙ ap (λ k. 2 ^ k) e)

pub some_below : (n : ℕ) → n ≤ 31 → 1 ≤ 1 * 2 ^ n % 2 ^ 32
some_below n h = omega (arith, shifted n h, pow_pos n)

-- those that may have a transaction admitted, by whether a window opens
module _ (k z a : ℕ) where
  with_true : (c : Bool) → c ≡ (c && true)
  with_true true = refl
  with_true false = refl

  pub ready_all : (b : Bool) → b ≡ true → is_in k a ≡ ready_on b k z a
  ready_all b e = with_true (is_in k a) ∙ sym (ap (λ c. is_in k a && (c || is_in z a)) e)

  pub ready_some : (b : Bool) → b ≡ false → is_in (bit_and k z) a ≡ ready_on b k z a
  ready_some b e = in_and k z a ∙ sym (ap (λ c. is_in k a && (c || is_in z a)) e)
