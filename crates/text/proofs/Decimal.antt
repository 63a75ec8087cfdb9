-- The decimal text of a number: one digit below 10, else the text of n / 10 and the last digit. By induction on the count
-- of digits allowed, which n + 1 always covers since n / 10 is below n.
use Prim.Native.Nat.{ℕ, zero, suc, ◌+◌, ◌/◌, ◌%◌, ◌^◌, ◌≤◌, ◌<◌}
use mathlib.Core.List.{[], ◌∷◌, ◌++◌}
use mathlib.Core.Path.{◌≡◌}
use native.Mathlib.Decide.{dec_lt}
use native.Mathlib.Nat.{pow-suc, div-lt_iff_lt-mul}
use native.Mathlib.Omega.{arith}
use lib.Dec.{ltb}
use lib.ListN.{length, length-append}
use borrow.Author.Tests.{lt-ltb, le-ltb}
use Rattle.text.specs.Write.{digits, decimal_text}

fuel : (k m n : ℕ) → n < k → n < m → digits (ltb n 10) k n ≡ digits (ltb n 10) m n
unfolding digits
fuel zero m n h l = absurd (omega arith)
fuel (suc k) zero n h l = absurd (omega arith)
fuel (suc k) (suc m) n h l = elim (dec_lt n 10) [
  | yes s ↦ rw (lt-ltb n 10 s)
  | no d ↦ rw (le-ltb n 10 (omega arith), fuel k m (n / 10) (omega arith) (omega arith))
]

pub decimal_one : (n : ℕ) → n < 10 → decimal_text n ≡ (48 + n) ∷ []
unfolding decimal_text digits
decimal_one n h = rw (lt-ltb n 10 h)

pub decimal_more : (n : ℕ) → 10 ≤ n → decimal_text n ≡ decimal_text (n / 10) ++ (48 + n % 10) ∷ []
unfolding decimal_text digits
decimal_more n h =
    rw (le-ltb n 10 h, fuel n (suc (n / 10)) (n / 10) (omega arith) (omega arith))

-- what holds of one digit, and of n from n / 10, holds of every n
pub by_tens : (P : ℕ → Type 0) → ((n : ℕ) → n < 10 → P n) → ((n : ℕ) → 10 ≤ n → P (n / 10) → P n) → (n : ℕ) → P n
by_tens P one more n = below (suc n) n (omega arith) where
  below : (k n : ℕ) → n < k → P n
  below zero n h = absurd (omega arith)
  below (suc k) n h = elim (dec_lt n 10) [
    | yes s ↦ one n s
    | no d ↦ more n (omega arith) (below k (n / 10) (omega arith))
  ]

pub decimal_some : (n : ℕ) → 0 < length (decimal_text n)
decimal_some =
    by_tens (λ n. 0 < length (decimal_text n)) (λ n h. rw (decimal_one n h) (omega arith))
    (λ n h e. rw (decimal_more n h, length-append) (omega arith))

-- a number below 10 to the k has at most k digits
pub decimal_short : (k n : ℕ) → n < 10 ^ suc k → length (decimal_text n) ≤ suc k
decimal_short zero n h = rw (decimal_one n h) (omega arith)
decimal_short (suc k) n h = elim (dec_lt n 10) [
  | yes s ↦ rw (decimal_one n s) (omega arith)
  | no d ↦ rw (decimal_more n (omega arith), length-append)
      (omega (arith, decimal_short k (n / 10) ((div-lt_iff_lt-mul (omega arith)).1 (rw pow-suc at h))))
]
