-- A set of returns as a number: what its test says bit by bit, and that a shift by the delay is a power of two. By the digits of a
-- number.
use Prim.Native.Nat.{ℕ, zero, suc, ◌+◌, ◌*◌, ◌/◌, ◌%◌, ◌^◌, ◌≤◌, ◌<◌}
use mathlib.Core.Bool.{Bool, true, false, ◌&&◌}
use mathlib.Core.Logic.{◌↔◌}
use mathlib.Core.Path.{◌≡◌, refl, sym, ap, subst, ◌∙◌}
use native.Mathlib.Decide.{dec_lt, ℕ_discrete}
use native.Mathlib.Nat.{pow-suc, mul_comm, lt_of_lt_of_le, div-eq_of_lt, div-one, one-le-pow, div-lt_iff_lt-mul}
use native.Mathlib.Numerals.{add-one}
use native.Mathlib.Omega.{arith}
use lib.Dec.{eqb, leb, ltb, lit<}
use lib.Pow.{shl_exact, shr_lt, pow_mono}
use borrow.Author.Tests.{lt-ltb, le-leb}
use Rattle.folds.specs.Fold.{within}
use Rattle.folds.proofs.Folds.{tests}
use Rattle.model.specs.Tree.{bit}
use Rattle.rules.specs.Rules.{on_the_way}

and_true : (a b : Bool) → b ≡ true → a ≡ (a && b)
and_true true b e = sym e
and_true false b e = refl

-- 0 is no lower limit
pub no_low : (x h : ℕ) → leb x h ≡ within 0 x h
no_low x h = ap (λ b. b && leb x h) (sym (le-leb 0 x (omega arith)))

pub double : (d : ℕ) → 2 * 2 ^ d ≡ 2 ^ (d + 1)
double d = mul_comm 2 (2 ^ d) ∙ sym (pow-suc 2 d) ∙ ap (λ n. 2 ^ n) (sym (add-one d))

-- the test of the code: past 30 the power is above every number of 32 bits, else the shift is the power
pub way_far : (d x : ℕ) → 30 < d → x < 2 ^ 32 → eqb (x % 2) 0 ≡ on_the_way d x
way_far d x h l =
    and_true (eqb (x % 2) 0) (ltb x (2 ^ (d + 1)))
    (lt-ltb _ _ (lt_of_lt_of_le l (pow_mono {i = 32} {j = d + 1} (omega arith))))

pub way_near : (d x : ℕ) → d ≤ 30 → (eqb (x % 2) 0 && ltb x (2 * 2 ^ d % 2 ^ 32)) ≡ on_the_way d x
way_near d x h = ap (λ m. eqb (x % 2) 0 && ltb x m) (shl_exact {a = 2} 2 d 32 (lit< tt) (omega arith) ∙ double d)

pub bit_low : (x : ℕ) → bit 0 x ≡ x % 2
bit_low x = ap (λ y. y % 2) (div-one x)

-- no bit stands above the highest power
pub bit_high : (r d x : ℕ) → x < 2 ^ (r + 1) → r < d → bit d x ≡ 0
bit_high r d x l h = ap (λ y. y % 2) (div-eq_of_lt (lt_of_lt_of_le l (pow_mono {i = r + 1} {j = d} (omega arith))))

-- a number of which no bit from n on is 1 is below the n-th power
below : (n k x : ℕ) → x < 2 ^ (k + n) → ((d : ℕ) → n ≤ d → bit d x ≡ 1 → ⊥) → x < 2 ^ n
below n zero x l h = subst (λ (i : ℕ). x < 2 ^ i) {x = zero + n} {y = n} (omega arith) l
below n (suc k) x l h =
    below n k x (subst (λ (m : ℕ). x < m) (omega arith) ((div-lt_iff_lt-mul {x = x} {y = 1} (one-le-pow (k + n) 2 (lit< tt))).0 none)) h
  where
    few : x / 2 ^ (k + n) < 2
    few = shr_lt 1 (k + n) (subst (λ (i : ℕ). x < 2 ^ i) {x = suc k + n} {y = 1 + (k + n)} (omega arith) l)

    none : x / 2 ^ (k + n) < 1
    none = elim (ℕ_discrete (bit (k + n) x) 1) [ yes e ↦ absurd (h (k + n) (omega arith) e) | no d ↦ omega (arith, few) ]

small : (n : ℕ) → n < 2 ^ n
small zero = lit< tt
small (suc n) = omega (arith, small n, pow-suc 2 n)

-- each return that passes the test was served 1 to r slots ago
pub way_bits : (r x : ℕ) → (on_the_way r x ≡ true) ↔ ((d : ℕ) → bit d x ≡ 1 → (1 ≤ d) × (d ≤ r))
way_bits r x = (λ e d b. from (simp tests at e) d b, λ h. to h)
  where
    from : (x % 2 ≡ 0) × (x < 2 ^ (r + 1)) → (d : ℕ) → bit d x ≡ 1 → (1 ≤ d) × (d ≤ r)
    from h zero b = absurd (omega (arith, h.0, bit_low x, b))
    from h (suc d) b = elim (dec_lt r (suc d)) [
      | yes l ↦ absurd (omega (arith, bit_high r (suc d) x h.1 l, b))
      | no n ↦ (omega arith, omega arith)
    ]

    even : ((d : ℕ) → bit d x ≡ 1 → (1 ≤ d) × (d ≤ r)) → x % 2 ≡ 0
    even h = elim (ℕ_discrete (bit 0 x) 1) [ yes e ↦ absurd (omega (arith, (h 0 e).0)) | no d ↦ omega (arith, bit_low x) ]

    to : ((d : ℕ) → bit d x ≡ 1 → (1 ≤ d) × (d ≤ r)) → on_the_way r x ≡ true
    to h = simp tests (
      even h,
      below (r + 1) x x (lt_of_lt_of_le (small x) (pow_mono {i = x} {j = x + (r + 1)} (omega arith))) (λ d l b. omega (arith, (h d b).1)),
    )
