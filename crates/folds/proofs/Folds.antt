-- Laws of `pick`, of tests joined by `&&`, and of the folds over the numbers below n. By cases on the test, and by
-- induction on n.
use Prim.Native.Nat.{ℕ, zero, suc, ◌+◌, ◌≤◌, ◌<◌}
use mathlib.Core.Bool.{Bool, true, false, ◌&&◌}
use mathlib.Core.Path.{◌≡◌, refl, subst}
use mathlib.Core.Logic.{◌↔◌}
use native.Mathlib.Decide.{dec_lt, ℕ_discrete}
use native.Mathlib.Omega.{arith}
use lib.Dec.{leb, eqb}
use borrow.Author.Tests.{leb-true, le-leb, eqb-true, eq-eqb}
use Rattle.folds.specs.Fold.{pick, sum, all}

-- two constructors told to be equal: `clash cc`
pub clash : {A : Type 0} → ◌≡◌ {A = ℕ} 0 1 → A
clash z = absurd (omega arith)

pub both : (a b : Bool) → a && b ≡ true → (a ≡ true) × (b ≡ true)
both true b e = (refl, e)
both false b e = clash cc

pub joined : (a b : Bool) → a ≡ true → b ≡ true → a && b ≡ true
joined true b e f = f
joined false b e f = e

pub picked : {A : Type 0} (c : Bool) (x y : A) → c ≡ true → pick c x y ≡ x
picked true x y e = refl
picked false x y e = clash cc

pub passed : {A : Type 0} (c : Bool) (x y : A) → c ≡ false → pick c x y ≡ y
passed true x y e = clash cc
passed false x y e = refl

pub sum_suc : (n : ℕ) (f : ℕ → ℕ) → sum (suc n) f ≡ sum n f + f n
unfolding sum
sum_suc n f = refl

pub sum_cong : (n : ℕ) (f g : ℕ → ℕ) → ((i : ℕ) → i < n → f i ≡ g i) → sum n f ≡ sum n g
unfolding sum
sum_cong zero f g h = refl
sum_cong (suc n) f g h = omega (arith, sum_cong n f g (λ i l. h i (omega arith)), h n (omega arith))

pub sum_mono : (n : ℕ) (f g : ℕ → ℕ) → ((i : ℕ) → i < n → f i ≤ g i) → sum n f ≤ sum n g
unfolding sum
sum_mono zero f g h = omega arith
sum_mono (suc n) f g h = omega (arith, sum_mono n f g (λ i l. h i (omega arith)), h n (omega arith))

pub sum_add : (n : ℕ) (f g : ℕ → ℕ) → sum n (λ i. f i + g i) ≡ sum n f + sum n g
unfolding sum
sum_add zero f g = refl
sum_add (suc n) f g = omega (arith, sum_add n f g)

pub sum_zero : (n : ℕ) (f : ℕ → ℕ) → ((i : ℕ) → i < n → f i ≡ 0) → sum n f ≡ 0
unfolding sum
sum_zero zero f h = refl
sum_zero (suc n) f h = omega (arith, sum_zero n f (λ i l. h i (omega arith)), h n (omega arith))

pub term_le : (n : ℕ) (f : ℕ → ℕ) (i : ℕ) → i < n → f i ≤ sum n f
unfolding sum
term_le zero f i h = absurd (omega arith)
term_le (suc n) f i h = elim (ℕ_discrete i n) [
  | yes e ↦ let l : f i ≤ f n = subst (λ k. f i ≤ f k) e (omega arith) in omega arith
  | no d ↦ omega (arith, term_le n f i (omega arith))
]

-- a sum above zero has a term above zero
pub record Term (n : ℕ) (f : ℕ → ℕ) : Type 0 where
  pub at : ℕ
  pub below : at < n
  pub positive : 0 < f at

pub some_term : (n : ℕ) (f : ℕ → ℕ) → 0 < sum n f → Term n f
unfolding sum
some_term zero f h = absurd (omega arith)
some_term (suc n) f h = elim (dec_lt 0 (f n)) [
  | yes l ↦ record { at = n; below = omega arith; positive = l }
  | no d ↦ let r : Term n f = some_term n f (omega arith) in
      record { at = r.at; below = omega (arith, r.below); positive = r.positive }
]

pub sum_single : (n : ℕ) (f : ℕ → ℕ) (i : ℕ) → i < n → ((k : ℕ) → k < n → (k ≡ i → ⊥) → f k ≡ 0) → sum n f ≡ f i
unfolding sum
sum_single zero f i h z = absurd (omega arith)
sum_single (suc n) f i h z = elim (ℕ_discrete n i) [
  | yes e ↦ subst (λ k. sum n f + f n ≡ f k) e (omega (arith, sum_zero n f (λ k l. z k (omega arith) (omega arith))))
  | no d ↦ omega (arith, sum_single n f i (omega arith) (λ k l. z k (omega arith)), z n (omega arith) d)
]

pub all_at : (n : ℕ) (f : ℕ → Bool) → all n f ≡ true → (i : ℕ) → i < n → f i ≡ true
unfolding all
all_at zero f e i h = absurd (omega arith)
all_at (suc n) f e i h = elim (ℕ_discrete n i) [
  | yes q ↦ subst (λ k. f k ≡ true) q (both (all n f) (f n) e).1
  | no d ↦ all_at n f (both (all n f) (f n) e).0 i (omega arith)
]

pub at_all : (n : ℕ) (f : ℕ → Bool) → ((i : ℕ) → i < n → f i ≡ true) → all n f ≡ true
unfolding all
at_all zero f h = refl
at_all (suc n) f h = joined (all n f) (f n) (at_all n f (λ i l. h i (omega arith))) (h n (omega arith))

-- what passed tests say, and the other way: `simp tests`
pub and_iff : (a b : Bool) → (a && b ≡ true) ↔ ((a ≡ true) × (b ≡ true))
and_iff a b = (both a b, λ h. joined a b h.0 h.1)

pub leb_iff : (a b : ℕ) → (leb a b ≡ true) ↔ (a ≤ b)
leb_iff a b = (leb-true a b, le-leb a b)

pub eqb_iff : (a b : ℕ) → (eqb a b ≡ true) ↔ (a ≡ b)
eqb_iff a b = (eqb-true a b, eq-eqb a b)

pub all_iff : (n : ℕ) (f : ℕ → Bool) → (all n f ≡ true) ↔ ((i : ℕ) → i < n → f i ≡ true)
all_iff n f = (all_at n f, at_all n f)

pub ruleset tests = (and_iff, leb_iff, eqb_iff, all_iff)
