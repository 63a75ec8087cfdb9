-- The product of (1 + D) taken parent by parent, and room for its product in 64 bits on any tree whatever: at most 255 counts for
-- each of eight ports. By the clauses of the definitions.
use Prim.Native.Nat.{ℕ, zero, suc, ◌+◌, ◌*◌, ◌^◌, ◌-◌, ◌≤◌}
use mathlib.Core.Path.{◌≡◌, refl, sym, ap}
use native.Mathlib.Nat.{mul-le-mul, pow-succ', pow-le-pow_right, one-le-pow}
use native.Mathlib.Numerals.{sub-one}
use native.Mathlib.Omega.{arith}
use lib.Dec.{lit<}
use borrow.Author.Tests.{eq-eqb, ne_eqb}
use Rattle.model.specs.declared.Tree.{Tree}
use Rattle.model.specs.Tree.{parent_of, parent_port_of, above}
use Rattle.folds.proofs.Folds.{picked, passed}
use Rattle.shares.specs.Shares.{others_at, share_along}

module _ (t : Tree) (φ : ℕ → ℕ) where
  pub product_none : (n j : ℕ) → n ≡ 0 → 1 ≡ share_along t φ (above n t j)
  unfolding above share_along
  product_none n j e = rw e

  pub product_root : (n j : ℕ) → j ≡ 0 → 1 ≡ share_along t φ (above n t j)
  unfolding above share_along
  product_root zero j e = refl
  product_root (suc n) j e = ap (share_along t φ) (sym (picked _ _ _ (eq-eqb j 0 e)))

  pub product_step : (n j : ℕ) → (n ≡ 0 → ⊥) → (j ≡ 0 → ⊥)
      → (1 + others_at t φ (parent_of t j) (parent_port_of t j)) * share_along t φ (above (n - 1) t (parent_of t j))
      ≡ share_along t φ (above n t j)
  unfolding above share_along
  product_step zero j h k = absurd (h refl)
  product_step (suc n) j h k = rw sub-one (ap (share_along t φ) (sym (passed _ _ _ (ne_eqb j 0 k))))

pub product_most : (n f r : ℕ) → (n ≡ 0 → ⊥) → f ≤ 2041 → r ≤ 2041 ^ (n - 1) → f * r ≤ 2041 ^ n
product_most zero f r h a b = absurd (h refl)
product_most (suc n) f r h a b = omega (arith, mul-le-mul a (rw sub-one at b), pow-succ' 2041 n)

pub product_room : (n : ℕ) → n ≤ 3 → 2041 ^ n ≤ 8502154921
product_room n h = pow-le-pow_right (lit< tt) h

pub product_some : (n : ℕ) → 1 ≤ 2041 ^ n
product_some n = one-le-pow n 2041 (lit< tt)
