-- The bits of the returns of an accelerator over one slot: each moves up by one, a service sets bit 0, and the one served r slots ago,
-- bit r, is home. By the digits of a number.
use Prim.Native.Nat.{ℕ, zero, suc, ◌+◌, ◌*◌, ◌-◌, ◌/◌, ◌%◌, ◌^◌, ◌≤◌, ◌<◌}
use mathlib.Core.Path.{◌≡◌, refl, sym, ap, subst, ◌∙◌}
use native.Mathlib.Omega.{arith}
use lib.Count.{ones}
use lib.Pow.{field, mod-mod-pow, shr_lt, shl-shr, shr-shr}
use Rattle.model.specs.Tree.{bit}
use Rattle.rules.proofs.Returns.{bit_low}
use Rattle.machine.specs.Machine.{older}
use Rattle.machine.proofs.Returns.{older_home, parts, no_ones, one_one}

-- one slot older, each bit stands one place higher
pub bit_older : (r d x : ℕ) → d < r → bit (d + 1) (older r x) ≡ bit d x
bit_older r d x h =
    ap (bit (d + 1)) (parts r x)
    ∙ ap (λ y. y % 2) (sym (ap (λ n. (x % 2 ^ r * 2) / 2 ^ n) {x = 1 + d} {y = d + 1} (omega arith)) ∙ sym (shr-shr (x % 2 ^ r * 2) 1 d)
    ∙ ap (λ y. y / 2 ^ d) (shl-shr (x % 2 ^ r) 1))
    ∙ ap (λ n. x % 2 ^ n / 2 ^ d % 2) {x = r} {y = (r - d) + d} (omega arith)
    ∙ ap (λ y. y % 2) (field x (r - d) d)
    ∙ ap (λ n. x / 2 ^ d % 2 ^ n % 2) {x = r - d} {y = (r - d - 1) + 1} (omega arith)
    ∙ mod-mod-pow (x / 2 ^ d) (r - d - 1) 1

-- a service sets bit 0 and leaves the others
module _ (x n : ℕ) (e : x % 2 ≡ 0) (h : n ≤ 1) where
  pub bit_now : bit 0 (x + n) ≡ n
  bit_now = bit_low (x + n) ∙ omega arith

  pub bit_past : (d : ℕ) → bit (suc d) (x + n) ≡ bit (suc d) x
  bit_past d =
      let half : (x + n) / 2 ≡ x / 2 = omega arith in
      let i : suc d ≡ 1 + d = omega arith in
      ap (λ k. (x + n) / 2 ^ k % 2) i ∙ ap (λ y. y % 2) (sym (shr-shr (x + n) 1 d) ∙ ap (λ y. y / 2 ^ d) half ∙ shr-shr x 1 d)
      ∙ sym (ap (λ k. x / 2 ^ k % 2) i)

small : (n : ℕ) → n < 2 → ones n ≡ n % 2
small zero h = no_ones 0 refl
small (suc zero) h = one_one
small (suc (suc n)) h = absurd (omega arith)

-- the transaction served r slots ago comes home, and no other
pub home : (r x : ℕ) → x < 2 ^ (r + 1) → ones x ≡ ones (older r x) + bit r x
home r x h =
    omega (arith, older_home r x, small (x / 2 ^ r) (shr_lt 1 r (subst (λ n. x < 2 ^ n) {y = 1 + r} (omega arith) h)))
