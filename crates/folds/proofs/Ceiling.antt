-- A quotient rounded up, as the library's `div_ceil` says it.
use Prim.Native.Nat.{ℕ, ◌+◌, ◌-◌, ◌*◌, ◌/◌, ◌%◌, ◌≤◌, ◌<◌, min}
use mathlib.Core.Path.{◌≡◌, ap}
use native.Mathlib.Decide.{ℕ_discrete}
use native.Mathlib.Nat.{mod-lt, div-add-mod', add-mul, one-mul}
use native.Mathlib.Omega.{arith}
use Rattle.std.proofs.lemmas.Nat.{div-mul-add}
use Rattle.folds.specs.Fold.{ceiling}

pub ceiling_lem : (x y : ℕ) → 1 ≤ y → x / y + min 1 (x % y) ≡ ceiling x y
ceiling_lem x y h =
    let l : x % y < y = mod-lt x h in
    elim (ℕ_discrete (x % y) 0) [
      | yes e ↦ omega (
        arith,
        div-mul-add (x / y) y (y - 1) (omega arith),
        ap (λ (n : ℕ). n / y) {x = x + (y - 1)} {y = x / y * y + (y - 1)} (omega (arith, div-add-mod' x y)),
      )
      | no d ↦ omega (
        arith,
        div-mul-add (x / y + 1) y (x % y - 1) (omega arith),
        ap (λ (n : ℕ). n / y) {x = x + (y - 1)} {y = (x / y + 1) * y + (x % y - 1)}
            (omega (arith, div-add-mod' x y, add-mul (x / y) 1 y, one-mul y)),
      )
    ]
