-- `share_of` meets its contract: the first factor is that of its own crossing, the array's limits are the configuration's,
-- and four factors fit on any tables.
use mathlib.Core.Path.{ap₂, ◌∙◌}
use Prim.Native.Nat.{ℕ, ◌+◌, ◌*◌}
use Rattle.model.specs.declared.Accelerator.{Accelerator}
use Rattle.model.specs.Tree.{above}
use Rattle.shares.specs.Shares.{others_at, share_along}
use Rattle.shares.proofs.share_of.Goals as goal

pub returns : goal.returns
unfolding share_along
returns c =
    let t = c.args.t in
    let l = c.limits-most.ensures in
    let e = c.accelerator_at-x.ensures in
    let D : (ℕ → ℕ) → Accelerator → ℕ = λ φ x. 1 + others_at t φ x.interconnect x.port in
    let S : (ℕ → ℕ) → Accelerator → ℕ = λ φ x. share_along t φ (above 3 t x.interconnect) in
    ap₂ (λ (x y : ℕ). x * y) (c.factor_at.ensures.0 ∙ ap₂ D l e) (c.share_above.ensures.0 ∙ ap₂ S l e)
