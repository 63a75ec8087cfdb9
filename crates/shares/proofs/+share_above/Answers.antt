-- `share_above` meets its contract: the two ends and the step up are those of the product, and at most three factors fit.
use mathlib.Core.Path.{ap, ap₂, ◌∙◌}
use Prim.Native.Nat.{ℕ, ◌+◌, ◌*◌, ◌-◌}
use native.Mathlib.Omega.{arith}
use Rattle.model.specs.declared.Interconnect.{Interconnect}
use Rattle.model.specs.Tree.{above}
use Rattle.model.specs.Beneath.{weight_in}
use Rattle.shares.specs.Shares.{others_at, share_along}
use Rattle.shares.proofs.Product.{product_none, product_root, product_step, product_most, product_room, product_some}
use Rattle.shares.proofs.+share_above.Goals as goal

pub returns-then-n-eq0 : goal.returns-then-n-eq0
returns-then-n-eq0 t c = (product_none _ _ _ _ c.if-n-eq0.true, product_some _)

pub returns-then-j-eq0 : goal.returns-then-j-eq0
returns-then-j-eq0 t c = (product_root _ _ _ _ c.if-j-eq0.true, product_some _)

pub overflow_mul-result : goal.overflow_mul-result
overflow_mul-result t c =
    let h = c.if-n-eq0.false in
    let most = product_most c.args.n _ _ h c.factor_at.ensures.1 c.share_above.ensures.1 in
    record { fits = omega (arith, most, product_room c.args.n c.requires) }

pub returns : goal.returns
returns t c =
    let a = c.args in
    let h = c.if-n-eq0.false in
    let e = c.interconnect_at-x.ensures in
    let φ = weight_in a.limits in
    let f = c.factor_at.ensures.0 ∙ ap (λ (x : Interconnect). 1 + others_at a.t φ x.parent x.port) e in
    let up : Interconnect → ℕ = λ x. share_along a.t φ (above (a.n - 1) a.t x.parent) in
    let r = c.share_above.ensures.0 ∙ ap up e in (
      ap₂ (λ (x y : ℕ). x * y) f r ∙ product_step a.t φ a.n a.j h c.if-j-eq0.false,
      product_most a.n _ _ h c.factor_at.ensures.1 c.share_above.ensures.1,
    )
