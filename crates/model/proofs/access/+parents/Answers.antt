-- `parents` meets its contract: the fuel n falls, and each parent is one crossing of `above`.
use mathlib.Core.Path.{◌≡◌, ap, ◌∙◌}
use Prim.Native.Nat.{ℕ, ◌-◌, ◌+◌}
use native.Mathlib.Omega.{arith}
use lib.ListN.{length}
use borrow.Author.Rules.{rules}
use native.Mathlib.Nat.{pos_of_ne-zero}
use Rattle.model.specs.declared.Interconnect.{Interconnect}
use Rattle.model.specs.Tree.{above}
use Rattle.model.proofs.Sums.{parents_none, parents_root, parents_step}
use Rattle.model.proofs.access.+parents.Goals as goal

pub returns-then-n-eq0 : goal.returns-then-n-eq0
returns-then-n-eq0 t c = (parents_none _ _ _ c.if-n-eq0.true, search rules)

pub returns-then-j-eq0 : goal.returns-then-j-eq0
returns-then-j-eq0 t c = (parents_root _ _ _ c.if-j-eq0.true, search rules)

pub returns : goal.returns
returns t c =
    let a = c.args in
    let h : (a.n ≡ 0 → ⊥) = c.if-n-eq0.false in (
      ap (λ (k : ℕ). k + 1) (c.parents.ensures.0 ∙ ap (λ (x : Interconnect). length (above (a.n - 1) a.t x.parent)) c.interconnect_at-x.ensures)
          ∙ parents_step a.n a.t a.j h c.if-j-eq0.false,
      omega (arith, c.parents.ensures.1, pos_of_ne-zero h),
    )
