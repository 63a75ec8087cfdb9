-- `crosses_above` meets its contract: the fuel n falls, and each parent is one crossing of `above`.
use mathlib.Core.Path.{sym, ap, ap₂, ◌∙◌}
use mathlib.Core.Bool.{Bool, ◌||◌}
use Prim.Native.Nat.{◌-◌}
use lib.Dec.{eqb}
use Rattle.model.specs.declared.Interconnect.{Interconnect}
use Rattle.model.specs.Tree.{above}
use Rattle.meeting.specs.Meeting.{crosses}
use Rattle.meeting.proofs.Crossings.{above_none, above_root, above_step, crosses_none, crosses_step}
use Rattle.meeting.proofs.+crosses_above.Goals as goal

pub returns-then-n-eq0 : goal.returns-then-n-eq0
returns-then-n-eq0 t c = crosses_none _ _ (above_none _ _ _ c.if-n-eq0.true)

pub returns-then-j-eq0 : goal.returns-then-j-eq0
returns-then-j-eq0 t c = crosses_none _ _ (above_root _ _ _ c.if-j-eq0.true)

pub returns : goal.returns
returns t c =
    let a = c.args in
    let e = c.interconnect_at-x.ensures in
    let up = above_step a.n a.t a.j c.if-n-eq0.false c.if-j-eq0.false in
    ap₂ (λ (x : Interconnect) (y : Bool). eqb a.i x.parent || y) e
    (c.crosses_above.ensures ∙ ap (λ (x : Interconnect). crosses a.i (above (a.n - 1) a.t x.parent)) e)
    ∙ sym (ap (crosses a.i) up ∙ crosses_step a.i _ _)
