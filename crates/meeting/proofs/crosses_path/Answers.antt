-- `crosses_path` meets its contract: its own interconnect is the first crossing.
use mathlib.Core.Path.{sym, ap, ap₂, ◌∙◌}
use mathlib.Core.Bool.{Bool, ◌||◌}
use lib.Dec.{eqb}
use Rattle.model.specs.declared.Accelerator.{Accelerator}
use Rattle.model.specs.Tree.{above}
use Rattle.meeting.specs.Meeting.{crosses}
use Rattle.meeting.proofs.Crossings.{crosses_step}
use Rattle.meeting.proofs.crosses_path.Goals as goal

pub returns : goal.returns
returns c =
    let a = c.args in
    let e = c.accelerator_at-x.ensures in
    ap₂ (λ (x : Accelerator) (y : Bool). eqb a.i x.interconnect || y) e
    (c.crosses_above.ensures ∙ ap (λ (x : Accelerator). crosses a.i (above 15 a.t x.interconnect)) e)
    ∙ sym (crosses_step a.i _ _)
