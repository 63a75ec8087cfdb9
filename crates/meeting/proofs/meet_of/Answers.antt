-- `meet_of` meets its contract: its own interconnect is the first crossing.
use mathlib.Core.Path.{sym, ap, ◌∙◌}
use Rattle.model.specs.declared.Accelerator.{Accelerator}
use Rattle.model.specs.Tree.{Crossing, above, path}
use Rattle.meeting.specs.Meeting.{crosses, meeting}
use Rattle.meeting.proofs.Crossings.{meeting_here, meeting_above}
use Rattle.meeting.proofs.meet_of.Goals as goal

pub returns-then-crosses_path : goal.returns-then-crosses_path
returns-then-crosses_path c =
    let a = c.args in
    let e = c.accelerator_at-x.ensures in
    let y = sym (c.crosses_path.ensures ∙ ap (λ (x : Accelerator). crosses x.interconnect (path a.t a.b)) e) ∙ c.if-crosses_path.true in
    ap (λ (x : Accelerator). x.interconnect) e ∙ sym (ap (λ (x : Crossing). x.interconnect) (meeting_here _ _ _ y))

pub returns : goal.returns
returns c =
    let a = c.args in
    let e = c.accelerator_at-x.ensures in
    let y = sym (c.crosses_path.ensures ∙ ap (λ (x : Accelerator). crosses x.interconnect (path a.t a.b)) e)
    ∙ c.if-crosses_path.false in
    c.meet_above.ensures ∙ ap (λ (x : Accelerator). (meeting (above 15 a.t x.interconnect) (path a.t a.b)).interconnect) e
    ∙ sym (ap (λ (x : Crossing). x.interconnect) (meeting_above _ _ _ y))
