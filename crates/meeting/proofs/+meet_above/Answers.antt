-- `meet_above` meets its contract: the fuel n falls, and each parent is one crossing of `above`.
use mathlib.Core.List.{List}
use mathlib.Core.Path.{sym, ap, ◌∙◌}
use Rattle.model.specs.declared.Interconnect.{Interconnect}
use Rattle.model.specs.Tree.{Crossing, above, path}
use Rattle.meeting.specs.Meeting.{crosses, meeting}
use Rattle.meeting.proofs.Crossings.{above_none, above_root, above_step, meeting_none, meeting_here, meeting_above}
use Prim.Native.Nat.{◌-◌}
use Rattle.meeting.proofs.+meet_above.Goals as goal

pub returns-then-n-eq0 : goal.returns-then-n-eq0
returns-then-n-eq0 t c = meeting_none _ _ (above_none _ _ _ c.if-n-eq0.true)

pub returns-then-j-eq0 : goal.returns-then-j-eq0
returns-then-j-eq0 t c = meeting_none _ _ (above_root _ _ _ c.if-j-eq0.true)

pub returns-then-crosses_path : goal.returns-then-crosses_path
returns-then-crosses_path t c =
    let a = c.args in
    let e = c.interconnect_at-x.ensures in
    let y = sym (c.crosses_path.ensures ∙ ap (λ (x : Interconnect). crosses x.parent (path a.t a.b)) e) ∙ c.if-crosses_path.true in
    let up = above_step a.n a.t a.j c.if-n-eq0.false c.if-j-eq0.false in
    ap (λ (x : Interconnect). x.parent) e
    ∙ sym (ap (λ (x : Crossing). x.interconnect) (ap (λ (xs : List Crossing). meeting xs (path a.t a.b)) up ∙ meeting_here _ _ _ y))

pub returns : goal.returns
returns t c =
    let a = c.args in
    let e = c.interconnect_at-x.ensures in
    let y = sym (c.crosses_path.ensures ∙ ap (λ (x : Interconnect). crosses x.parent (path a.t a.b)) e) ∙ c.if-crosses_path.false in
    let up = above_step a.n a.t a.j c.if-n-eq0.false c.if-j-eq0.false in
    c.meet_above.ensures ∙ ap (λ (x : Interconnect). (meeting (above (a.n - 1) a.t x.parent) (path a.t a.b)).interconnect) e
    ∙ sym (ap (λ (x : Crossing). x.interconnect) (ap (λ (xs : List Crossing). meeting xs (path a.t a.b)) up ∙ meeting_above _ _ _ y))
