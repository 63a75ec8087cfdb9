-- `turn_at` meets its contract: whether the last port goes on picks the case of the definition.
use mathlib.Core.Path.{ap, ap₂, ◌∙◌, subst}
use Prim.Native.Nat.{ℕ, ◌≤◌, ◌<◌, min}
use Rattle.model.specs.declared.Interconnect.{Interconnect}
use Rattle.model.specs.Beneath.{waits_under}
use Rattle.turns.specs.Turns.{next_port}
use Rattle.turns.proofs.Steps.{goes_port, goes_allowance, passes_port, passes_allowance}
use Rattle.turns.proofs.turn_at.Goals as goal

pub returns-then-allowance-gt0 : goal.returns-then-allowance-gt0
returns-then-allowance-gt0 c =
    let a = c.args in
    let h = subst (λ (n : ℕ). 0 < n) c.allowance_of-allowance.ensures c.if-allowance-gt0.true in
    (c.last_of-last.ensures ∙ goes_port a.t a.s a.j h, c.allowance_of-allowance.ensures ∙ goes_allowance a.t a.s a.j h)

pub returns : goal.returns
returns c =
    let a = c.args in
    let h = subst (λ (n : ℕ). n ≤ 0) c.allowance_of-allowance.ensures c.if-allowance-gt0.false in
    let port = c.next_port-port.ensures ∙ ap₂ next_port c.live_set.ensures c.last_of-last.ensures ∙ passes_port a.t a.s a.j h in
    let g = ap (λ (x : Interconnect). x.granularity) c.interconnect_at-x.ensures in
    let w = c.waits_under.ensures ∙ ap (waits_under a.t a.s a.j) port in
    (port, c.grant.ensures ∙ ap₂ min g w ∙ passes_allowance a.t a.s a.j h)
