-- `join` meets its contract: its tests are those of the definition.
use mathlib.Core.Path.{sym, ◌∙◌, ap₂}
use mathlib.Core.Bool.{◌&&◌}
use Rattle.burst.proofs.Joins.{join_refused, join_done, join_taken}
use Rattle.burst.proofs.joiner.join.Goals as goal

pub returns-then-not-joiner_keeps-in_turn : goal.returns-then-not-joiner_keeps-in_turn
returns-then-not-joiner_keeps-in_turn c =
    let a = c.args in
    let e = ap₂ ◌&&◌ c.joiner_keeps.ensures c.in_turn.ensures in
    join_refused a.j a.number (sym e ∙ c.if-not-joiner_keeps-in_turn.true)

pub returns-then-number-j : goal.returns-then-number-j
returns-then-number-j c =
    let a = c.args in
    let e = ap₂ ◌&&◌ c.joiner_keeps.ensures c.in_turn.ensures in
    join_done a.j a.number (sym e ∙ c.if-not-joiner_keeps-in_turn.false) c.if-number-j.true

pub returns : goal.returns
returns c =
    let a = c.args in
    let e = ap₂ ◌&&◌ c.joiner_keeps.ensures c.in_turn.ensures in
    join_taken a.j a.number (sym e ∙ c.if-not-joiner_keeps-in_turn.false) c.if-number-j.false
