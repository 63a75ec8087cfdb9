-- `choose` meets its contract: the levels fall, and each return is the case of the definition that the turn's port, or what it carries,
-- picks.
use mathlib.Core.Path.{refl, ◌∙◌}
use Rattle.counts.proofs.Choosing.{within, on_none, stored_portless, stored_goes}
use Rattle.counts.proofs.Ports.+choose.Goals as goal

pub returns-then-levels-i : goal.returns-then-levels-i
returns-then-levels-i t c = on_none _ _ _ _ c.if-levels-i.true

pub returns-then-turn-gt7 : goal.returns-then-turn-gt7
returns-then-turn-gt7 t c =
    let x = c.args in
    stored_portless x.table.now x.self.now x.levels x.j (within x.levels x.j c.if-levels-i.false) _ c.turn_at-turn.ensures c.if-turn-gt7.true

-- one transaction has passed: what the choice goes on to is what it comes to
pub returns-in-Empty : goal.returns-in-Empty
returns-in-Empty t c =
    let x = c.args in
    stored_goes x.table.now x.self.now x.levels x.j (within x.levels x.j c.if-levels-i.false) _ c.turn_at-turn.ensures c.if-turn-gt7.false
    _ refl _ c.pass_down.ensures _ c.in-Empty.is

pub returns-in-Acc : goal.returns-in-Acc
returns-in-Acc t c =
    let x = c.args in
    stored_goes x.table.now x.self.now x.levels x.j (within x.levels x.j c.if-levels-i.false) _ c.turn_at-turn.ensures c.if-turn-gt7.false
    _ refl _ c.pass_down.ensures _ c.in-Acc.is

pub returns-in-Int : goal.returns-in-Int
returns-in-Int t c =
    let x = c.args in
    c.choose.ensures ∙ stored_goes x.table.now x.self.now x.levels x.j (within x.levels x.j c.if-levels-i.false) _ c.turn_at-turn.ensures c.if-turn-gt7.false
    _ refl _ c.pass_down.ensures _ c.in-Int.is
