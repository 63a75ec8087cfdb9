-- `ticked` meets its contract: the tests of the window pick the case of the definition.
use Rattle.machine.proofs.Steps.{tick_none, tick_opens, tick_stays}
use Rattle.machine.proofs.ticked.Goals as goal

pub returns-then-window-eq0 : goal.returns-then-window-eq0
returns-then-window-eq0 c =
    let x = c.args in
    tick_none x.t x.s _ c.all_older-older.ensures c.if-window-eq0.true

pub returns-then-slot-window : goal.returns-then-slot-window
returns-then-slot-window c =
    let x = c.args in
    tick_opens x.t x.s _ c.all_older-older.ensures c.if-slot-window.true

pub returns-else-slot-window : goal.returns-else-slot-window
returns-else-slot-window c =
    let x = c.args in
    tick_stays x.t x.s _ c.all_older-older.ensures c.if-slot-window.false
