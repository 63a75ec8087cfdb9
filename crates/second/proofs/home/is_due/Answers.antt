-- `is_due` meets its contract: the loop has looked at each returning transaction before the next one.
use Rattle.second.proofs.Returns.{due_none, due_turn}
use Rattle.second.proofs.home.is_due.Goals as goal

pub loop-k-init : goal.loop-k-init
loop-k-init c = due_none _ _ _

pub loop-k-preserved : goal.loop-k-preserved
loop-k-preserved c = due_turn _ _ _ _ _ _ c.loop-k.invariant c.due.ensures
