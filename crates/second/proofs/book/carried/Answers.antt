-- `carried` meets its contract: the loop has looked at each row before the next one.
use Rattle.std.proofs.Common.{◌∙◌}
use Rattle.second.proofs.Looked.{carried_none, carried_on, carried_off}
use Rattle.second.proofs.book.carried.Goals as goal
use Rattle.second.proofs.book.carried.Goals.{then-is_on, else-is_on}

pub loop-row-init : goal.loop-row-init
loop-row-init c = carried_none _ _ _

pub loop-row-preserved : goal.loop-row-preserved
loop-row-preserved c =
    elim c.if-is_on.branch [
      | then-is_on w ↦ w.found-is ∙ carried_on _ _ _ _ _ _ c.is_on.ensures w.if-is_on.true w.block-found.ensures
      | else-is_on w ↦ w.found-is ∙ carried_off _ _ _ _ _ _ c.is_on.ensures w.if-is_on.false c.loop-row.invariant
    ]
