-- `put_ints` meets its contract: before each turn the first j int lines are put.
use Rattle.writer.proofs.Texts.{adds_none, adds_as, adds_then, no_rows, row_more}
use Rattle.writer.proofs.put_ints.Goals as goal

pub loop-j-init : goal.loop-j-init
loop-j-init c = adds_as (no_rows _) (adds_none _)

pub loop-j-preserved : goal.loop-j-preserved
loop-j-preserved c = adds_as (row_more _ _) (adds_then c.loop-j.invariant c.put_int.ensures)
