-- `put_accs` meets its contract: before each turn the acc lines of the first j interconnects are put.
use Rattle.writer.proofs.Texts.{adds_none, adds_as, adds_then, no_parts, part_more}
use Rattle.writer.proofs.put_accs.Goals as goal

pub loop-j-init : goal.loop-j-init
loop-j-init c = adds_as (no_parts _ _) (adds_none _)

pub loop-j-preserved : goal.loop-j-preserved
loop-j-preserved c = adds_as (part_more _ _ _) (adds_then c.loop-j.invariant c.put_ports.ensures)
