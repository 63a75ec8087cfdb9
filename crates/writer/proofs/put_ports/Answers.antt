-- `put_ports` meets its contract: before each turn the acc lines of the first p ports are put.
use Rattle.writer.proofs.Texts.{adds_none, adds_as, adds_then, no_parts, part_more, port_lines}
use Rattle.writer.proofs.put_ports.Goals as goal

pub loop-p-init : goal.loop-p-init
loop-p-init c = adds_as (no_parts _ _) (adds_none _)

pub loop-p-preserved : goal.loop-p-preserved
loop-p-preserved c =
    adds_as (part_more _ _ _) (adds_then c.loop-p.invariant (adds_as (port_lines c.args.t _ _ c.port_at.ensures) c.put_carried.ensures))
