-- `put_tree` meets its contract: the bus line, the int lines and the acc lines are put one after the other.
use Rattle.writer.proofs.Texts.{adds_as, adds_then, text_parts}
use Rattle.writer.proofs.put_tree.Goals as goal

pub returns : goal.returns
returns c =
    adds_as (text_parts c.args.t) (adds_then (adds_then c.put_bus.ensures c.put_ints.ensures) c.put_accs.ensures)
