-- `put_line` meets its contract: the name, the numbers and the LF are put one after the other.
use Rattle.writer.proofs.Texts.{adds_then}
use Rattle.writer.proofs.put_line.Goals as goal

pub returns : goal.returns
returns c = adds_then (adds_then c.bytes.ensures c.put_fields.ensures) c.byte.ensures
