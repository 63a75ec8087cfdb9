-- `put_piece` meets its contract: the two numbers are put one after the other.
use Rattle.put.proofs.Texts.{puts_then}
use Rattle.splitting.specs.Lines.{piece_text}
use Rattle.splitting.proofs.put_piece.Goals as goal

pub returns : goal.returns
unfolding piece_text
returns c = puts_then c.field.ensures c.field-2.ensures
