-- `put_list` meets its contract: the lines of the pieces, and then the last line.
use Rattle.put.proofs.Texts.{puts_then}
use Rattle.splitting.specs.Lines.{list_text}
use Rattle.splitting.proofs.put_list.Goals as goal

pub returns : goal.returns
unfolding list_text
returns c = puts_then c.put_pieces.ensures c.put_count.ensures
