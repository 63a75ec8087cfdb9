-- `put_end` meets its contract: the parts of the line are put one after the other.
use Rattle.journal.specs.Journal.{end_text}
use Rattle.put.proofs.Texts.{puts_then}
use Rattle.journal.proofs.put_end.Goals as goal

pub returns : goal.returns
unfolding end_text
returns c = puts_then c.put_outcome.ensures c.field.ensures
