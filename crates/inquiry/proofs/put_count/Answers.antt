-- `put_count` meets its contract: the parts of the line are put one after the other.
use Rattle.put.proofs.Texts.{puts_then}
use Rattle.inquiry.specs.Lines.{count_text}
use Rattle.inquiry.proofs.put_count.Goals as goal

pub returns : goal.returns
unfolding count_text
returns c = puts_then c.bytes.ensures c.field.ensures
