-- `field` meets its contract: the number's text, and then the byte after it.
use Rattle.put.proofs.Texts.{puts_then}
use Rattle.put.proofs.Text.field.Goals as goal

pub returns : goal.returns
returns c = puts_then c.number.ensures c.byte.ensures
