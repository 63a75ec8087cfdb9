-- `put_range` meets its contract: its words are stored one after the other.
use Rattle.put.proofs.Texts.{puts_then}
use Rattle.reasons.proofs.values.put_range.Goals as goal

pub returns : goal.returns
returns c =
    puts_then (puts_then (puts_then (puts_then c.number.ensures c.bytes.ensures) c.number-2.ensures) c.bytes-2.ensures) c.number-3.ensures
