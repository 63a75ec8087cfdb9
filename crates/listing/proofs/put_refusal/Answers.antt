-- `put_refusal` meets its contract: the parts of the line are put one after the other.
use Rattle.listing.specs.Listing.{refusal_text}
use Rattle.put.proofs.Texts.{puts_then}
use Rattle.listing.proofs.put_refusal.Goals as goal

pub returns : goal.returns
unfolding refusal_text
returns c = puts_then (puts_then c.bytes.ensures c.field.ensures) c.field-2.ensures
