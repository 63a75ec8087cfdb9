-- `put_all` meets its contract: the parts of the line are put one after the other.
use Rattle.listing.specs.Listing.{all_line}
use Rattle.put.proofs.Texts.{puts_then}
use Rattle.listing.proofs.put_all.Goals as goal

pub returns : goal.returns
unfolding all_line
returns c = puts_then c.bytes.ensures c.put_verdict.ensures
