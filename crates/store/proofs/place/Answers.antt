-- `place` meets its contract: the sum goes round, and then the place.
use Rattle.std.proofs.Common.{rules}
use Rattle.store.specs.Store.{place_of}
use Rattle.store.proofs.place.Goals as goal

pub returns : goal.returns
unfolding place_of
returns c = search rules
