-- `same_returns` meets its contract: the ones of the number, and each of its bits.
use Rattle.std.proofs.Common.{ap}
use lib.Count.{ones}
use Rattle.model.proofs.Lists.{and_cong}
use Rattle.callcheck.specs.Same.{same_returns}
use Rattle.callcheck.proofs.Bits.{bits_of}
use Rattle.callcheck.proofs.Tests.{eqb_cong}
use Rattle.callcheck.proofs.returns.same_returns.Goals as goal

pub returns : goal.returns
unfolding same_returns
returns c =
    let x = c.args in
    let same = c.returns_of-x.ensures in
    and_cong (eqb_cong (ap ones same) c.returning.ensures)
    (bits_of _ _ x.a x.s.slot x.delay x.d.now _ same c.same_bits.ensures)
