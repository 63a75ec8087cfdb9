-- `same_turn` meets its contract: each test is one of the definition.
use Rattle.model.proofs.Lists.{and_cong}
use Rattle.callcheck.specs.Same.{same_turn}
use Rattle.callcheck.proofs.Tests.{eqb_cong}
use Rattle.callcheck.proofs.same_turn.Goals as goal

pub returns : goal.returns
unfolding same_turn
returns c =
    and_cong (eqb_cong c.last_of.ensures c.last_port.ensures)
    (eqb_cong c.allowance_of.ensures c.left.ensures)
