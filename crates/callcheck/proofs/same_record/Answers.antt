-- `same_record` meets its contract: each test is one of the definition.
use Rattle.model.proofs.Lists.{and_cong}
use Rattle.callcheck.specs.Same.{same_record}
use Rattle.callcheck.proofs.Tests.{eqb_cong}
use Rattle.callcheck.proofs.same_record.Goals as goal

pub returns : goal.returns
unfolding same_record
returns c =
    and_cong
    (and_cong (eqb_cong c.waiting_of.ensures c.waiting.ensures)
    (eqb_cong c.admitted_of.ensures c.used.ensures))
    c.same_returns.ensures
