-- `same_acc` meets its contract: each test is one of the definition.
use Rattle.treecheck.specs.Same.{same_acc}
use mathlib.Core.Path.{ap}
use lib.Dec.{eqb}
use Rattle.model.proofs.Lists.{and_cong}
use Rattle.treecheck.proofs.same_acc.Goals as goal

pub returns : goal.returns
unfolding same_acc
returns c =
    (and_cong (and_cong (and_cong (and_cong (and_cong (and_cong (and_cong
    (ap (eqb _) c.entry.ensures)
    (ap (eqb _) c.entry-2.ensures))
    (ap (eqb _) c.entry-3.ensures))
    (ap (eqb _) c.entry-4.ensures))
    (ap (eqb _) c.entry-5.ensures))
    (ap (eqb _) c.entry-6.ensures))
    (ap (eqb _) c.entry-7.ensures))
    (ap (eqb _) c.entry-8.ensures))
