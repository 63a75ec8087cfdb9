-- `same_numbers` meets its contract: each test is one of the definition.
use Rattle.treecheck.specs.Same.{same_numbers}
use mathlib.Core.Path.{ap}
use lib.Dec.{eqb}
use Rattle.model.proofs.Lists.{and_cong}
use Rattle.treecheck.proofs.same_numbers.Goals as goal

pub returns : goal.returns
unfolding same_numbers
returns c =
    (and_cong (and_cong (and_cong (and_cong (and_cong (and_cong (and_cong (and_cong (and_cong
    (ap (eqb _) c.cell.ensures)
    (ap (eqb _) c.cell-2.ensures))
    (ap (eqb _) c.cell-3.ensures))
    (ap (eqb _) c.cell-4.ensures))
    (ap (eqb _) c.cell-5.ensures))
    (ap (eqb _) c.cell-6.ensures))
    (ap (eqb _) c.cell-7.ensures))
    (ap (eqb _) c.cell-8.ensures))
    (ap (eqb _) c.cell-9.ensures))
    (ap (eqb _) c.cell-10.ensures))
