-- `same_int` meets its contract: each test is one of the definition.
use Rattle.treecheck.specs.Same.{same_int}
use mathlib.Core.Path.{ap}
use lib.Dec.{eqb}
use Rattle.model.proofs.Lists.{and_cong}
use Rattle.treecheck.proofs.same_int.Goals as goal

pub returns : goal.returns
unfolding same_int
returns c =
    and_cong (and_cong (ap (eqb _) c.place_said.ensures) (ap (eqb _) c.place_said-2.ensures))
    (ap (eqb _) c.grain_said.ensures)
