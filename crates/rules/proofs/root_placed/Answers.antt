-- `root_placed` meets its contract: the tests are those of the rule, on what `interconnect_at` gives.
use mathlib.Core.Path.{ap}
use mathlib.Core.Bool.{◌&&◌}
use lib.Dec.{eqb}
use Rattle.model.specs.declared.Interconnect.{Interconnect}
use Rattle.rules.specs.Rules.{root_placed}
use Rattle.rules.proofs.root_placed.Goals as goal

pub returns : goal.returns
unfolding root_placed
returns c =
    ap (λ (x : Interconnect). eqb x.parent 0 && eqb x.port 0) c.interconnect_at-x.ensures
