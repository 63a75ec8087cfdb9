-- `unused_interconnect` meets its contract: the tests are those of the rule, on what the callees give.
use mathlib.Core.Path.{ap}
use mathlib.Core.Bool.{◌&&◌}
use lib.Dec.{eqb}
use Rattle.model.specs.declared.Interconnect.{Interconnect}
use Rattle.rules.specs.Rules.{unused_interconnect}
use Rattle.model.proofs.Lists.{and_cong}
use Rattle.rules.proofs.unused_interconnect.Goals as goal

pub returns : goal.returns
unfolding unused_interconnect
returns c =
    and_cong (ap (λ (x : Interconnect). eqb x.granularity 0 && eqb x.parent 0 && eqb x.port 0) c.interconnect_at-x.ensures)
    c.ports_empty.ensures
