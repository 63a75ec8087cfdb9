-- `unused_accelerator` meets its contract: the tests are those of the rule, on what `accelerator_at` gives.
use mathlib.Core.Path.{ap}
use mathlib.Core.Bool.{◌&&◌}
use lib.Dec.{eqb}
use Rattle.model.specs.declared.Accelerator.{Accelerator}
use Rattle.rules.specs.Rules.{unused_accelerator}
use Rattle.rules.proofs.unused_accelerator.Goals as goal

pub returns : goal.returns
unfolding unused_accelerator
returns c =
    ap (λ (x : Accelerator). eqb x.interconnect 0 && eqb x.port 0 && eqb x.phi 0 && eqb x.budget 0 && eqb x.reads 0 && eqb x.writes 0 && eqb x.computing 0 && eqb x.period 0)
    c.accelerator_at-x.ensures
