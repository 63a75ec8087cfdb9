-- `no_gap` meets its contract: the loop has tested each number below the next one.
use mathlib.Core.Path.{ap, sym}
use lib.Dec.{ltb}
use Rattle.model.specs.declared.Accelerator.{Accelerator}
use Rattle.model.specs.Tree.{phi_of}
use Rattle.model.proofs.Sums.{all_none, all_turn}
use Rattle.placing.proofs.no_gap.Goals as goal

pub loop-a-init : goal.loop-a-init
loop-a-init c = sym (all_none _)

pub loop-a-preserved : goal.loop-a-preserved
loop-a-preserved c =
    all_turn _ (λ k. ltb 0 (phi_of c.args.t k)) _ _ c.loop-a.invariant (ap (λ (x : Accelerator). ltb 0 x.phi) c.accelerator_at.ensures)
