-- `none_held` meets its contract: the loop has tested each number below the next one.
use mathlib.Core.Path.{refl, sym}
use lib.Dec.{eqb}
use Rattle.model.proofs.Sums.{all_none, all_turn}
use Rattle.runner.specs.Offers.{held_of}
use Rattle.runner.proofs.steps.none_held.Goals as goal

pub loop-h-init : goal.loop-h-init
loop-h-init c = sym (all_none _)

pub loop-h-preserved : goal.loop-h-preserved
loop-h-preserved c = all_turn _ (λ b. eqb (held_of c.args.held.now b) 0) _ _ c.loop-h.invariant refl
