-- `accelerators_keep` meets its contract: the loop has tested each number below the next one.
use mathlib.Core.Path.{sym}
use Rattle.rules.specs.Rules.{accelerator_keeps}
use Rattle.model.proofs.Sums.{all_none, all_turn}
use Rattle.rules.proofs.accelerators_keep.Goals as goal

pub loop-a-init : goal.loop-a-init
loop-a-init c = sym (all_none _)

pub loop-a-preserved : goal.loop-a-preserved
loop-a-preserved c =
    all_turn _ (accelerator_keeps c.args.t) _ _ c.loop-a.invariant c.accelerator_keeps-ok.ensures
