-- `interconnects_keep` meets its contract: the loop has tested each number below the next one.
use mathlib.Core.Path.{sym}
use Rattle.rules.specs.Rules.{interconnect_keeps}
use Rattle.model.proofs.Sums.{all_none, all_turn}
use Rattle.rules.proofs.interconnects_keep.Goals as goal

pub loop-j-init : goal.loop-j-init
loop-j-init c = sym (all_none _)

pub loop-j-preserved : goal.loop-j-preserved
loop-j-preserved c =
    all_turn _ (interconnect_keeps c.args.t) _ _ c.loop-j.invariant c.interconnect_keeps-ok.ensures
