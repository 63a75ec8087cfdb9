-- `same_turns` meets its contract: the loop has tested each interconnect below the next one.
use Rattle.std.proofs.Common.{sym}
use Rattle.model.proofs.Sums.{all_none, all_turn}
use Rattle.callcheck.specs.Same.{same_turn}
use Rattle.callcheck.proofs.same_turns.Goals as goal

pub loop-j-init : goal.loop-j-init
loop-j-init c = sym (all_none _)

pub loop-j-preserved : goal.loop-j-preserved
loop-j-preserved c =
    let a = c.args in
    all_turn _ (λ i. same_turn a.s i a.d.now) _ _ c.loop-j.invariant c.same_turn-same.ensures
