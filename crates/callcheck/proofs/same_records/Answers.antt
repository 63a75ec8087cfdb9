-- `same_records` meets its contract: the loop has tested each accelerator below the next one.
use Rattle.std.proofs.Common.{sym}
use Rattle.model.proofs.Sums.{all_none, all_turn}
use Rattle.callcheck.specs.Same.{same_record}
use Rattle.callcheck.proofs.same_records.Goals as goal

pub loop-a-init : goal.loop-a-init
loop-a-init c = sym (all_none _)

pub loop-a-preserved : goal.loop-a-preserved
loop-a-preserved c =
    let a = c.args in
    all_turn _ (λ i. same_record a.s i a.delay a.d.now) _ _ c.loop-a.invariant c.same_record-same.ensures
