-- `same_records` meets its contract: the loop has tested each accelerator below the next one.
use Rattle.std.proofs.Common.{◌≡◌}
use Rattle.folds.specs.Fold.{all}
use Rattle.callcheck.specs.Same.{same_record}
use Rattle.callcheck.proofs.same_records.Given as goal

abbrev pub invariant-loop-a : goal.invariant-loop-a
invariant-loop-a l = l.same ≡ all l.a (λ i. same_record l.s i l.delay l.d)
