-- `same_turns` meets its contract: the loop has tested each interconnect below the next one.
use Rattle.std.proofs.Common.{◌≡◌}
use Rattle.folds.specs.Fold.{all}
use Rattle.callcheck.specs.Same.{same_turn}
use Rattle.callcheck.proofs.same_turns.Given as goal

abbrev pub invariant-loop-j : goal.invariant-loop-j
invariant-loop-j l = l.same ≡ all l.j (λ i. same_turn l.s i l.d)
