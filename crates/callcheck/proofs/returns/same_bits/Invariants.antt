-- `same_bits` meets its contract: the loop has tested each bit below the next one.
use Rattle.std.proofs.Common.{◌≡◌}
use Rattle.folds.specs.Fold.{all}
use Rattle.callcheck.specs.Same.{due_slot, same_return}
use Rattle.callcheck.proofs.returns.same_bits.Given as goal

abbrev pub invariant-loop-k : goal.invariant-loop-k
invariant-loop-k l = l.same ≡ all l.k (λ i. same_return l.x i l.a (due_slot l.n l.delay i) l.d)
