-- `no_gap` meets its contract: the loop has tested each number below the next one.
use mathlib.Core.Path.{◌≡◌}
use lib.Dec.{ltb}
use Rattle.folds.specs.Fold.{all}
use Rattle.model.specs.Tree.{phi_of}
use Rattle.placing.proofs.no_gap.Given as goal

abbrev pub invariant-loop-a : goal.invariant-loop-a
invariant-loop-a l = l.ok ≡ all l.a (λ k. ltb 0 (phi_of l.t k))
