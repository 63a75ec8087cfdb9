-- `same_accelerators` meets its contract: the loop has tested each number below the next one.
use mathlib.Core.Path.{◌≡◌}
use Rattle.folds.specs.Fold.{all}
use Rattle.model.specs.Tree.{accelerator_of}
use Rattle.treecheck.specs.Same.{same_acc}
use Rattle.treecheck.proofs.same_accelerators.Given as goal

abbrev pub invariant-loop-a : goal.invariant-loop-a
invariant-loop-a l = l.same ≡ all l.a (λ b. same_acc (accelerator_of l.t b) b l.d)
