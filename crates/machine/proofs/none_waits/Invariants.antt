-- `none_waits` meets its contract: the loop has tested each number below the next one.
use mathlib.Core.Path.{◌≡◌}
use lib.Dec.{eqb}
use Rattle.folds.specs.Fold.{all}
use Rattle.model.specs.Tree.{waiting_of}
use Rattle.machine.proofs.none_waits.Given as goal

abbrev pub invariant-loop-a : goal.invariant-loop-a
invariant-loop-a l = l.ok ≡ all l.a (λ b. eqb (waiting_of l.s b) 0)
