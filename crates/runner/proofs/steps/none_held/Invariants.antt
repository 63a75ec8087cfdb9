-- `none_held` meets its contract: the loop has tested each number below the next one.
use mathlib.Core.Path.{◌≡◌}
use lib.Dec.{eqb}
use Rattle.folds.specs.Fold.{all}
use Rattle.runner.specs.Offers.{held_of}
use Rattle.runner.proofs.steps.none_held.Given as goal

abbrev pub invariant-loop-h : goal.invariant-loop-h
invariant-loop-h l = l.ok ≡ all l.h-index (λ b. eqb (held_of l.held b) 0)
