-- `accelerators_keep` meets its contract: the loop has tested each number below the next one.
use mathlib.Core.Path.{◌≡◌}
use Rattle.folds.specs.Fold.{all}
use Rattle.rules.specs.Rules.{accelerator_keeps}
use Rattle.rules.proofs.accelerators_keep.Given as goal

abbrev pub invariant-loop-a : goal.invariant-loop-a
invariant-loop-a l = l.ok ≡ all l.a (accelerator_keeps l.t)
