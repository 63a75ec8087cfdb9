-- `interconnects_keep` meets its contract: the loop has tested each number below the next one.
use mathlib.Core.Path.{◌≡◌}
use Rattle.folds.specs.Fold.{all}
use Rattle.rules.specs.Rules.{interconnect_keeps}
use Rattle.rules.proofs.interconnects_keep.Given as goal

abbrev pub invariant-loop-j : goal.invariant-loop-j
invariant-loop-j l = l.ok ≡ all l.j (interconnect_keeps l.t)
