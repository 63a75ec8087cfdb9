-- `same_interconnects` meets its contract: the loop has tested each number below the next one.
use mathlib.Core.Path.{◌≡◌}
use mathlib.Core.Bool.{◌&&◌}
use Rattle.folds.specs.Fold.{all}
use Rattle.model.specs.Tree.{interconnect_of}
use Rattle.treecheck.specs.Same.{same_int, same_ports}
use Rattle.treecheck.proofs.same_interconnects.Given as goal

abbrev pub invariant-loop-i : goal.invariant-loop-i
invariant-loop-i l = l.same ≡ all l.i (λ j. same_int (interconnect_of l.t j) j l.d && same_ports l.t j l.d)
