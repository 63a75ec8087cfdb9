-- `same_ports` meets its contract: the loop has tested each port below the next one.
use mathlib.Core.Path.{◌≡◌}
use Rattle.folds.specs.Fold.{all}
use lib.Dec.{eqb}
use Rattle.model.specs.Tree.{port_of}
use Rattle.second.specs.Rows.{carried_of}
use Rattle.treecheck.specs.Same.{code_of}
use Rattle.treecheck.proofs.same_ports.Given as goal

abbrev pub invariant-loop-p : goal.invariant-loop-p
invariant-loop-p l = l.same ≡ all l.p (λ q. eqb (code_of (port_of l.t l.i q)) (carried_of l.d l.i q))
