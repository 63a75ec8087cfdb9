-- `ports_empty` meets its contract: the loop has tested each number below the next one.
use mathlib.Core.Path.{◌≡◌}
use Rattle.folds.specs.Fold.{all}
use Rattle.model.specs.Tree.{port_of}
use Rattle.rules.specs.Rules.{is_empty}
use Rattle.rules.proofs.ports_empty.Given as goal

abbrev pub invariant-loop-p : goal.invariant-loop-p
invariant-loop-p l = l.ok ≡ all l.p (λ q. is_empty (port_of l.t l.j q))
