-- `weight_beneath` meets its contract: the levels fall, and the loop has added the ports below the next one.
use mathlib.Core.List.{List}
use mathlib.Core.Path.{◌≡◌}
use Prim.Native.Nat.{ℕ, ◌≤◌, ◌-◌, ◌*◌, ◌^◌}
use Rattle.model.specs.declared.Tree.{Tree}
use Rattle.model.specs.declared.Port.{Port}
use Rattle.folds.specs.Fold.{sum as total}
use Rattle.model.specs.Tree.{port_of}
use Rattle.model.specs.Beneath.{weight_in, under, inside}
use Rattle.model.proofs.access.+weight_beneath.Given as goal

-- the weight beneath a port that carries x, over n levels; beneath port q of interconnect j, one level less
abbrev pub beneath : Tree → List ℕ → ℕ → Port → ℕ
beneath t ws n x = under (weight_in ws) (inside n t (weight_in ws)) x

abbrev pub at_port : Tree → List ℕ → ℕ → ℕ → ℕ → ℕ
at_port t ws levels j q = beneath t ws (levels - 1) (port_of t j q)

abbrev pub decreases-weight_beneath : goal.decreases-weight_beneath
decreases-weight_beneath l = l.levels

abbrev pub invariant-loop-p : goal.invariant-loop-p
invariant-loop-p l = (l.sum ≡ total l.p (at_port l.t l.weights l.levels l.j)) × (l.sum ≤ l.p * (255 * 8 ^ (l.levels - 1)))
