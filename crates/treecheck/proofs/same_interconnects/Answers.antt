-- `same_interconnects` meets its contract: the loop has tested each number below the next one.
use Prim.Native.Nat.{ℕ}
use mathlib.Core.Path.{sym}
use mathlib.Core.Bool.{Bool, ◌&&◌}
use Rattle.model.proofs.Sums.{all_none, all_turn}
use Rattle.model.specs.Tree.{interconnect_of}
use Rattle.treecheck.specs.Same.{same_int, same_ports}
use Rattle.treecheck.proofs.same_interconnects.Goals as goal

pub loop-i-init : goal.loop-i-init
loop-i-init c = sym (all_none _)

pub loop-i-preserved : goal.loop-i-preserved
loop-i-preserved c =
    let a = c.args in
    let f : ℕ → Bool = (λ j. same_int (interconnect_of a.t j) j a.d.now && same_ports a.t j a.d.now) in
    all_turn _ f _ _ c.loop-i.invariant c.same_interconnect-same.ensures
