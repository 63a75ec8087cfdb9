-- `none_waits` meets its contract: the loop has tested each number below the next one.
use mathlib.Core.Path.{ap, sym}
use Prim.Native.Nat.{ℕ}
use lib.Dec.{eqb}
use Rattle.model.specs.Tree.{waiting_of}
use Rattle.model.proofs.Sums.{all_none, all_turn}
use Rattle.machine.proofs.none_waits.Goals as goal

pub loop-a-init : goal.loop-a-init
loop-a-init c = sym (all_none _)

pub loop-a-preserved : goal.loop-a-preserved
loop-a-preserved c =
    all_turn _ (λ b. eqb (waiting_of c.args.s b) 0) _ _ c.loop-a.invariant (ap (λ (n : ℕ). eqb n 0) c.waiting_of.ensures)
