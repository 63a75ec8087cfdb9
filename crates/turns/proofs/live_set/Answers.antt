-- `live_set` meets its contract: the loop has the bits of the ports below the next one.
use mathlib.Core.Path.{ap, ◌∙◌}
use Prim.Native.Nat.{ℕ}
use lib.Dec.{ltb}
use Rattle.folds.specs.Fold.{pick}
use Rattle.model.specs.Beneath.{waits_under}
use Rattle.turns.proofs.Steps.{test_bit, live_none, live_turn}
use Rattle.turns.proofs.live_set.Goals as goal

pub loop-p-init : goal.loop-p-init
loop-p-init c = live_none _

pub loop-p-preserved : goal.loop-p-preserved
loop-p-preserved c =
    live_turn _ _ _ (λ q. ltb 0 (waits_under c.args.t c.args.s c.args.j q)) c.loop-p-test.true c.loop-p.invariant
    (c.from.ensures ∙ test_bit _ ∙ ap (λ (n : ℕ). pick {A = ℕ} (ltb 0 n) 1 0) c.waits_under.ensures)
