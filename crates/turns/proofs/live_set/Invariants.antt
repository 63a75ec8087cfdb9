-- `live_set` meets its contract: the loop has the bits of the ports below the next one.
use mathlib.Core.Path.{◌≡◌}
use lib.Dec.{ltb}
use Rattle.model.specs.Beneath.{waits_under}
use Rattle.turns.specs.Turns.{bits_below}
use Rattle.turns.proofs.live_set.Given as goal

abbrev pub invariant-loop-p : goal.invariant-loop-p
invariant-loop-p l = l.set ≡ bits_below l.p (λ q. ltb 0 (waits_under l.t l.s l.j q))
