-- `run_slots` meets its contract: what was written so far, with what is left of the run, is the run from the start, and what was told is
-- what its slots tell.
use mathlib.Core.Path.{◌≡◌}
use Prim.Native.Nat.{◌≤◌, ◌<◌, ◌-◌}
use lib.ListN.{length, take}
use Rattle.model.specs.declared.Channel.{Channel}
use Rattle.counts.proofs.Entries.{LimitsOf}
use Rattle.runner.specs.Run.{start}
use Rattle.runner.specs.Places.{left_at}
use Rattle.runner.proofs.Walk.{Fixed, Walk}
use Rattle.runner.specs.Answers.{wait_of}
use Rattle.runner.proofs.Telling.{Telling}
use Rattle.runner.proofs.run_slots.Given as goal

abbrev pub invariant-loop-used : goal.invariant-loop-used
invariant-loop-used l = Fixed l.t l.table l.accs
    × ((c : Channel) → LimitsOf l.t c l.table
    → Walk l.t c l.trace (Telling l.t (start l.t c (left_at l.trace 0)) l.a l.k l.initial.out l.out (wait_of l.told) l.used) (take l.used l.out) l.arrays l.line l.past l.used)
    × (length l.initial.out ≤ 65536)
    × ((l.k ≡ 0 → ⊥) → l.a < l.t.accs)
    × (l.window ≡ l.t.bus.window)

abbrev pub decreases-loop-used : goal.decreases-loop-used
decreases-loop-used l = length l.out - l.used
