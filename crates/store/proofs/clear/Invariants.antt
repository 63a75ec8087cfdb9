-- `clear` meets its contract: the loop has set each number before the next one.
use Rattle.std.proofs.Common.{◌≡◌}
use Rattle.store.specs.Store.{cleared}
use Rattle.store.proofs.clear.Given as goal

abbrev pub invariant-loop-i : goal.invariant-loop-i
invariant-loop-i l = l.d ≡ cleared l.initial.d l.part l.i
