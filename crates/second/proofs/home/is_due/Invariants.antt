-- `is_due` meets its contract: the loop has looked at each returning transaction before the next one.
use Rattle.std.proofs.Common.{◌≡◌}
use Rattle.second.specs.Machine.{due_below}
use Rattle.second.proofs.home.is_due.Given as goal

abbrev pub invariant-loop-k : goal.invariant-loop-k
invariant-loop-k l = l.found ≡ due_below l.k l.d l.a l.n
