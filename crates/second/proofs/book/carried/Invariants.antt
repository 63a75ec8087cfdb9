-- `carried` meets its contract: the loop has looked at each row before the next one.
use Rattle.std.proofs.Common.{◌≡◌}
use Rattle.second.specs.Rows.{carried_below}
use Rattle.second.proofs.book.carried.Given as goal

abbrev pub invariant-loop-row : goal.invariant-loop-row
invariant-loop-row l = l.found ≡ carried_below l.row l.d l.i l.p
