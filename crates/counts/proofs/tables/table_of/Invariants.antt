-- `table_of` meets its contract: the loop has filled the arrays below the next place, those of fifteen up to their end.
use Rattle.counts.proofs.Entries.{FilledTo}
use Rattle.counts.proofs.tables.table_of.Given as goal

abbrev pub invariant-loop-a : goal.invariant-loop-a
invariant-loop-a l = FilledTo l.t l.fn.channel l.table l.a l.a
