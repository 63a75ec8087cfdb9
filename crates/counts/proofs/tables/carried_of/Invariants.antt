-- `carried_of` meets its contract: the loop has filled the array below the next place.
use Rattle.folds.proofs.Entries.{Filled}
use Rattle.counts.specs.Table.{carried_by}
use Rattle.counts.proofs.tables.carried_of.Given as goal

abbrev pub invariant-loop-c : goal.invariant-loop-c
invariant-loop-c l = Filled 120 (carried_by l.t) l.carried l.c
