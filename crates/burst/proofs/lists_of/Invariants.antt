-- `lists_of` meets its contract: the loop has filled both arrays below the next place.
use Rattle.folds.proofs.Entries.{Filled}
use Rattle.burst.specs.Burst.{start_of, beats_of, below}
use Rattle.burst.proofs.lists_of.Given as goal

abbrev pub invariant-loop-i : goal.invariant-loop-i
invariant-loop-i l = Filled 256 (below l.k (start_of l.n l.b)) l.starts l.i × Filled 256 (below l.k (beats_of l.n l.b)) l.beats l.i
