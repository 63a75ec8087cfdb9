-- `lists_of` meets its contract: the loop has filled both arrays below the next place.
use mathlib.Core.Path.{refl}
use lib.ListN.{replicate}
use Rattle.folds.proofs.Entries.{filled_none, filled_more}
use Rattle.burst.proofs.lists_of.Goals as goal

pub loop-i-init : goal.loop-i-init
loop-i-init c = (filled_none 256 _ (replicate 256 0) refl, filled_none 256 _ (replicate 256 0) refl)

pub loop-i-preserved : goal.loop-i-preserved
loop-i-preserved c =
    let l = c.loop-i in
    let h = c.loop-i-test.true in (
      filled_more 256 _ l.starts l.i _ h c.start_entry.ensures l.invariant.0,
      filled_more 256 _ l.beats l.i _ h c.beats_entry.ensures l.invariant.1,
    )
