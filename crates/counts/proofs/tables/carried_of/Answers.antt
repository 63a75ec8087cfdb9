-- `carried_of` meets its contract: the loop has filled the array below the next place.
use mathlib.Core.Path.{refl, ap}
use lib.ListN.{replicate}
use Rattle.model.specs.Tree.{empty_cell}
use Rattle.folds.proofs.Entries.{filled_none, filled_more}
use Rattle.counts.specs.Table.{cell_of}
use Rattle.counts.proofs.tables.carried_of.Goals as goal

pub loop-c-init : goal.loop-c-init
loop-c-init c = filled_none 120 _ (replicate 120 empty_cell) refl

pub loop-c-preserved : goal.loop-c-preserved
loop-c-preserved c =
    let l = c.loop-c in
    filled_more 120 _ l.carried l.c _ c.loop-c-test.true (ap cell_of c.port_at.ensures) l.invariant
