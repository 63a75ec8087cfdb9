-- `put_slots` meets its contract: before each turn the lines of the first i slots are put.
use Prim.Native.Nat.{◌+◌}
use native.Mathlib.Omega.{arith}
use lib.ListN.{get_or}
use Rattle.journal.specs.Journal.{slot_text}
use Rattle.put.proofs.Lines.{lines_none, lines_turn}
use Rattle.journal.proofs.Paged.{slots_end}
use Rattle.journal.proofs.put_slots.Goals as goal

pub loop-i-init : goal.loop-i-init
loop-i-init c = lines_none 42 _ _

pub loop-i-preserved : goal.loop-i-preserved
loop-i-preserved c = lines_turn 42 (λ j. slot_text (c.args.first + j) (get_or c.args.served.now (c.args.first + j) 0)) _ c.loop-i.invariant c.put_slot.ensures

pub returns : goal.returns
returns c = slots_end _ _ (omega (arith, c.slots_due-i-end.ensures)) c.loop-i.invariant
