-- `put_slots` meets its contract: before each turn the lines of the first i slots are stored.
use Prim.Native.Nat.{◌+◌, ◌*◌}
use lib.ListN.{get_or}
use Rattle.put.specs.Page.{joined}
use Rattle.put.specs.Texts.{Puts}
use Rattle.journal.specs.Journal.{slot_text}
use Rattle.journal.proofs.put_slots.Given as goal

abbrev pub invariant-loop-i : goal.invariant-loop-i
invariant-loop-i l = Puts (42 * l.i) l.initial.text (joined l.i (λ j. slot_text (l.first + j) (get_or l.served (l.first + j) 0))) l.text
