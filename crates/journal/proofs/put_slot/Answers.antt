-- `put_slot` meets its contract: the number, and then what the test of the byte picks.
use mathlib.Core.Path.{ap, sym}
use native.Mathlib.Omega.{arith}
use borrow.Author.Tests.{eq-eqb, ne_eqb}
use Rattle.put.specs.Page.{ended}
use Rattle.journal.specs.Journal.{slot_text}
use Rattle.folds.proofs.Folds.{picked, passed}
use Rattle.put.proofs.Texts.{puts_then, puts_most, puts_as}
use Rattle.journal.proofs.put_slot.Goals as goal

pub returns-then-byte-eq255 : goal.returns-then-byte-eq255
unfolding slot_text
returns-then-byte-eq255 c =
    puts_most (omega arith) (puts_then c.field.ensures (puts_as (sym (ap ended (picked _ _ _ (eq-eqb _ _ c.if-byte-eq255.true)))) c.bytes.ensures))

pub returns-else-byte-eq255 : goal.returns-else-byte-eq255
unfolding slot_text
returns-else-byte-eq255 c =
    puts_then c.field.ensures (puts_as (sym (ap ended (passed _ _ _ (ne_eqb _ _ c.if-byte-eq255.false)))) c.field-else-byte-eq255.ensures)
