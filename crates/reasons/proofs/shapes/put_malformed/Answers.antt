-- `put_malformed` meets its contract: the field is the first that may not stand, and one of the record.
use native.Mathlib.Omega.{arith}
use Rattle.put.proofs.Texts.{puts_most, puts_as}
use Rattle.reasons.proofs.Said.{malformed_field, malformed_none}
use Rattle.reasons.proofs.shapes.put_malformed.Goals as goal

pub returns-then-i-f : goal.returns-then-i-f
returns-then-i-f c =
    puts_as (malformed_field c.args.kind _ _ _ c.first_unread-i.ensures c.form_of-f.ensures _ c.part.ensures.0 c.if-i-f.true) c.put_unread.ensures

pub returns-else-i-f : goal.returns-else-i-f
returns-else-i-f c =
    puts_most (omega arith) (puts_as (malformed_none c.args.kind _ _ _ c.first_unread-i.ensures c.form_of-f.ensures c.if-i-f.false) c.put_sentence.ensures)
