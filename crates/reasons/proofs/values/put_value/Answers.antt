-- `put_value` meets its contract: a field that is outside its limits is one of the record; else it is a total.
use native.Mathlib.Omega.{arith}
use Rattle.put.proofs.Texts.{puts_most, puts_as}
use Rattle.reasons.proofs.Said.{value_field, value_total}
use Rattle.reasons.proofs.values.put_value.Goals as goal

pub returns-then-i-f : goal.returns-then-i-f
returns-then-i-f c =
    puts_most (omega arith) (puts_as (value_field c.args.kind _ _ _ c.first_outside-i.ensures c.form_of-f.ensures c.if-i-f.true) c.put_limit.ensures)

pub returns-else-i-f : goal.returns-else-i-f
returns-else-i-f c =
    puts_as (value_total c.args.kind _ _ _ c.first_outside-i.ensures c.form_of-f.ensures c.if-i-f.false) c.put_total.ensures
