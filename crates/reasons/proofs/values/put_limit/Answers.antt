-- `put_limit` meets its contract: the names, and then what was found and the limits.
use native.Mathlib.Omega.{arith}
use Rattle.put.proofs.Texts.{puts_then, puts_most}
use Rattle.reasons.proofs.values.put_limit.Goals as goal

pub returns : goal.returns
returns c =
    puts_most (omega arith) (puts_then c.put_field_name.ensures c.put_range.ensures)
