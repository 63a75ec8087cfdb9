-- `put_reason` meets its contract: the place, then the cause, then LF.
use Rattle.put.proofs.Texts.{puts_then, puts_most}
use native.Mathlib.Omega.{arith}
use Rattle.reasons.specs.Reasons.{reason_text}
use Rattle.reasons.proofs.put_reason.Goals as goal

pub returns : goal.returns
unfolding reason_text
returns c =
    puts_most (omega arith) (puts_then c.put_place.ensures (puts_then c.put_cause.ensures c.byte.ensures))
