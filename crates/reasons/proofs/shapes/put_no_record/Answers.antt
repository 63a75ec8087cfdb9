-- `put_no_record` meets its contract: the name, and then the sentence.
use native.Mathlib.Omega.{arith}
use Rattle.put.proofs.Texts.{puts_then, puts_most}
use Rattle.reasons.proofs.shapes.put_no_record.Goals as goal

pub returns : goal.returns
returns c =
    puts_most (omega arith) (puts_then c.put_quoted.ensures c.put_sentence.ensures)
