-- `put_of_field` meets its contract: the names, and then the sentence.
use native.Mathlib.Omega.{arith}
use Rattle.put.proofs.Texts.{puts_then, puts_most}
use Rattle.reasons.proofs.words.put_of_field.Goals as goal

pub returns : goal.returns
returns c =
    puts_most (omega arith) (puts_then c.put_field_name.ensures c.put_sentence.ensures)
