-- `put_of_record` meets its contract: the name, and then the sentence.
use native.Mathlib.Omega.{arith}
use Rattle.put.proofs.Puts.{put_then, put_most}
use Rattle.reasons.proofs.words.put_of_record.Goals as goal

pub returns : goal.returns
returns c =
    put_most (omega arith) (put_then c.put_record-next.ensures c.put_sentence.ensures)
