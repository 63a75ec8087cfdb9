-- `put_unread` meets its contract: the names, the bytes, and then the sentence.
use native.Mathlib.Omega.{arith}
use mathlib.Core.Path.{ap, ◌∙◌}
use Prim.Native.Nat.{ℕ}
use Rattle.put.proofs.Texts.{puts_then, puts_most, puts_as}
use Rattle.reasons.specs.Words.{sentence}
use Rattle.reasons.specs.Reasons.{not_number}
use Rattle.reasons.proofs.shapes.put_unread.Goals as goal

pub returns : goal.returns
returns c =
    puts_most (omega arith) (puts_then (puts_then c.put_field_name.ensures c.put_quoted.ensures) (puts_as (ap (λ (n : ℕ). sentence n 0 0) (c.not_number.ensures
    ∙ ap not_number c.read_field.ensures)) c.put_sentence.ensures))
