-- `put_field_name` meets its contract: its words are stored one after the other.
use native.Mathlib.Omega.{arith}
use mathlib.Core.Path.{ap}
use Prim.Native.Nat.{ℕ}
use Rattle.put.proofs.Texts.{puts_then, puts_most, puts_as}
use Rattle.reasons.specs.Words.{part_at, names}
use Rattle.reasons.proofs.words.put_field_name.Goals as goal

pub returns : goal.returns
returns c =
    puts_most (omega arith) (puts_then (puts_then (puts_then c.put_record.ensures c.bytes.ensures) (puts_as (ap (λ (n : ℕ). part_at 10 n names)
    c.field_row.ensures) c.put_name.ensures)) c.bytes-2.ensures)
