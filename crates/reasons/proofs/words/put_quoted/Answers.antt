-- `put_quoted` meets its contract: the quote, the bytes, the quote.
use native.Mathlib.Omega.{arith}
use mathlib.Core.Path.{ap}
use Rattle.put.proofs.Texts.{puts_then, puts_most, puts_as}
use mathlib.Core.List.{map}
use Rattle.reasons.specs.Words.{printable}
use Rattle.reasons.proofs.Rests.{first_taken}
use Rattle.reasons.proofs.words.put_quoted.Goals as goal

pub returns : goal.returns
returns c =
    let e = first_taken c.args.s.now c.min.result c.min.ensures in
    puts_most (omega arith) (puts_then (puts_then c.byte.ensures (puts_most e.1 (puts_as (ap (map printable) e.0) c.put_printable.ensures))) c.byte-2.ensures)
