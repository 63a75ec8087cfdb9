-- `put_sentence` meets its contract: a row of the sentences, with its numbers.
use native.Mathlib.Omega.{arith}
use mathlib.Core.Path.{ap}
use Prim.Native.Nat.{ℕ}
use Rattle.put.proofs.Texts.{puts_most, puts_as}
use mathlib.Core.List.{List}
use Rattle.reasons.specs.Words.{filled, sentence}
use Rattle.reasons.proofs.words.put_sentence.Goals as goal

pub returns : goal.returns
unfolding sentence
returns c =
    puts_most (omega (arith, c.part.ensures.1)) (puts_as (ap (λ (l : List ℕ). filled l c.args.x c.args.y) c.part.ensures.0) c.put_filled.ensures)
