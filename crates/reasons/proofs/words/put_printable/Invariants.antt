-- `put_printable` meets its contract: what is left of the bytes completes the text.
use lib.ListN.{drop}
use mathlib.Core.List.{map}
use Rattle.reasons.specs.Words.{printable}
use Rattle.reasons.proofs.Rests.{Rests}
use Rattle.reasons.proofs.words.put_printable.Given as goal

abbrev pub invariant-loop-b : goal.invariant-loop-b
invariant-loop-b l = Rests l.b-index l.initial.text (map printable l.s) l.text (map printable (drop l.b-index l.s))
