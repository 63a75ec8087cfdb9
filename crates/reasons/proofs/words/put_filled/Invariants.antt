-- `put_filled` meets its contract: what is left of the sentence completes the text.
use Prim.Native.Nat.{◌*◌}
use lib.ListN.{drop}
use Rattle.reasons.specs.Words.{filled}
use Rattle.reasons.proofs.Rests.{Rests}
use Rattle.reasons.proofs.words.put_filled.Given as goal

abbrev pub invariant-loop-b : goal.invariant-loop-b
invariant-loop-b l = Rests (20 * l.b-index) l.initial.text (filled l.s l.x l.y) l.text (filled (drop l.b-index l.s) l.z l.y)
