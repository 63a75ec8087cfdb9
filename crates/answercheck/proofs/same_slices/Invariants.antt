-- `same_slices` meets its contract: as long, and the loop has compared each byte before the next one.
use mathlib.Core.Path.{◌≡◌}
use lib.Dec.{eqb}
use lib.ListN.{length, get_or}
use Rattle.folds.specs.Fold.{all}
use Rattle.answercheck.proofs.same_slices.Given as goal

abbrev pub invariant-loop-i : goal.invariant-loop-i
invariant-loop-i l = (length l.a ≡ length l.b) × (l.same ≡ all l.i (λ j. eqb (get_or l.a j 0) (get_or l.b j 0)))
