-- `same_slices` meets its contract: as long, and the loop has compared each byte before the next one.
use mathlib.Core.Path.{refl, sym}
use lib.Dec.{eqb}
use lib.ListN.{get_or}
use Rattle.model.proofs.Sums.{all_none, all_turn}
use borrow.Author.Rules.{rules}
use Rattle.answercheck.proofs.same_slices.Goals as goal

pub loop-i-init : goal.loop-i-init
loop-i-init c = (search rules, sym (all_none _))

pub loop-i-preserved : goal.loop-i-preserved
loop-i-preserved c =
    (c.loop-i.invariant.0, all_turn _ (λ j. eqb (get_or c.args.a.now j 0) (get_or c.args.b.now j 0)) _ _ c.loop-i.invariant.1 refl)
