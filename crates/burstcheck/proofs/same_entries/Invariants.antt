-- `same_entries` meets its contract: the loop has compared each entry before the next one.
use Rattle.std.proofs.Common.{◌≡◌, eqb, get_or}
use Rattle.folds.specs.Fold.{all}
use Rattle.store.specs.Store.{number_at}
use Rattle.burstcheck.proofs.same_entries.Given as goal

abbrev pub invariant-loop-i : goal.invariant-loop-i
invariant-loop-i l = l.same ≡ all l.i (λ j. eqb (get_or l.a j 0) (number_at l.d l.part j))
