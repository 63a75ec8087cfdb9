-- `offer_held` meets its contract: what is left of the offers, made on the arrays as they are, is what all of them come to.
use mathlib.Core.Path.{◌≡◌}
use lib.ListN.{get_or}
use Rattle.admit.specs.Admitting.{offers_for}
use Rattle.admit.proofs.Arrays.offer_held.Given as goal

abbrev pub invariant-loop-self : goal.invariant-loop-self
invariant-loop-self l = offers_for (get_or l.self.held l.a 0) l.table l.a l.self ≡ offers_for (get_or l.initial.self.held l.a 0) l.table l.a l.initial.self

abbrev pub decreases-loop-self : goal.decreases-loop-self
decreases-loop-self l = get_or l.self.held l.a 0
