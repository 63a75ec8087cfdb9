-- `offer_each` meets its contract: the offers that are left, made on the arrays as they are, are what all offers come to.
use Prim.Native.Nat.{◌+◌, ◌*◌, ◌<◌}
use mathlib.Core.Path.{◌≡◌}
use lib.Dec.{ltb}
use Rattle.folds.specs.Fold.{pick}
use Rattle.admit.specs.Admitting.{is_in, offers_before}
use Rattle.admit.proofs.Arrays.offer_each.Given as goal

abbrev pub invariant-loop-a : goal.invariant-loop-a
invariant-loop-a l = (l.a < 256) × (l.rest < 4294967296) × (offers_before l.table l.a (is_in l.rest) l.self ≡ offers_before l.table l.first (is_in l.others) l.initial.self)

abbrev pub decreases-loop-a : goal.decreases-loop-a
decreases-loop-a l = 2 * l.rest + pick (ltb l.a 32) 1 0
