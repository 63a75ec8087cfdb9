-- `first_unread` meets its contract: the fields before this one may stand.
use mathlib.Core.Path.{◌≡◌}
use Prim.Native.Nat.{◌-◌}
use Rattle.reasons.specs.Reasons.{first_failing, readable}
use Rattle.reasons.proofs.shapes.first_unread.Given as goal

abbrev pub invariant-loop-i : goal.invariant-loop-i
invariant-loop-i l = first_failing 0 l.f.count (readable l.f l.l) ≡ first_failing l.i (l.f.count - l.i) (readable l.f l.l)
