-- `first_outside` meets its contract: the fields before this one are in their limits.
use mathlib.Core.Path.{◌≡◌}
use Prim.Native.Nat.{◌-◌}
use Rattle.lines.specs.Lines.{limit_kept}
use Rattle.reasons.specs.Reasons.{first_failing}
use Rattle.reasons.proofs.values.first_outside.Given as goal

abbrev pub invariant-loop-i : goal.invariant-loop-i
invariant-loop-i l = first_failing 0 l.f.count (limit_kept l.f l.values) ≡ first_failing l.i (l.f.count - l.i) (limit_kept l.f l.values)
