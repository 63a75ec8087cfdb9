-- `read_line` meets its contract: what is read so far, with the fields that are left, makes the line.
use mathlib.Core.Path.{◌≡◌}
use Prim.Native.Nat.{◌≤◌, ◌-◌}
use lib.ListN.{length}
use Rattle.lines.specs.Lines.{pushed, line_of}
use Rattle.lines.proofs.Fields.{later}
use Rattle.lines.proofs.read_line.Given as goal

abbrev pub invariant-loop-end : goal.invariant-loop-end
invariant-loop-end l = (l.end ≤ length l.s) × (l.r.count ≤ l.end) × (line_of l.s ≡ pushed l.r (later l.s l.end))

abbrev pub decreases-loop-end : goal.decreases-loop-end
decreases-loop-end l = length l.s - l.end
