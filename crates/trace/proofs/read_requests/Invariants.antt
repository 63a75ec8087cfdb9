-- `read_requests` meets its contract: the answer for the file is the answer for what is left of it.
use mathlib.Core.Path.{◌≡◌}
use Prim.Native.Nat.{◌≤◌, ◌-◌, ◌+◌}
use lib.ListN.{length}
use Rattle.trace.specs.TraceFile.{read_requests}
use Rattle.trace.proofs.Traces.{trace_from}
use Rattle.trace.proofs.read_requests.Given as goal

abbrev pub invariant-loop-at : goal.invariant-loop-at
invariant-loop-at l = (l.at ≤ length l.s) × (length l.s ≤ 65536) × (l.n ≤ l.at + 1) × (l.accs ≤ 32) × (read_requests l.accs l.s ≡ trace_from l.n l.accs l.last l.totals l.s l.at)

abbrev pub decreases-loop-at : goal.decreases-loop-at
decreases-loop-at l = length l.s - l.at
