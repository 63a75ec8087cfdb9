-- `read_tree` meets its contract: the answer for the file is the answer for what is left of it.
use mathlib.Core.Path.{◌≡◌}
use Prim.Native.Nat.{◌≤◌, ◌-◌, ◌+◌}
use lib.ListN.{length}
use Rattle.reader.specs.TreeFile.{read_tree}
use Rattle.reader.proofs.Files.{tree_from}
use Rattle.reader.proofs.read_tree.Given as goal

abbrev pub invariant-loop-at : goal.invariant-loop-at
invariant-loop-at l = (l.at ≤ length l.s) × (length l.s ≤ 65536) × (l.n ≤ l.at + 1) × (read_tree l.s ≡ tree_from l.n l.t l.s l.at)

abbrev pub decreases-loop-at : goal.decreases-loop-at
decreases-loop-at l = length l.s - l.at
