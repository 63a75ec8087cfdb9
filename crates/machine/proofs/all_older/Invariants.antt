-- `all_older` meets its contract: the loop has made each below the next one older.
use mathlib.Core.Path.{◌≡◌}
use Prim.Native.Nat.{◌≤◌}
use Rattle.machine.specs.Machine.{older}
use Rattle.machine.proofs.Returns.{map_to}
use Rattle.machine.proofs.all_older.Given as goal

abbrev pub invariant-loop-x : goal.invariant-loop-x
invariant-loop-x l = (l.x-items ≡ map_to (older l.delay) l.x-index l.fn.returning) × (l.delay ≤ 15)
