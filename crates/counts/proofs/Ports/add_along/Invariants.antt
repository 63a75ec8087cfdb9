-- `add_along` meets its contract: from where the loop stands, the rest of the path makes of what is kept what the whole path
-- makes of it at the start.
use mathlib.Core.Path.{◌≡◌}
use Prim.Native.Nat.{◌-◌}
use Rattle.counts.specs.Counts.{up}
use Rattle.counts.specs.Choice.{more_at}
use Rattle.counts.proofs.Ports.add_along.Given as goal

abbrev pub invariant-up : goal.invariant-up
invariant-up l = more_at (up (4 - l.counter) l.table.parent_port l.c) l.self ≡ more_at (up 4 l.table.parent_port l.place) l.initial.self
