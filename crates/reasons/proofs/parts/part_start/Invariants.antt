-- `part_start` meets its contract: what is left of the bytes from here has the part that is looked for.
use mathlib.Core.Path.{◌≡◌}
use lib.ListN.{drop}
use Rattle.reasons.specs.Words.{from_part}
use Rattle.reasons.proofs.parts.part_start.Given as goal

abbrev pub invariant-loop-i : goal.invariant-loop-i
invariant-loop-i l = from_part l.sep l.k l.s ≡ from_part l.sep l.left (drop l.i l.s)
