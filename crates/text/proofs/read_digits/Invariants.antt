-- `read_digits` meets its contract: what was read, moved up by the places that are passed, and the rest make the number.
use mathlib.Core.Path.{◌≡◌}
use Prim.Native.Nat.{◌<◌, ◌-◌, ◌+◌, ◌*◌, ◌^◌}
use lib.ListN.{length, drop}
use Rattle.text.specs.Text.{all_digits, decimal}
use Rattle.text.proofs.read_digits.Given as goal

abbrev pub invariant-loop-b : goal.invariant-loop-b
invariant-loop-b l =
    (l.value < 10 ^ l.b-index) × (all_digits l.s ≡ all_digits (drop l.b-index l.s))
    × (decimal l.s ≡ l.value * 10 ^ (length l.s - l.b-index) + decimal (drop l.b-index l.s))
