-- `number_asked` meets its contract: what was read, capped and moved up by the places that are left, and the rest make the number.
use mathlib.Core.Path.{◌≡◌}
use Prim.Native.Nat.{◌≤◌, ◌-◌, ◌+◌, ◌*◌, ◌^◌, min}
use lib.ListN.{length, drop}
use Rattle.text.specs.Text.{all_digits, decimal}
use Rattle.usage.proofs.number_asked.Given as goal

abbrev pub invariant-loop-b : goal.invariant-loop-b
invariant-loop-b l = (l.value ≤ l.most) × (all_digits l.word ≡ all_digits (drop l.b-index l.word))
    × (min (decimal l.word) l.most ≡ min (l.value * 10 ^ (length l.word - l.b-index) + decimal (drop l.b-index l.word)) l.most)
