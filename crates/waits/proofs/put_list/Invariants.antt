-- `put_list` meets its contract: each turn puts one pair.
use Prim.Native.Nat.{◌≤◌, ◌-◌, ◌*◌}
use lib.ListN.{length}
use Rattle.waits.proofs.Pairs.{Putting}
use Rattle.waits.proofs.put_list.Given as goal

abbrev pub invariant-loop-i : goal.invariant-loop-i
invariant-loop-i l = (fits : l.until ≤ length l.bytes) × Putting l.t l.a l.bytes l.from l.until fits l.initial.out l.out l.i ((l.i - l.from) * 2) × (length l.initial.out ≤ 65536)
