-- `one_older` meets its contract: the shift is the power.
use Prim.Native.Nat.{ℕ, ◌*◌, ◌%◌}
use mathlib.Core.Path.{ap}
use Rattle.machine.proofs.Returns.{shifted}
use Rattle.machine.proofs.one_older.Goals as goal

pub returns : goal.returns
returns c = ap (λ (n : ℕ). c.args.returns * 2 % n) (shifted c.args.delay c.requires)
