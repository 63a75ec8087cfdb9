-- `with_port` meets its contract: the bit is put in as computed at each set and port.
use native.Mathlib.Omega.{arith}
use Rattle.counts.proofs.Steps.{set_bit}
use Rattle.counts.proofs.along.with_port.Goals as goal

pub returns : goal.returns
returns c = set_bit c.args.set c.args.p (omega arith)
