-- `bytes` meets its contract: before each turn the bytes below the index are stored.
use Rattle.put.proofs.Texts.{puts_next}
use Rattle.put.proofs.Text.bytes.Goals as goal

pub loop-b-preserved : goal.loop-b-preserved
loop-b-preserved c = puts_next _ _ c.loop-b-test.true c.loop-b.invariant c.byte.ensures
