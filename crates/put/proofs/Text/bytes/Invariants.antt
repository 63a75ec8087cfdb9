-- `bytes` meets its contract: before each turn the bytes below the index are stored.
use lib.ListN.{take}
use Rattle.put.specs.Texts.{Puts}
use Rattle.put.proofs.Text.bytes.Given as goal

abbrev pub invariant-loop-b : goal.invariant-loop-b
invariant-loop-b l = Puts l.b-index l.initial.self (take l.b-index l.s) l.self
