-- `put_fields` meets its contract: before each turn the numbers below the index are put, each after a tab.
use lib.ListN.{take}
use Rattle.text.specs.Write.{fields_text, numbers}
use Rattle.writer.specs.Adds.{Adds}
use Rattle.writer.proofs.put_fields.Given as goal

abbrev pub invariant-loop-x : goal.invariant-loop-x
invariant-loop-x l = Adds l.initial.text (fields_text (numbers (take l.x-index l.values))) l.text
