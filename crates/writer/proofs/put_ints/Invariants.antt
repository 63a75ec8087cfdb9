-- `put_ints` meets its contract: before each turn the first j int lines are put.
use Rattle.text.specs.Write.{rows, file_text}
use Rattle.writer.specs.Lines.{int_text}
use Rattle.writer.specs.Adds.{Adds}
use Rattle.writer.proofs.put_ints.Given as goal

abbrev pub invariant-loop-j : goal.invariant-loop-j
invariant-loop-j l = Adds l.initial.text (file_text (rows l.j 0 (int_text l.t))) l.text
