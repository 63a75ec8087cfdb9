-- `put_accs` meets its contract: before each turn the acc lines of the first j interconnects are put.
use mathlib.Core.List.{map}
use Rattle.text.specs.Write.{file_text}
use Rattle.put.specs.Page.{joined}
use Rattle.writer.specs.Lines.{acc_text}
use Rattle.writer.specs.Writer.{carried_in}
use Rattle.writer.specs.Adds.{Adds}
use Rattle.writer.proofs.put_accs.Given as goal

abbrev pub invariant-loop-j : goal.invariant-loop-j
invariant-loop-j l = Adds l.initial.text (file_text (map (acc_text l.t) (joined l.j (carried_in l.t)))) l.text
