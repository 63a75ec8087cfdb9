-- `put_ports` meets its contract: before each turn the acc lines of the first p ports are put.
use mathlib.Core.List.{map}
use Rattle.model.specs.Tree.{port_of}
use Rattle.text.specs.Write.{file_text}
use Rattle.put.specs.Page.{joined}
use Rattle.writer.specs.Lines.{acc_text}
use Rattle.writer.specs.Writer.{carried_by}
use Rattle.writer.specs.Adds.{Adds}
use Rattle.writer.proofs.put_ports.Given as goal

abbrev pub invariant-loop-p : goal.invariant-loop-p
invariant-loop-p l = Adds l.initial.text (file_text (map (acc_text l.t) (joined l.p (λ i. carried_by (port_of l.t l.j i))))) l.text
