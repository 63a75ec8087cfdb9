-- `put_lines` meets its contract: before each turn the page's first i lines are put.
use Prim.Native.Nat.{◌+◌, ◌*◌}
use Rattle.put.specs.Page.{joined}
use Rattle.put.specs.Texts.{Puts}
use Rattle.inquiry.specs.Lines.{pair_line}
use Rattle.inquiry.proofs.put_lines.Given as goal

abbrev pub invariant-loop-i : goal.invariant-loop-i
invariant-loop-i l = Puts (63 * l.i) l.initial.text (joined l.i (λ j. pair_line l.from l.pairs (1024 * l.page + j))) l.text
