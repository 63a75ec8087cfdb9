-- `put_lines` meets its contract: before each turn the page's first i lines are put.
use Prim.Native.Nat.{◌+◌, ◌*◌}
use native.Mathlib.Omega.{arith}
use Rattle.put.proofs.Lines.{lines_none, lines_turn}
use Rattle.inquiry.specs.Lines.{pair_line}
use Rattle.inquiry.proofs.Paged.{lines_end}
use Rattle.inquiry.proofs.put_lines.Goals as goal

pub loop-i-init : goal.loop-i-init
loop-i-init c = lines_none 63 _ _

pub loop-i-preserved : goal.loop-i-preserved
loop-i-preserved c =
    lines_turn 63 (λ j. pair_line c.args.from c.args.pairs.now (1024 * c.args.page + j)) _ c.loop-i.invariant c.put_line.ensures

pub returns : goal.returns
returns c = lines_end _ 0 _ _ _ (omega arith) c.loop-i.invariant
