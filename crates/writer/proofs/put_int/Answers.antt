-- `put_int` meets its contract: the root's line has "-" for parent and port, another one its numbers.
use mathlib.Core.Path.{ap}
use Rattle.put.specs.Page.{ended}
use Rattle.writer.proofs.Texts.{adds_as}
use Rattle.writer.proofs.Lines.{root_line}
use Rattle.writer.proofs.put_int.Goals as goal

pub returns-then-j-eq0 : goal.returns-then-j-eq0
returns-then-j-eq0 c =
    adds_as (ap ended (root_line c.args.t _ _ c.interconnect_at-x.ensures c.if-j-eq0.true)) c.put_line.ensures
