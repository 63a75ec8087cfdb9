-- `put_bus_as` meets its contract: the numbers are those of the bus line, all but the last where that is 0.
use mathlib.Core.Path.{ap}
use Rattle.put.specs.Page.{ended}
use Rattle.writer.proofs.Texts.{adds_as}
use Rattle.writer.proofs.Lines.{bus_whole_lem}
use Rattle.writer.proofs.put_bus_as.Goals as goal

pub returns-else-delay-eq0 : goal.returns-else-delay-eq0
returns-else-delay-eq0 c =
    adds_as (ap ended (bus_whole_lem c.args.name.now c.args.b c.if-delay-eq0.false)) c.put_line-else-delay-eq0.ensures
