-- `serve` meets its contract: its test picks the case of the definition, and the choice is the one from the root.
use Rattle.runner.proofs.Stored.{serve_none, serve_some}
use Rattle.runner.proofs.steps.serve.Goals as goal

pub returns-then-arrays-eq0 : goal.returns-then-arrays-eq0
returns-then-arrays-eq0 c = serve_none c.args.table.now c.args.arrays.now c.if-arrays-eq0.true

pub returns : goal.returns
returns c = serve_some c.args.table.now c.args.arrays.now c.if-arrays-eq0.false _ c.choose.ensures
