-- `ready` meets its contract: whether a window opens picks the case, accelerator by accelerator.
use Rattle.runner.proofs.Ready.{ready_some}
use Rattle.runner.proofs.steps.ready.Goals as goal

pub returns : goal.returns
returns c = let x = c.args in λ a. ready_some x.accs x.due a x.opened c.if-opened.false
