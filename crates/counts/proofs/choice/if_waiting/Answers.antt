-- `if_waiting` meets its contract: the test picks the case of the definition, and the bit is taken out as computed at each
-- set and port.
use mathlib.Core.Path.{sym, ◌∙◌}
use native.Mathlib.Omega.{arith}
use borrow.Author.Tests.{eq-eqb}
use Rattle.folds.proofs.Folds.{picked}
use Rattle.counts.proofs.Steps.{clear_bit}
use Rattle.counts.proofs.choice.if_waiting.Goals as goal

pub returns-then-waiting-eq0 : goal.returns-then-waiting-eq0
returns-then-waiting-eq0 c = clear_bit c.args.set c.args.p (omega arith) ∙ sym (picked _ _ _ (eq-eqb _ _ c.if-waiting-eq0.true))
