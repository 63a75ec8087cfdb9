-- `put_place` meets its contract: the test picks the text; its parts are put one after the other.
use mathlib.Core.Path.{sym}
use borrow.Author.Tests.{eq-eqb, ne_eqb}
use Rattle.folds.proofs.Folds.{picked, passed}
use native.Mathlib.Omega.{arith}
use Rattle.put.proofs.Texts.{puts_none, puts_then, puts_as, puts_most}
use Rattle.reasons.proofs.put_place.Goals as goal

pub returns-then-line-ne0 : goal.returns-then-line-ne0
returns-then-line-ne0 c =
    puts_as (sym (passed _ _ _ (ne_eqb _ _ c.if-line-ne0.true))) (puts_then c.bytes.ensures (puts_then c.number.ensures c.bytes-then-line-ne0.ensures))

pub returns-else-line-ne0 : goal.returns-else-line-ne0
returns-else-line-ne0 c = puts_most (omega arith) (puts_as (sym (picked _ _ _ (eq-eqb _ _ c.if-line-ne0.false))) (puts_none _))
