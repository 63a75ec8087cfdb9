-- `put_line` meets its contract: the two numbers, and then what the test of the second byte picks.
use mathlib.Core.Path.{ap, sym}
use native.Mathlib.Omega.{arith}
use borrow.Author.Tests.{eq-eqb, ne_eqb}
use Rattle.folds.proofs.Folds.{picked, passed}
use Rattle.put.specs.Page.{ended}
use Rattle.put.proofs.Texts.{puts_then, puts_most, puts_as}
use Rattle.inquiry.specs.Lines.{line_text}
use Rattle.inquiry.proofs.put_line.Goals as goal

pub returns-then-met-eq255 : goal.returns-then-met-eq255
unfolding line_text
returns-then-met-eq255 c =
    let own = eq-eqb _ _ c.if-met-eq255.true in
    puts_most (omega arith) (puts_then c.field.ensures (puts_then c.field-2.ensures (puts_as (sym (ap ended (picked _ _ _ own))) c.bytes.ensures)))

pub returns-else-met-eq255 : goal.returns-else-met-eq255
unfolding line_text
returns-else-met-eq255 c =
    let other = ne_eqb _ _ c.if-met-eq255.false in
    puts_then c.field.ensures (puts_then c.field-2.ensures (puts_as (sym (ap ended (passed _ _ _ other))) c.field-else-met-eq255.ensures))
