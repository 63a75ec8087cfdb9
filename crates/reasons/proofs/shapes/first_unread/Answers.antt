-- `first_unread` meets its contract: the fields before this one may stand.
use native.Mathlib.Omega.{arith}
use mathlib.Core.Path.{ap, sym, ◌∙◌}
use Rattle.lines.specs.declared.Form.{Form}
use Rattle.reasons.specs.Reasons.{first_failing, readable}
use Rattle.reasons.proofs.Said.{read_at}
use Rattle.reasons.proofs.Starts.{failing_on, failing_here, failing_none}
use Rattle.reasons.proofs.shapes.first_unread.Goals as goal

pub returns-then-not-may_stand : goal.returns-then-not-may_stand
returns-then-not-may_stand c =
    sym (ap (λ (f : Form). first_failing 0 f.count (readable f c.args.l.now)) (sym c.form_of-f.ensures) ∙ c.loop-i.invariant
    ∙ failing_here _ _ _ c.loop-i-test.true (sym (read_at c.form_of-f.result c.args.l.now c.loop-i.i _ _ _ c.may_stand.ensures c.read_field.ensures
    c.part.ensures.0) ∙ c.if-not-may_stand.true))

pub loop-i-preserved : goal.loop-i-preserved
loop-i-preserved c =
    c.loop-i.invariant ∙ failing_on _ _ _ c.loop-i-test.true (sym (read_at c.form_of-f.result c.args.l.now c.loop-i.i _ _ _
    c.may_stand.ensures c.read_field.ensures c.part.ensures.0) ∙ c.if-not-may_stand.false)

pub returns : goal.returns
returns c =
    sym (ap (λ (f : Form). first_failing 0 f.count (readable f c.args.l.now)) (sym c.form_of-f.ensures) ∙ c.loop-i.invariant
    ∙ failing_none _ _ _ (omega arith))
