-- `first_outside` meets its contract: the fields before this one are in their limits.
use mathlib.Core.Path.{ap, sym, ◌∙◌}
use native.Mathlib.Omega.{arith}
use Rattle.lines.specs.declared.Form.{Form}
use Rattle.lines.specs.Lines.{limit_kept}
use Rattle.reasons.specs.Reasons.{first_failing}
use Rattle.reasons.proofs.Starts.{failing_on, failing_here, failing_none}
use Rattle.reasons.proofs.values.first_outside.Goals as goal

pub returns-then-not-f-i : goal.returns-then-not-f-i
returns-then-not-f-i c =
    sym (ap (λ (f : Form). first_failing 0 f.count (limit_kept f c.args.values)) (sym c.form_of-f.ensures) ∙ c.loop-i.invariant
    ∙ failing_here _ _ _ c.loop-i-test.true (c.if-not-f-i.true))

pub loop-i-preserved : goal.loop-i-preserved
loop-i-preserved c = c.loop-i.invariant ∙ failing_on _ _ _ c.loop-i-test.true (c.if-not-f-i.false)

pub returns : goal.returns
returns c =
    sym (ap (λ (f : Form). first_failing 0 f.count (limit_kept f c.args.values)) (sym c.form_of-f.ensures) ∙ c.loop-i.invariant
    ∙ failing_none _ _ _ (omega arith))
