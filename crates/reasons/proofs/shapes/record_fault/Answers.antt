-- `record_fault` meets its contract: its tests are those of the definition, in its order.
use mathlib.Core.Path.{ap, sym, ◌∙◌}
use mathlib.Core.Bool.{not}
use Rattle.folds.specs.Fold.{within}
use Rattle.folds.proofs.Folds.{picked, passed}
use Rattle.lines.specs.declared.Form.{Form}
use Rattle.reasons.specs.Reasons.{record_fault}
use Rattle.lines.proofs.Limits.{yes_not, no_not}
use Rattle.reasons.proofs.shapes.record_fault.Goals as goal

pub returns-then-not-is_record : goal.returns-then-not-is_record
unfolding record_fault
returns-then-not-is_record c = sym (picked _ _ _ (ap not (sym c.is_record.ensures) ∙ (yes_not _ c.if-not-is_record.true)))

pub returns-then-trace : goal.returns-then-trace
unfolding record_fault
returns-then-trace c =
    sym (passed _ _ _ (ap not (sym c.is_record.ensures) ∙ (no_not _ c.if-not-is_record.false))
    ∙ picked _ _ _ (ap not (sym c.fits.ensures) ∙ (yes_not _ c.if-not-fits.true)) ∙ picked _ _ _ c.if-trace.true)

pub returns-else-trace : goal.returns-else-trace
unfolding record_fault
returns-else-trace c =
    sym (passed _ _ _ (ap not (sym c.is_record.ensures) ∙ (no_not _ c.if-not-is_record.false))
    ∙ picked _ _ _ (ap not (sym c.fits.ensures) ∙ (yes_not _ c.if-not-fits.true)) ∙ passed _ _ _ c.if-trace.false)

pub returns-then-f-r : goal.returns-then-f-r
unfolding record_fault
returns-then-f-r c =
    sym (passed _ _ _ (ap not (sym c.is_record.ensures) ∙ (no_not _ c.if-not-is_record.false)) ∙ passed _ _ _ (ap not (sym c.fits.ensures) ∙ (no_not _ c.if-not-fits.false))
    ∙ picked _ _ _ (ap (λ (f : Form). within f.least c.args.r.count f.count) (sym c.form_of-f.ensures) ∙ c.if-f-r.true))

pub returns : goal.returns
unfolding record_fault
returns c =
    sym (passed _ _ _ (ap not (sym c.is_record.ensures) ∙ (no_not _ c.if-not-is_record.false)) ∙ passed _ _ _ (ap not (sym c.fits.ensures) ∙ (no_not _ c.if-not-fits.false))
    ∙ passed _ _ _ (ap (λ (f : Form). within f.least c.args.r.count f.count) (sym c.form_of-f.ensures) ∙ c.if-f-r.false))
