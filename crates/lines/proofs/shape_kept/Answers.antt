-- `shape_kept` meets its contract: the tests are those of the definition, on what `is_record` and `form_of` give.
use mathlib.Core.Path.{ap₂}
use mathlib.Core.Bool.{Bool, ◌&&◌, not}
use Rattle.folds.specs.Fold.{within}
use Rattle.lines.specs.declared.Form.{Form}
use Rattle.lines.specs.Lines.{shaped}
use Rattle.model.proofs.Lists.{and_cong as both}
use Rattle.lines.proofs.shape_kept.Goals as goal

pub returns : goal.returns
unfolding shaped
returns c =
    let at-is-record = c in
    let at-form-of = at-is-record in
    let at-args = at-form-of in
    let l = at-args.args.l in
    both
    (ap₂ (λ (r : Bool) (f : Form). r && within f.least l.count f.count && not l.malformed) at-is-record.is_record.ensures
    at-form-of.form_of-f.ensures)
    c.dashes_kept.ensures
