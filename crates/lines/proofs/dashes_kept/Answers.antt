-- `dashes_kept` meets its contract: the loop has tested each field before the next one.
use mathlib.Core.Path.{refl, sym, subst}
use Prim.Native.Nat.{◌≤◌}
use Rattle.model.proofs.Sums.{all_none, all_turn}
use Rattle.lines.specs.declared.Form.{Form}
use Rattle.lines.specs.Lines.{dash_kept}
use Rattle.lines.proofs.Fields.{form_count}
use Rattle.lines.proofs.dashes_kept.Goals as goal

pub loop-i-init : goal.loop-i-init
loop-i-init c =
    (subst (λ (f : Form). f.count ≤ 11) (sym c.form_of-f.ensures) (form_count c.args.kind), sym (all_none _))

pub loop-i-preserved : goal.loop-i-preserved
loop-i-preserved c =
    (c.loop-i.invariant.0, all_turn _ (dash_kept c.form_of-f.result c.args.dashes) _ _ c.loop-i.invariant.1 refl)
