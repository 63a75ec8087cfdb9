-- `refused_part` meets its contract: it tests in the definition's order.
use mathlib.Core.Path.{sym, ◌∙◌}
use borrow.Author.Tests.{lt-ltb, le-ltb, eq-eqb, ne_eqb}
use Rattle.folds.proofs.Folds.{picked, passed}
use Rattle.simulation.specs.Simulation.{refused_part}
use Rattle.simulation.proofs.refused_part.Goals as goal

pub returns-then-o-lt2 : goal.returns-then-o-lt2
unfolding refused_part
returns-then-o-lt2 c = sym (picked _ _ _ (lt-ltb _ _ c.if-o-lt2.true))

pub returns-then-o-eq2 : goal.returns-then-o-eq2
unfolding refused_part
returns-then-o-eq2 c = sym (passed _ _ _ (le-ltb _ _ c.if-o-lt2.false) ∙ picked _ _ _ (eq-eqb _ _ c.if-o-eq2.true))

pub returns-then-slots-gt65536 : goal.returns-then-slots-gt65536
unfolding refused_part
returns-then-slots-gt65536 c =
    sym (passed _ _ _ (le-ltb _ _ c.if-o-lt2.false) ∙ passed _ _ _ (ne_eqb _ _ c.if-o-eq2.false)
    ∙ picked _ _ _ (lt-ltb _ _ c.if-slots-gt65536.true))

pub returns : goal.returns
unfolding refused_part
returns c =
    sym (passed _ _ _ (le-ltb _ _ c.if-o-lt2.false) ∙ passed _ _ _ (ne_eqb _ _ c.if-o-eq2.false)
    ∙ passed _ _ _ (le-ltb _ _ c.if-slots-gt65536.false))
