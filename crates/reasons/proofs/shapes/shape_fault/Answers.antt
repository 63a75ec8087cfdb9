-- `shape_fault` meets its contract: its tests are those of the definition, in its order.
use mathlib.Core.Path.{ap, sym, ◌∙◌}
use mathlib.Core.Bool.{◌&&◌}
use Prim.Native.Nat.{ℕ}
use lib.Dec.{eqb}
use borrow.Author.Tests.{eq-eqb, ne_eqb}
use Rattle.folds.proofs.Folds.{picked, passed}
use Rattle.lines.specs.declared.Line.{Line}
use Rattle.reasons.specs.Reasons.{shape_row, record_fault}
use Rattle.lines.proofs.Limits.{yes_not, no_not}
use Rattle.reasons.proofs.shapes.shape_fault.Goals as goal

pub returns-then-line-first_byte : goal.returns-then-line-first_byte
unfolding shape_row
returns-then-line-first_byte c =
    sym (picked _ _ _ (ap (λ (x : ℕ). eqb c.args.line 1 && eqb x 239) (sym c.first_byte.ensures) ∙ c.if-line-first_byte.true))

pub returns-then-has : goal.returns-then-has
unfolding shape_row
returns-then-has c =
    sym (passed _ _ _ (ap (λ (x : ℕ). eqb c.args.line 1 && eqb x 239) (sym c.first_byte.ensures) ∙ c.if-line-first_byte.false) ∙ picked _ _ _ (sym c.has.ensures
    ∙ c.if-has.true))

pub returns-then-has-2 : goal.returns-then-has-2
unfolding shape_row
returns-then-has-2 c =
    sym (passed _ _ _ (ap (λ (x : ℕ). eqb c.args.line 1 && eqb x 239) (sym c.first_byte.ensures) ∙ c.if-line-first_byte.false) ∙ passed _ _ _ (sym c.has.ensures
    ∙ c.if-has.false) ∙ picked _ _ _ (sym c.has-2.ensures ∙ c.if-has-2.true))

pub returns-then-not-ended : goal.returns-then-not-ended
unfolding shape_row
returns-then-not-ended c =
    sym (passed _ _ _ (ap (λ (x : ℕ). eqb c.args.line 1 && eqb x 239) (sym c.first_byte.ensures) ∙ c.if-line-first_byte.false) ∙ passed _ _ _ (sym c.has.ensures
    ∙ c.if-has.false) ∙ passed _ _ _ (sym c.has-2.ensures ∙ c.if-has-2.false) ∙ picked _ _ _ (yes_not _ c.if-not-ended.true))

pub returns-then-l-eq0 : goal.returns-then-l-eq0
unfolding shape_row
returns-then-l-eq0 c =
    sym (passed _ _ _ (ap (λ (x : ℕ). eqb c.args.line 1 && eqb x 239) (sym c.first_byte.ensures) ∙ c.if-line-first_byte.false) ∙ passed _ _ _ (sym c.has.ensures
    ∙ c.if-has.false) ∙ passed _ _ _ (sym c.has-2.ensures ∙ c.if-has-2.false) ∙ passed _ _ _ (no_not _ c.if-not-ended.false) ∙ picked _ _ _ (eq-eqb _ _ c.if-l-eq0.true))

pub returns : goal.returns
unfolding shape_row
returns c =
    c.record_fault.ensures ∙ ap (λ (r : Line). record_fault c.args.trace r) c.read_line.ensures
    ∙ sym (passed _ _ _ (ap (λ (x : ℕ). eqb c.args.line 1 && eqb x 239) (sym c.first_byte.ensures) ∙ c.if-line-first_byte.false) ∙ passed _ _ _ (sym c.has.ensures
    ∙ c.if-has.false) ∙ passed _ _ _ (sym c.has-2.ensures ∙ c.if-has-2.false) ∙ passed _ _ _ (no_not _ c.if-not-ended.false) ∙ passed _ _ _ (ne_eqb _ _ c.if-l-eq0.false))
