-- `put_found` meets its contract: its tests are those of the definition, in its order.
use native.Mathlib.Omega.{arith}
use mathlib.Core.Path.{ap, ap₂, sym, ◌∙◌}
use Prim.Native.Nat.{ℕ}
use borrow.Author.Tests.{eq-eqb, ne_eqb}
use Rattle.folds.proofs.Folds.{picked, passed}
use Rattle.put.proofs.Texts.{puts_most, puts_as}
use Rattle.lines.specs.declared.Line.{Line}
use Rattle.reasons.specs.Words.{sentence}
use Rattle.reasons.specs.Reasons.{fault_text, line_says, found_text}
use Rattle.reasons.proofs.put_found.Goals as goal

pub returns-then-line-eq0 : goal.returns-then-line-eq0
unfolding found_text
returns-then-line-eq0 c =
    puts_most (omega arith) (puts_as (ap (λ (j : ℕ). sentence j 0 0) c.no_line_row.ensures
    ∙ sym (picked _ _ _ (eq-eqb _ _ c.if-line-eq0.true))) c.put_sentence.ensures)

pub returns-then-number-eq1 : goal.returns-then-number-eq1
unfolding found_text
returns-then-number-eq1 c =
    puts_as (ap₂ (λ (j : ℕ) (r : Line). fault_text j r.kind r.count c.args.l.now) c.shape_fault.ensures c.read_line-r.ensures
    ∙ sym (passed _ _ _ (ne_eqb _ _ c.if-line-eq0.false) ∙ picked _ _ _ (eq-eqb _ _ c.if-number-eq1.true))) c.put_fault.ensures

pub returns-then-number-ended : goal.returns-then-number-ended
unfolding found_text
returns-then-number-ended c =
    puts_most (omega arith) (puts_as (sym (passed _ _ _ (ne_eqb _ _ c.if-line-eq0.false) ∙ passed _ _ _ (ne_eqb _ _ c.if-number-eq1.false)
    ∙ picked _ _ _ c.if-number-ended.true)) c.put_sentence-then-number-ended.ensures)

pub returns-else-number-ended : goal.returns-else-number-ended
unfolding found_text
returns-else-number-ended c =
    puts_most (omega arith) (puts_as (ap (λ (r : Line). line_says c.args.number c.args.before r.kind r.values) c.read_line-r.ensures
    ∙ sym (passed _ _ _ (ne_eqb _ _ c.if-line-eq0.false) ∙ passed _ _ _ (ne_eqb _ _ c.if-number-eq1.false) ∙ passed _ _ _ c.if-number-ended.false)) c.put_line.ensures)
