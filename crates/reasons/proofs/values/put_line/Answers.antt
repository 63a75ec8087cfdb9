-- `put_line` meets its contract: its tests are those of the definition, in its order.
use native.Mathlib.Omega.{arith}
use mathlib.Core.Path.{ap, sym, ◌∙◌}
use Prim.Native.Nat.{ℕ}
use borrow.Author.Tests.{eq-eqb, ne_eqb}
use Rattle.folds.proofs.Folds.{picked, passed}
use Rattle.put.proofs.Texts.{puts_most, puts_as}
use lib.ListN.{get_or}
use lib.Dec.{eqb}
use mathlib.Core.Bool.{Bool, ◌&&◌}
use Rattle.reasons.specs.Words.{sentence, record_says}
use Rattle.reasons.specs.Reasons.{line_says}
use Rattle.reasons.proofs.values.put_line.Goals as goal

pub returns-then-number-eq2 : goal.returns-then-number-eq2
unfolding line_says
returns-then-number-eq2 c = puts_as (sym (picked _ _ _ (eq-eqb _ _ c.if-number-eq2.true))) c.put_value.ensures

pub returns-then-number-fits : goal.returns-then-number-fits
unfolding line_says
returns-then-number-fits c =
    puts_most (omega arith) (puts_as (ap (λ (j : ℕ). record_says c.args.kind j (get_or c.args.values 0 0) 0) c.order_row.ensures
    ∙ sym (passed _ _ _ (ne_eqb _ _ c.if-number-eq2.false) ∙ picked _ _ _ (ap (λ (x : Bool). eqb c.args.number 3 && x) (sym c.fits.ensures)
    ∙ c.if-number-fits.true))) c.put_of_record.ensures)

pub returns-then-number-on_port : goal.returns-then-number-on_port
unfolding line_says
returns-then-number-on_port c =
    puts_as (sym (passed _ _ _ (ne_eqb _ _ c.if-number-eq2.false) ∙ passed _ _ _ (ap (λ (x : Bool). eqb c.args.number 3 && x) (sym c.fits.ensures) ∙ c.if-number-fits.false)
    ∙ picked _ _ _ (ap (λ (x : Bool). eqb c.args.number 4 && x) (sym c.on_port.ensures) ∙ c.if-number-on_port.true))) c.put_of_field.ensures

pub returns-then-number-is_int : goal.returns-then-number-is_int
unfolding line_says
returns-then-number-is_int c =
    puts_as (sym (passed _ _ _ (ne_eqb _ _ c.if-number-eq2.false) ∙ passed _ _ _ (ap (λ (x : Bool). eqb c.args.number 3 && x) (sym c.fits.ensures) ∙ c.if-number-fits.false)
    ∙ passed _ _ _ (ap (λ (x : Bool). eqb c.args.number 4 && x) (sym c.on_port.ensures) ∙ c.if-number-on_port.false)
    ∙ picked _ _ _ (ap (λ (x : Bool). eqb c.args.number 5 && x) (sym c.is_int.ensures) ∙ c.if-number-is_int.true))) c.put_of_field-then-number-is_int.ensures

pub returns-then-number-trace : goal.returns-then-number-trace
unfolding line_says
returns-then-number-trace c =
    puts_as (sym (passed _ _ _ (ne_eqb _ _ c.if-number-eq2.false) ∙ passed _ _ _ (ap (λ (x : Bool). eqb c.args.number 3 && x) (sym c.fits.ensures) ∙ c.if-number-fits.false)
    ∙ passed _ _ _ (ap (λ (x : Bool). eqb c.args.number 4 && x) (sym c.on_port.ensures) ∙ c.if-number-on_port.false)
    ∙ passed _ _ _ (ap (λ (x : Bool). eqb c.args.number 5 && x) (sym c.is_int.ensures) ∙ c.if-number-is_int.false)
    ∙ picked _ _ _ (ap (λ (x : Bool). eqb c.args.number 6 && x) (sym c.fits-trace.ensures) ∙ c.if-number-trace.true))) c.put_of_field-then-number-trace.ensures

pub returns-then-number-trace-2 : goal.returns-then-number-trace-2
unfolding line_says
returns-then-number-trace-2 c =
    puts_as (sym (passed _ _ _ (ne_eqb _ _ c.if-number-eq2.false) ∙ passed _ _ _ (ap (λ (x : Bool). eqb c.args.number 3 && x) (sym c.fits.ensures) ∙ c.if-number-fits.false)
    ∙ passed _ _ _ (ap (λ (x : Bool). eqb c.args.number 4 && x) (sym c.on_port.ensures) ∙ c.if-number-on_port.false)
    ∙ passed _ _ _ (ap (λ (x : Bool). eqb c.args.number 5 && x) (sym c.is_int.ensures) ∙ c.if-number-is_int.false)
    ∙ passed _ _ _ (ap (λ (x : Bool). eqb c.args.number 6 && x) (sym c.fits-trace.ensures) ∙ c.if-number-trace.false)
    ∙ picked _ _ _ (ap (λ (x : Bool). eqb c.args.number 7 && x) (sym c.fits-trace.ensures) ∙ c.if-number-trace-2.true))) c.put_of_field-then-number-trace-2.ensures

pub returns-else-number-trace-2 : goal.returns-else-number-trace-2
unfolding line_says
returns-else-number-trace-2 c =
    puts_most (omega arith) (puts_as (ap (λ (j : ℕ). sentence j 0 0) c.number_row.ensures ∙ sym (passed _ _ _ (ne_eqb _ _ c.if-number-eq2.false)
    ∙ passed _ _ _ (ap (λ (x : Bool). eqb c.args.number 3 && x) (sym c.fits.ensures) ∙ c.if-number-fits.false)
    ∙ passed _ _ _ (ap (λ (x : Bool). eqb c.args.number 4 && x) (sym c.on_port.ensures) ∙ c.if-number-on_port.false)
    ∙ passed _ _ _ (ap (λ (x : Bool). eqb c.args.number 5 && x) (sym c.is_int.ensures) ∙ c.if-number-is_int.false)
    ∙ passed _ _ _ (ap (λ (x : Bool). eqb c.args.number 6 && x) (sym c.fits-trace.ensures) ∙ c.if-number-trace.false)
    ∙ passed _ _ _ (ap (λ (x : Bool). eqb c.args.number 7 && x) (sym c.fits-trace.ensures) ∙ c.if-number-trace-2.false))) c.put_sentence.ensures)
