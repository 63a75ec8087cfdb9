-- `read_digits` meets its contract: what was read, moved up by the places that are passed, and the rest make the number.
use mathlib.Core.Path.{ap, sym, ◌∙◌}
use native.Mathlib.Omega.{arith}
use Rattle.folds.proofs.Folds.{picked, passed}
use Rattle.text.proofs.Digits.{digits_not, digits_on, digit_low, digit_high, digits_end, decimal_end, decimal_next, below_ten}
use Rattle.text.specs.declared.Field.TheVariants.{Number}
use Rattle.text.proofs.read_digits.Goals as goal

pub returns-then-not-is_digit : goal.returns-then-not-is_digit
returns-then-not-is_digit c =
    sym (passed _ _ _ (c.loop-b.invariant.1 ∙ digits_not _ c.loop-b.b-index c.loop-b-test.true (sym c.is_digit.ensures ∙ c.if-not-is_digit.true)))

pub overflow_sub-value : goal.overflow_sub-value
overflow_sub-value c = digit_low _ (sym c.is_digit.ensures ∙ c.if-not-is_digit.false)

pub loop-b-preserved : goal.loop-b-preserved
loop-b-preserved c =
    let s = c.args.s.now in
    let i = c.loop-b.b-index in
    let e = sym c.is_digit.ensures ∙ c.if-not-is_digit.false in (
      below_ten i c.loop-b.value _ c.loop-b.invariant.0 (digit_high _ e),
      c.loop-b.invariant.1 ∙ digits_on s i c.loop-b-test.true e,
      c.loop-b.invariant.2 ∙ decimal_next s i c.loop-b.value c.loop-b-test.true,
    )

pub returns : goal.returns
returns c =
    let s = c.args.s.now in
    let i = c.loop-b.b-index in
    sym (picked _ _ _ (c.loop-b.invariant.1 ∙ digits_end s i c.loop-b-test.false)
    ∙ ap Number (c.loop-b.invariant.2 ∙ decimal_end s i c.loop-b.value (omega arith)))
