-- `number_asked` meets its contract: what was read, capped and moved up by the places that are left, and the rest make the number.
use Rattle.std.proofs.Common.{rules, arith, refl, sym, ap, ◌∙◌, ◌≡◌, ℕ, ◌+◌, ◌-◌, ◌*◌, ◌<◌, ◌≤◌, ◌^◌, min, length, drop, get_or, Bool, true, false}
use native.Mathlib.Decide.{dec_le}
use native.Mathlib.Nat.{one-le-pow}
use lib.Dec.{lit<}
use borrow.Author.Tests.{eqb-true, eqb-false}
use Rattle.text.specs.Text.{all_digits, decimal}
use Rattle.text.proofs.Digits.{digits_low, digits_high, digits_next, digits_end, decimal_end, decimal_next}
use Rattle.usage.proofs.Numbers.{capped_up, asked_none, asked_number, no_word, zero_first, told}
use Rattle.usage.proofs.number_asked.Goals as goal

pub returns-then-is_empty : goal.returns-then-is_empty
returns-then-is_empty c = asked_none _ _ (no_word c.args.word.now (eqb-true _ _ (sym c.is_empty.ensures ∙ c.if-is_empty.true)))

pub returns-then-word : goal.returns-then-word
returns-then-word c =
    asked_none _ _ (zero_first c.args.word.now (eqb-false _ _ (sym c.is_empty.ensures ∙ c.if-is_empty.false)) c.if-word.true)

pub returns-then-b : goal.returns-then-b
returns-then-b c =
    let w = c.args.word.now in
    let some : length w ≡ 0 → ⊥ = eqb-false _ _ (sym c.is_empty.ensures ∙ c.if-is_empty.false) in
    asked_none _ _
    (told w some c.if-word.false false
    (c.loop-b.invariant.1
    ∙ elim (dec_le 48 (get_or w c.loop-b.b-index 0)) [
      | yes l ↦ digits_high w c.loop-b.b-index c.loop-b-test.true l (search rules)
      | no l ↦ digits_low w c.loop-b.b-index c.loop-b-test.true (omega (arith, l))
    ]))

pub loop-b-preserved : goal.loop-b-preserved
loop-b-preserved c =
    let w = c.args.word.now in
    let i = c.loop-b.b-index in
    let b = get_or w i 0 in
    let h : i < length w = c.loop-b-test.true in
    let d : 48 ≤ b = search rules in
    let u : b ≤ 57 = search rules in
    let n = 10 ^ (length w - (i + 1)) in
    let r = decimal (drop (i + 1) w) in
    let e : c.min-value.result ≡ min (c.loop-b.value * 10 + (b - 48)) c.args.most = c.min-value.ensures in (
      omega (arith, e),
      c.loop-b.invariant.1 ∙ digits_next w i h d u,
      c.loop-b.invariant.2 ∙ ap (λ (k : ℕ). min k c.args.most) (decimal_next w i c.loop-b.value h)
          ∙ sym (capped_up c.args.most (c.loop-b.value * 10 + (b - 48)) n r (one-le-pow (length w - (i + 1)) 10 (lit< tt)))
          ∙ ap (λ (k : ℕ). min (k * n + r) c.args.most) (sym e),
    )

pub returns : goal.returns
returns c =
    let w = c.args.word.now in
    let some : length w ≡ 0 → ⊥ = eqb-false _ _ (sym c.is_empty.ensures ∙ c.if-is_empty.false) in
    asked_number w c.args.most c.loop-b.value
    (told w some c.if-word.false true (c.loop-b.invariant.1 ∙ digits_end w c.loop-b.b-index (search rules)))
    (sym (c.loop-b.invariant.2 ∙ ap (λ (k : ℕ). min k c.args.most) (decimal_end w c.loop-b.b-index c.loop-b.value (search rules)) ∙ omega (arith, c.loop-b.invariant.0)))
