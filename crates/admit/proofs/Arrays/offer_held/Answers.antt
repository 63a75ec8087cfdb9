-- `offer_held` meets its contract: what is left of the offers, made on the arrays as they are, is what all of them come to.
use mathlib.Core.Path.{sym, ◌∙◌, ap}
use native.Mathlib.Omega.{arith}
use Rattle.machine.specs.Answers.{offer_means}
use Rattle.admit.proofs.Offers.{offers_refused, offers_none, held_less, offers_turn, offers_known, on_refused}
use Rattle.admit.proofs.Arrays.offer_held.Goals as goal

pub loop-self-smaller : goal.loop-self-smaller
loop-self-smaller c =
    let x = c.args in
    let o = c.offer_one in
    let h = c.loop-self-test.true in
    let e = sym o.ensures.answer ∙ ap offer_means c.in-Ok.is in
    omega (arith, held_less x.table.now x.a c.loop-self.self e _ o.ensures.arrays h, h)

pub loop-self-preserved : goal.loop-self-preserved
loop-self-preserved c =
    let x = c.args in
    let l = c.loop-self in
    let o = c.offer_one in
    let e = sym o.ensures.answer ∙ ap offer_means c.in-Ok.is in
    offers_turn x.table.now x.a l.self e _ o.ensures.arrays c.loop-self-test.true ∙ l.invariant

pub returns-in_default : goal.returns-in_default
returns-in_default c =
    let x = c.args in
    let l = c.loop-self in
    let o = c.offer_one in
    let e = sym o.ensures.answer ∙ ap offer_means c.in_default.is in
    o.ensures.arrays ∙ on_refused x.table.now x.a l.self _ e ∙ sym (offers_refused x.table.now x.a l.self _ _ e) ∙ l.invariant
    ∙ sym (offers_known x.table.now x.a _ (omega (arith, c.if-i-gt31.false)))

pub returns : goal.returns
returns c =
    let x = c.args in
    let l = c.loop-self in
    sym (offers_none x.table.now x.a l.self _ (omega (arith, c.loop-self-test.false))) ∙ l.invariant
    ∙ sym (offers_known x.table.now x.a _ (omega (arith, c.if-i-gt31.false)))
