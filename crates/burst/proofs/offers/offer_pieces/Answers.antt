-- `offer_pieces` meets its contract: so many pieces are admitted, and what comes of the others from here on is what is still to come.
use Prim.Native.Nat.{◌+◌}
use mathlib.Core.Path.{sym, ◌∙◌, ap, subst}
use Rattle.model.specs.declared.State.{State}
use Rattle.machine.specs.Machine.{Outcome}
use Rattle.machine.specs.Answers.{offer_means}
use Rattle.burst.specs.Offers.{offering}
use Rattle.burst.proofs.Offered.{Sofar, sofar_admitted, sofar_refused, sofar_all}
use Rattle.burst.proofs.offers.offer_pieces.Goals as goal

pub returns-in-Err : goal.returns-in-Err
returns-in-Err c =
    let l = c.loop-admitted in
    let a = c.args in
    let o = c.offer-reply.ensures in
    let e = sym (ap (λ (x : Outcome). x.answer) o) ∙ ap offer_means c.in-Err.is in
    ap (offering _ l.admitted) (ap (λ (x : Outcome). x.state) o)
    ∙ sofar_refused a.t a.a a.k a.s l.state l.admitted c.loop-admitted-test.true l.invariant _ e

pub loop-admitted-preserved : goal.loop-admitted-preserved
loop-admitted-preserved c =
    let l = c.loop-admitted in
    let a = c.args in
    let o = c.offer-reply.ensures in
    let e = sym (ap (λ (x : Outcome). x.answer) o) ∙ ap offer_means c.in_default.is in
    subst (λ (x : State). Sofar a.t a.a a.k a.s x (l.admitted + 1)) (sym (ap (λ (x : Outcome). x.state) o))
    (sofar_admitted a.t a.a a.k a.s l.state l.admitted c.loop-admitted-test.true l.invariant e)

pub returns : goal.returns
returns c =
    let l = c.loop-admitted in
    let a = c.args in
    sofar_all a.t a.a a.k a.s l.state l.admitted c.loop-admitted-test.false l.invariant
