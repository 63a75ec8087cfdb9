-- `offer_line` meets its contract: its tests are those of the definition, in the same order.
use mathlib.Core.Path.{ap, sym, ◌∙◌, subst}
use Prim.Native.Nat.{◌≤◌, ◌<◌, ◌+◌}
use borrow.Author.Tests.{ltb-true, ltb-false}
use Rattle.trace.specs.declared.Request.{Request}
use Rattle.std.specs.Prelude.{Ok}
use Rattle.trace.specs.OfferText.{offer_of}
use Rattle.trace.specs.TraceFile.{total_of}
use Rattle.trace.proofs.Offers.{offer_shaped}
use Rattle.trace.proofs.Traces.{offer_limit, offer_unknown, offer_falling, offer_total, offer_good}
use Rattle.trace.proofs.offer_line.Goals as goal

pub returns-then-not-in_limits : goal.returns-then-not-in_limits
returns-then-not-in_limits c = sym (offer_limit _ _ _ (offer_of _ _ _) (offer_shaped _ _ _) (sym c.in_limits.ensures ∙ c.if-not-in_limits.true))

pub returns-then-accs-l : goal.returns-then-accs-l
returns-then-accs-l c =
    sym (offer_unknown _ _ _ (offer_of _ _ _) (offer_shaped _ _ _) (sym c.in_limits.ensures ∙ c.if-not-in_limits.false)
    c.if-accs-l.true)

pub returns-then-r-last : goal.returns-then-r-last
returns-then-r-last c =
    sym (offer_falling _ _ _ (offer_of _ _ _) (offer_shaped _ _ _) (sym c.in_limits.ensures ∙ c.if-not-in_limits.false)
    c.if-accs-l.false (subst (λ (r : Request). r.slot < c.args.last) c.request_of-r.ensures c.if-r-last.true))

pub returns-then-over_total : goal.returns-then-over_total
returns-then-over_total c =
    sym (offer_total _ _ _ (offer_of _ _ _) (offer_shaped _ _ _) (sym c.in_limits.ensures ∙ c.if-not-in_limits.false)
    c.if-accs-l.false (subst (λ (r : Request). c.args.last ≤ r.slot) c.request_of-r.ensures c.if-r-last.false)
    (subst (λ (r : Request). 65535 < total_of c.args.totals.now r.accelerator + r.count) c.request_of-r.ensures
    (ltb-true _ _ (sym c.over_total.ensures ∙ c.if-over_total.true))))

pub returns : goal.returns
returns c =
    ap Ok c.request_of-r.ensures ∙ sym (offer_good _ _ _ (offer_of _ _ _) (offer_shaped _ _ _)
    (sym c.in_limits.ensures ∙ c.if-not-in_limits.false) c.if-accs-l.false
    (subst (λ (r : Request). c.args.last ≤ r.slot) c.request_of-r.ensures c.if-r-last.false)
    (subst (λ (r : Request). total_of c.args.totals.now r.accelerator + r.count ≤ 65535) c.request_of-r.ensures
    (ltb-false _ _ (sym c.over_total.ensures ∙ c.if-over_total.false))))
