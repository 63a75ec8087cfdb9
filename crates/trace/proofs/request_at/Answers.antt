-- `request_at` meets its contract: what is read of the line, and the tests of the definition.
use mathlib.Core.Path.{sym, ◌∙◌}
use Rattle.trace.proofs.Offers.{text_read}
use Rattle.trace.proofs.Traces.{request_unshaped, request_none, request_due}
use Rattle.trace.proofs.request_at.Goals as goal

pub returns-in_err-l : goal.returns-in_err-l
returns-in_err-l c = c.from_residual.ensures ∙ sym (request_unshaped _ _ (sym c.offer_at.ensures ∙ c.in_err-l.was))

pub returns-then-not-in_limits-l : goal.returns-then-not-in_limits-l
returns-then-not-in_limits-l c =
    sym (request_none _ _ _ _ _ _ (text_read _ _ _ (sym c.offer_at.ensures ∙ c.in_ok-l.was)) _
    c.in_limits.ensures c.if-not-in_limits-l.true)

pub returns : goal.returns
returns c =
    request_due _ _ _ _ _ _ (text_read _ _ _ (sym c.offer_at.ensures ∙ c.in_ok-l.was)) _
    c.in_limits.ensures c.if-not-in_limits-l.false _ c.request_of.ensures
