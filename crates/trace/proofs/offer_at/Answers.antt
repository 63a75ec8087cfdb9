-- `offer_at` meets its contract: at each return the fields read so far are the first of the line.
use mathlib.Core.Path.{sym, ◌∙◌}
use Rattle.trace.proofs.Offers.{offer_past, offer_short, offer_other, offer_no_slot, offer_no_accelerator, offer_no_count, offer_read}
use Rattle.trace.proofs.offer_at.Goals as goal

pub returns-then-s-end : goal.returns-then-s-end
returns-then-s-end c = sym (offer_past _ _ _ c.field_end-end.ensures c.if-s-end.true)

pub returns-then-s-end-ne9 : goal.returns-then-s-end-ne9
returns-then-s-end-ne9 c = sym (offer_short _ _ _ c.field_end-end.ensures c.if-s-end.false c.if-s-end-ne9.true)

pub returns-then-not-same_bytes : goal.returns-then-not-same_bytes
returns-then-not-same_bytes c =
    sym (offer_other _ _ _ c.field_end-end.ensures c.if-s-end.false c.if-s-end-ne9.false
    (sym c.same_bytes.ensures ∙ c.if-not-same_bytes.true))

pub returns-in_err-slot : goal.returns-in_err-slot
returns-in_err-slot c =
    c.from_residual.ensures ∙ sym (offer_no_slot _ _ _ c.field_end-end.ensures c.if-s-end.false c.if-s-end-ne9.false
    (sym c.same_bytes.ensures ∙ c.if-not-same_bytes.false) (sym c.number_at.ensures ∙ c.in_err-slot.was))

pub returns-in_err-accelerator : goal.returns-in_err-accelerator
returns-in_err-accelerator c =
    c.from_residual-in_err-accelerator.ensures
    ∙ sym (offer_no_accelerator _ _ _ c.field_end-end.ensures c.if-s-end.false c.if-s-end-ne9.false
    (sym c.same_bytes.ensures ∙ c.if-not-same_bytes.false) _ _ (sym c.number_at.ensures ∙ c.in_ok-slot.was)
    (sym c.number_at-2.ensures ∙ c.in_err-accelerator.was))

pub returns-in_err-count : goal.returns-in_err-count
returns-in_err-count c =
    c.from_residual-in_err-count.ensures
    ∙ sym (offer_no_count _ _ _ c.field_end-end.ensures c.if-s-end.false c.if-s-end-ne9.false
    (sym c.same_bytes.ensures ∙ c.if-not-same_bytes.false) _ _ (sym c.number_at.ensures ∙ c.in_ok-slot.was) _ _
    (sym c.number_at-2.ensures ∙ c.in_ok-accelerator.was) (sym c.number_at-3.ensures ∙ c.in_err-count.was))

pub returns : goal.returns
returns c =
    sym (offer_read _ _ _ c.field_end-end.ensures c.if-s-end.false c.if-s-end-ne9.false
    (sym c.same_bytes.ensures ∙ c.if-not-same_bytes.false) _ _ (sym c.number_at.ensures ∙ c.in_ok-slot.was) _ _
    (sym c.number_at-2.ensures ∙ c.in_ok-accelerator.was) _ _ (sym c.number_at-3.ensures ∙ c.in_ok-count.was))
