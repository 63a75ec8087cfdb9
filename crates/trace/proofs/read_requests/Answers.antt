-- `read_requests` meets its contract: the answer for the file is the answer for what is left of it.
use mathlib.Core.Path.{sym, ◌∙◌}
use native.Mathlib.Omega.{arith}
use Rattle.trace.proofs.Offers.{text_read}
use Rattle.trace.proofs.Traces.{reads_none, reads_most, reads_size, reads_from, offer_says}
use Rattle.trace.proofs.Traces.{trace_end, trace_unshaped, trace_refused, trace_taken}
use Rattle.trace.proofs.read_requests.Goals as goal

pub returns-then-not-accs : goal.returns-then-not-accs
returns-then-not-accs c = sym (reads_none _ _ c.if-not-accs.true)

pub returns-then-s-gt65536 : goal.returns-then-s-gt65536
returns-then-s-gt65536 c = sym (reads_size _ _ c.if-not-accs.false c.if-s-gt65536.true)

pub loop-at-init : goal.loop-at-init
loop-at-init c =
    let at-args = c in (
      omega arith,
      c.if-s-gt65536.false,
      omega arith,
      reads_most _ at-args.args.s.now c.if-not-accs.false,
      reads_from _ _ c.if-not-accs.false c.if-s-gt65536.false,
    )

pub returns-in_default : goal.returns-in_default
returns-in_default c =
    sym (c.loop-at.invariant.4 ∙ trace_unshaped _ _ _ _ _ _ c.loop-at-test.true
    (sym c.offer_at.ensures ∙ c.in_default.is))

pub returns-in-Err : goal.returns-in-Err
returns-in-Err c =
    let r = text_read _ c.loop-at.at _ (sym c.offer_at.ensures ∙ c.in-Some.is) in
    sym (c.loop-at.invariant.4 ∙ trace_refused _ _ _ _ _ _ c.loop-at-test.true _ _ _ _ r _ c.offer_line.ensures
    _ c.in-Err.is)

pub bounds-totals-a : goal.bounds-totals-a
bounds-totals-a c =
    let g = offer_says _ _ c.loop-at.totals _ _ (sym c.offer_line.ensures ∙ c.in-Ok.is) in
    omega (arith, g.known, c.loop-at.invariant.3)

pub overflow_add-totals : goal.overflow_add-totals
overflow_add-totals c =
    let g = offer_says _ _ c.loop-at.totals _ _ (sym c.offer_line.ensures ∙ c.in-Ok.is) in
    omega (arith, g.total)

pub bounds-totals-a-in-loop-at : goal.bounds-totals-a-in-loop-at
bounds-totals-a-in-loop-at c =
    let g = offer_says _ _ c.loop-at.totals _ _ (sym c.offer_line.ensures ∙ c.in-Ok.is) in
    omega (arith, g.known, c.loop-at.invariant.3)

pub loop-at-smaller : goal.loop-at-smaller
loop-at-smaller c =
    let r = text_read _ c.loop-at.at _ (sym c.offer_at.ensures ∙ c.in-Some.is) in
    omega (arith, r.place, r.within)

pub loop-at-preserved : goal.loop-at-preserved
loop-at-preserved c =
    let r = text_read _ c.loop-at.at _ (sym c.offer_at.ensures ∙ c.in-Some.is) in (
      omega (arith, r.place, r.within),
      c.loop-at.invariant.1,
      omega (arith, r.place),
      c.loop-at.invariant.3,
      c.loop-at.invariant.4 ∙ trace_taken _ _ _ _ _ _ c.loop-at-test.true _ _ _ _ r _ c.offer_line.ensures _
          c.in-Ok.is,
    )

pub returns : goal.returns
returns c =
    sym (c.loop-at.invariant.4 ∙ trace_end _ _ _ _ _ _ c.loop-at-test.false)
