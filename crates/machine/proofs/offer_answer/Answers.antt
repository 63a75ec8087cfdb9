-- `offer_answer` meets its contract: its tests are those of the definition, in the same order.
use mathlib.Core.Path.{ap, sym, ◌∙◌}
use borrow.Author.Rules.{rules}
use Rattle.machine.specs.Machine.{Outcome}
use Rattle.machine.proofs.Steps.{offer_11, verdict_7, verdict_14, verdict_answered}
use Rattle.machine.proofs.offer_answer.Goals as goal

pub returns-then-not-both_keep-clause-answer : goal.returns-then-not-both_keep-clause-answer
returns-then-not-both_keep-clause-answer c =
    ap (λ (x : Outcome). x.answer) (offer_11 _ _ c.args.a (sym c.both_keep.ensures ∙ c.if-not-both_keep.true))

pub returns-then-t-a-clause-answer : goal.returns-then-t-a-clause-answer
returns-then-t-a-clause-answer c =
    let x = c.args in
    verdict_answered x.t x.s x.a (sym c.both_keep.ensures ∙ c.if-not-both_keep.false) _ (verdict_7 x.t x.s x.a c.if-t-a.true)

pub returns-then-job_of-eq0-clause-answer : goal.returns-then-job_of-eq0-clause-answer
returns-then-job_of-eq0-clause-answer c =
    let x = c.args in
    verdict_answered x.t x.s x.a (sym c.both_keep.ensures ∙ c.if-not-both_keep.false) _
    (verdict_14 x.t x.s x.a c.if-t-a.false (sym c.job_of.ensures ∙ c.if-job_of-eq0.true))

pub returns-clause-answer : goal.returns-clause-answer
returns-clause-answer c =
    let x = c.args in
    verdict_answered x.t x.s x.a (sym c.both_keep.ensures ∙ c.if-not-both_keep.false) _ (search rules)
