-- `offer` meets its contract: the state is the one that the answer leads to.
use mathlib.Core.Path.{ap, ap₂, sym, ◌∙◌}
use Rattle.machine.specs.Machine.{outcome}
use Rattle.machine.specs.Answers.{offer_means}
use Rattle.machine.proofs.Steps.{offer_by_answer}
use Rattle.machine.proofs.offer.Goals as goal

pub returns-in-Ok : goal.returns-in-Ok
returns-in-Ok c =
    let m = ap offer_means c.in-Ok.is in
    ap₂ outcome m c.admitting-state.ensures
    ∙ offer_by_answer c.args.t c.args.s c.args.a _ (sym m ∙ c.offer_answer-answer.ensures.answer)

pub returns-in-Err : goal.returns-in-Err
returns-in-Err c =
    let m = ap offer_means c.in-Err.is in
    ap (λ v. outcome v c.args.s) m
    ∙ offer_by_answer c.args.t c.args.s c.args.a _ (sym m ∙ c.offer_answer-answer.ensures.answer)
