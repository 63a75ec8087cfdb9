-- `record_keeps` meets its contract: the test of the number picks the rule, on what the accessors give.
use mathlib.Core.Path.{ap, ap₂, sym, ◌∙◌}
use Prim.Native.Nat.{ℕ}
use borrow.Author.Tests.{le-ltb, lt-ltb}
use lib.Dec.{leb, eqb}
use Rattle.model.specs.declared.Accelerator.{Accelerator}
use Rattle.rules.specs.Rules.{on_the_way, record_keeps}
use Rattle.folds.proofs.Folds.{picked, passed}
use Rattle.model.proofs.Lists.{and_cong}
use Rattle.rules.proofs.record_keeps.Goals as goal

pub returns-then-a-t : goal.returns-then-a-t
unfolding record_keeps
returns-then-a-t c =
    let x = c.accelerator_at-x.ensures in
    let a = c.args in
    and_cong
    (and_cong (ap₂ leb c.outstanding_of.ensures c.limit_of.ensures)
    (ap₂ (λ (n : ℕ) (y : Accelerator). leb n y.budget) c.admitted_of-admitted.ensures x))
    (c.on_the_way.ensures ∙ ap (on_the_way a.t.bus.delay) c.returns_of-returns.ensures)
    ∙ sym (picked _ _ _ (lt-ltb _ _ c.if-a-t.true))

pub returns : goal.returns
unfolding record_keeps
returns c =
    and_cong (and_cong (ap (λ (n : ℕ). eqb n 0) c.waiting_of.ensures) (ap (λ (n : ℕ). eqb n 0) c.admitted_of-admitted.ensures))
    (ap (λ (n : ℕ). eqb n 0) c.returns_of-returns.ensures)
    ∙ sym (passed _ _ _ (le-ltb _ _ c.if-a-t.false))
