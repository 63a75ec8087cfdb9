-- `turn_keeps` meets its contract: the test of the number picks the rule, on what the accessors give.
use mathlib.Core.Path.{ap, ap₂, ◌∙◌, sym}
use Prim.Native.Nat.{ℕ, min}
use borrow.Author.Tests.{le-ltb, lt-ltb}
use lib.Dec.{leb, eqb}
use Rattle.model.specs.declared.Interconnect.{Interconnect}
use Rattle.model.specs.Beneath.{waits_under}
use Rattle.rules.specs.Rules.{turn_keeps}
use Rattle.folds.proofs.Folds.{picked, passed}
use Rattle.model.proofs.Lists.{and_cong}
use Rattle.rules.proofs.turn_keeps.Goals as goal

pub returns-then-j-t : goal.returns-then-j-t
unfolding turn_keeps
returns-then-j-t c =
    let a = c.args in
    let l = c.last_of-last.ensures in
    let g = ap (λ (x : Interconnect). x.granularity) c.interconnect_at-x.ensures in
    (and_cong (ap (λ (k : ℕ). leb k 7) l)
    (ap₂ leb c.allowance_of-allowance.ensures
    (c.min-most.ensures ∙ ap₂ min (c.from.ensures ∙ g) (c.waits_under.ensures ∙ ap (waits_under a.t a.s a.j) l)))) ∙ sym (picked _ _ _ (lt-ltb _ _ c.if-j-t.true))

pub returns : goal.returns
unfolding turn_keeps
returns c =
    (and_cong (ap (λ (k : ℕ). eqb k 0) c.last_of-last.ensures) (ap (λ (k : ℕ). eqb k 0) c.allowance_of-allowance.ensures)) ∙ sym (passed _ _ _ (le-ltb _ _ c.if-j-t.false))
