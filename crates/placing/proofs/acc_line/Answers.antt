-- `acc_line` meets its contract: its tests are those of the definition, in the same order.
use mathlib.Core.Path.{ap, sym, ◌∙◌, subst}
use Prim.Native.Nat.{◌≤◌, ◌<◌}
use native.Mathlib.Omega.{arith}
use lib.Dec.{lit<}
use Rattle.lines.specs.declared.Kind.TheVariants.{AccLine}
use Rattle.model.specs.declared.Accelerator.{Accelerator}
use Rattle.lines.proofs.Limits.{most}
use Rattle.records.proofs.Stored.{acc_stored_lem}
use Rattle.placing.specs.Placing.{given}
use Rattle.placing.proofs.Tests.{acc_unknown, acc_twice, acc_taken, acc_given}
use Rattle.placing.proofs.acc_line.Goals as goal

pub overflow_cast-a : goal.overflow_cast-a
overflow_cast-a c = omega (arith, most AccLine c.args.v c.requires 0 (lit< tt))

pub overflow_cast-j : goal.overflow_cast-j
overflow_cast-j c = omega (arith, most AccLine c.args.v c.requires 1 (lit< tt))

pub overflow_cast-p : goal.overflow_cast-p
overflow_cast-p c = omega (arith, most AccLine c.args.v c.requires 2 (lit< tt))

pub returns-then-t-j : goal.returns-then-t-j
returns-then-t-j c = c.refused.ensures ∙ sym (acc_unknown _ _ _ c.if-t-j.true)

pub returns-then-x-gt0 : goal.returns-then-x-gt0
returns-then-x-gt0 c =
    c.refused-then-x-gt0.ensures ∙ sym (acc_twice _ _ _ c.if-t-j.false (subst (λ (x : Accelerator). 0 < x.phi) c.accelerator_at-x.ensures c.if-x-gt0.true))

pub returns-then-not-is_free : goal.returns-then-not-is_free
returns-then-not-is_free c =
    c.refused-then-not-is_free.ensures ∙ sym (acc_taken _ _ _ c.if-t-j.false (subst (λ (x : Accelerator). x.phi ≤ 0) c.accelerator_at-x.ensures c.if-x-gt0.false) (sym c.is_free.ensures ∙ c.if-not-is_free.true))

pub returns : goal.returns
returns c =
    c.accepted.ensures ∙ ap given (c.store_acc.ensures ∙ acc_stored_lem c.args.t c.args.v c.requires) ∙ sym (acc_given _ _ _ c.if-t-j.false (subst (λ (x : Accelerator). x.phi ≤ 0) c.accelerator_at-x.ensures c.if-x-gt0.false) (sym c.is_free.ensures ∙ c.if-not-is_free.false))
