-- `child_line` meets its contract: its tests are those of the definition, in the same order.
use mathlib.Core.Path.{ap, sym, ◌∙◌, subst}
use Prim.Native.Nat.{ℕ, ◌≤◌, ◌<◌}
use native.Mathlib.Omega.{arith}
use lib.Dec.{lit<}
use Rattle.lines.specs.declared.Kind.TheVariants.{IntLine}
use Rattle.lines.proofs.Limits.{most}
use Rattle.records.proofs.Stored.{room_kept, child_stored_lem}
use Rattle.placing.specs.Placing.{given}
use Rattle.placing.proofs.Tests.{child_taken, child_deep, child_given}
use Rattle.placing.proofs.child_line.Goals as goal

pub overflow_cast-parent : goal.overflow_cast-parent
overflow_cast-parent c = omega (arith, most IntLine c.args.v (room_kept c.args.t c.args.v c.requires).0 1 (lit< tt))

pub overflow_cast-port : goal.overflow_cast-port
overflow_cast-port c = omega (arith, most IntLine c.args.v (room_kept c.args.t c.args.v c.requires).0 2 (lit< tt))

pub returns-then-not-is_free : goal.returns-then-not-is_free
returns-then-not-is_free c =
    c.refused.ensures ∙ sym (child_taken _ _ _ (sym c.is_free.ensures ∙ c.if-not-is_free.true))

pub returns-then-level_of-ge4 : goal.returns-then-level_of-ge4
returns-then-level_of-ge4 c =
    c.refused-then-level_of-ge4.ensures ∙ sym (child_deep _ _ _ (sym c.is_free.ensures ∙ c.if-not-is_free.false) (subst (λ (k : ℕ). 4 ≤ k) c.level_of.ensures c.if-level_of-ge4.true))

pub returns : goal.returns
returns c =
    c.accepted.ensures ∙ ap given (c.store_child.ensures ∙ child_stored_lem c.args.t c.args.v c.requires) ∙ sym (child_given _ _ _ (sym c.is_free.ensures ∙ c.if-not-is_free.false) (subst (λ (k : ℕ). k < 4) c.level_of.ensures c.if-level_of-ge4.false))
