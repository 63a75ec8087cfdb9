-- `int_line` meets its contract: its tests are those of the definition, in the same order.
use mathlib.Core.Path.{ap, sym, ◌∙◌}
use native.Mathlib.Omega.{arith}
use lib.Dec.{lit<}
use Rattle.lines.specs.declared.Kind.TheVariants.{IntLine}
use Rattle.lines.proofs.Limits.{most}
use Rattle.records.proofs.Stored.{has_room_lem, root_stored_lem}
use Rattle.placing.specs.Placing.{given}
use Rattle.placing.proofs.Tests.{int_order, int_root, int_child, next_number}
use Rattle.placing.proofs.int_line.Goals as goal

pub returns-then-not-int_in_order : goal.returns-then-not-int_in_order
returns-then-not-int_in_order c =
    c.refused.ensures ∙ sym (int_order _ _ _ (sym c.int_in_order.ensures ∙ c.if-not-int_in_order.true))

pub returns-then-v-eq0 : goal.returns-then-v-eq0
returns-then-v-eq0 c =
    c.accepted.ensures
    ∙ ap given (c.store_root.ensures ∙ root_stored_lem _ _ (has_room_lem c.args.t c.args.l.values c.requires (omega (arith, next_number c.args.n c.args.t c.args.l (sym c.int_in_order.ensures ∙ c.if-not-int_in_order.false), most IntLine c.args.l.values c.requires 0 (lit< tt)))))
    ∙ sym (int_root _ _ _ (sym c.int_in_order.ensures ∙ c.if-not-int_in_order.false) c.if-v-eq0.true)

pub child_line-requires : goal.child_line-requires
child_line-requires c = (has_room_lem c.args.t c.args.l.values c.requires (omega (arith, next_number c.args.n c.args.t c.args.l (sym c.int_in_order.ensures ∙ c.if-not-int_in_order.false), most IntLine c.args.l.values c.requires 0 (lit< tt))))

pub returns : goal.returns
returns c =
    c.child_line.ensures ∙ sym (int_child _ _ _ (sym c.int_in_order.ensures ∙ c.if-not-int_in_order.false) c.if-v-eq0.false)
