-- `store_child` meets its contract: the test picks the tree as it is, or the one whose parent carries the new interconnect.
use mathlib.Core.Path.{ap, sym, ◌∙◌}
use native.Mathlib.Omega.{arith}
use lib.Dec.{lit<}
use Rattle.model.specs.declared.Tree.{Tree}
use Rattle.folds.proofs.Folds.{passed}
use Rattle.lines.specs.declared.Kind.TheVariants.{IntLine}
use Rattle.lines.proofs.Limits.{most}
use Rattle.records.specs.Records.{child_stored}
use Rattle.records.proofs.Stored.{room_kept, child_stored_lem, child_entry_lem}
use Rattle.records.proofs.store_child.Goals as goal

pub returns-then-not-has_room : goal.returns-then-not-has_room
unfolding child_stored
returns-then-not-has_room c = sym (passed _ _ _ (sym c.has_room.ensures ∙ c.if-not-has_room.true))

pub overflow_cast-j : goal.overflow_cast-j
overflow_cast-j c = omega (arith, most IntLine c.args.v ((room_kept c.args.t c.args.v (sym c.has_room.ensures ∙ c.if-not-has_room.false)).0) 0 (lit< tt))

pub overflow_cast-parent : goal.overflow_cast-parent
overflow_cast-parent c = omega (arith, most IntLine c.args.v ((room_kept c.args.t c.args.v (sym c.has_room.ensures ∙ c.if-not-has_room.false)).0) 1 (lit< tt))

pub overflow_cast-port : goal.overflow_cast-port
overflow_cast-port c = omega (arith, most IntLine c.args.v ((room_kept c.args.t c.args.v (sym c.has_room.ensures ∙ c.if-not-has_room.false)).0) 2 (lit< tt))

pub with_port-above-requires : goal.with_port-above-requires
with_port-above-requires c =
    omega (arith, most IntLine c.args.v ((room_kept c.args.t c.args.v (sym c.has_room.ensures ∙ c.if-not-has_room.false)).0) 1 (lit< tt), most IntLine c.args.v ((room_kept c.args.t c.args.v (sym c.has_room.ensures ∙ c.if-not-has_room.false)).0) 2 (lit< tt))

pub overflow_cast-v : goal.overflow_cast-v
overflow_cast-v c = omega (arith, most IntLine c.args.v ((room_kept c.args.t c.args.v (sym c.has_room.ensures ∙ c.if-not-has_room.false)).0) 3 (lit< tt))

pub with_interconnect-requires : goal.with_interconnect-requires
with_interconnect-requires c =
    omega (arith, most IntLine c.args.v ((room_kept c.args.t c.args.v (sym c.has_room.ensures ∙ c.if-not-has_room.false)).0) 0 (lit< tt), ap (λ (t : Tree). t.ints) c.with_port-above.ensures, (room_kept c.args.t c.args.v (sym c.has_room.ensures ∙ c.if-not-has_room.false)).1)

pub returns : goal.returns
returns c =
    child_entry_lem c.args.t c.args.v _ _ c.with_port-above.ensures c.with_interconnect.ensures ∙ sym (child_stored_lem c.args.t c.args.v (sym c.has_room.ensures ∙ c.if-not-has_room.false))
