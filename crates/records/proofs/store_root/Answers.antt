-- `store_root` meets its contract: the test picks the tree as it is, or the one with the root.
use mathlib.Core.Path.{sym, ◌∙◌}
use native.Mathlib.Omega.{arith}
use lib.Dec.{lit<}
use Rattle.folds.proofs.Folds.{passed}
use Rattle.lines.specs.declared.Kind.TheVariants.{IntLine}
use Rattle.lines.proofs.Limits.{most}
use Rattle.records.specs.Records.{root_stored}
use Rattle.records.proofs.Stored.{room_kept, root_stored_lem}
use Rattle.records.proofs.store_root.Goals as goal

pub returns-then-not-has_room : goal.returns-then-not-has_room
unfolding root_stored
returns-then-not-has_room c = sym (passed _ _ _ (sym c.has_room.ensures ∙ c.if-not-has_room.true))

pub overflow_cast-v : goal.overflow_cast-v
overflow_cast-v c =
    omega (arith, most IntLine c.args.v (room_kept c.args.t c.args.v (sym c.has_room.ensures ∙ c.if-not-has_room.false)).0 3 (lit< tt))

pub returns : goal.returns
returns c = c.with_interconnect.ensures ∙ sym (root_stored_lem _ _ (sym c.has_room.ensures ∙ c.if-not-has_room.false))
