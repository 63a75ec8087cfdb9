-- `store_acc` meets its contract: the test picks the tree as it is, or the one whose port, accelerator and count are stored.
use mathlib.Core.Path.{sym, ◌∙◌}
use native.Mathlib.Omega.{arith}
use lib.Dec.{lit<}
use Rattle.folds.proofs.Folds.{passed}
use Rattle.lines.specs.declared.Kind.TheVariants.{AccLine}
use Rattle.lines.proofs.Limits.{most}
use Rattle.records.specs.Records.{acc_stored}
use Rattle.records.proofs.Stored.{acc_stored_lem, acc_entry_lem}
use Rattle.records.proofs.store_acc.Goals as goal

pub returns-then-not-limits_kept : goal.returns-then-not-limits_kept
unfolding acc_stored
returns-then-not-limits_kept c = sym (passed _ _ _ (sym c.limits_kept.ensures ∙ c.if-not-limits_kept.true))

pub overflow_cast-a : goal.overflow_cast-a
overflow_cast-a c = omega (arith, most AccLine c.args.v (sym c.limits_kept.ensures ∙ c.if-not-limits_kept.false) 0 (lit< tt))

pub with_port-r-requires : goal.with_port-r-requires
with_port-r-requires c =
    omega (arith, most AccLine c.args.v (sym c.limits_kept.ensures ∙ c.if-not-limits_kept.false) 1 (lit< tt), most AccLine c.args.v (sym c.limits_kept.ensures ∙ c.if-not-limits_kept.false) 2 (lit< tt))

pub offset_bounds-r-i : goal.offset_bounds-r-i
offset_bounds-r-i c =
    omega (arith, most AccLine c.args.v (sym c.limits_kept.ensures ∙ c.if-not-limits_kept.false) 0 (lit< tt))

pub bounds-r-i : goal.bounds-r-i
bounds-r-i c =
    omega (arith, most AccLine c.args.v (sym c.limits_kept.ensures ∙ c.if-not-limits_kept.false) 0 (lit< tt))

pub overflow_add-a : goal.overflow_add-a
overflow_add-a c =
    omega (arith, most AccLine c.args.v (sym c.limits_kept.ensures ∙ c.if-not-limits_kept.false) 0 (lit< tt))

pub returns : goal.returns
returns c =
    acc_entry_lem c.args.t c.args.v _ _ _ c.with_port-r.ensures c.acc_of-x.ensures c.max.ensures ∙ sym (acc_stored_lem c.args.t c.args.v (sym c.limits_kept.ensures ∙ c.if-not-limits_kept.false))
