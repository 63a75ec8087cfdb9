-- `table_of` meets its contract: the loop has filled the arrays below the next place, those of fifteen up to their end.
use mathlib.Core.Path.{refl, sym, ap, ◌∙◌, subst}
use Prim.Native.Nat.{◌+◌}
use native.Mathlib.Omega.{arith}
use lib.ListN.{replicate}
use Rattle.model.specs.declared.Interconnect.{Interconnect}
use Rattle.model.specs.declared.Accelerator.{Accelerator}
use Rattle.folds.proofs.Entries.{filled_none, filled_more, filled_all}
use Rattle.counts.specs.declared.Table.{Table}
use Rattle.counts.specs.Table.{port_number}
use Rattle.counts.proofs.Entries.{FilledTo, most_more, most_past, table_same}
use Rattle.counts.proofs.tables.table_of.Goals.{then-a-lt15, else-a-lt15}
use Rattle.counts.proofs.tables.table_of.Goals as goal

pub loop-a-init : goal.loop-a-init
loop-a-init c = (
  c.carried_of.ensures,
  filled_none 15 _ (replicate 15 0) refl,
  filled_none 15 _ (replicate 15 0) refl,
  filled_none 32 _ (replicate 32 0) refl,
  filled_none 32 _ (replicate 32 0) refl,
  filled_none 32 _ (replicate 32 0) refl,
)

pub loop-a-preserved : goal.loop-a-preserved
loop-a-preserved c =
    let l = c.loop-a in
    let i = l.invariant in
    let h = c.loop-a-test.true in
    let x = c.accelerator_at-x.ensures in
    let T = c.if-a-lt15.table in
    let d : FilledTo c.args.t c.args.channel T (l.a + 1) l.a = elim c.if-a-lt15.branch [
      | then-a-lt15 w ↦
          let y = w.interconnect_at-x.ensures in
          subst (λ (v : Table). FilledTo c.args.t c.args.channel v (l.a + 1) l.a) (sym w.table-is) (
            i.0,
            most_more _ l.table.granularity l.a _ w.if-a-lt15.true (ap (λ (z : Interconnect). z.granularity) y) i.1,
            most_more _ l.table.parent_port l.a _ w.if-a-lt15.true (w.port_number.ensures ∙ ap (λ (z : Interconnect). port_number z.parent z.port) y) i.2,
            i.3,
            i.4,
            i.5,
          )
      | else-a-lt15 w ↦
          subst (λ (v : Table). FilledTo c.args.t c.args.channel v (l.a + 1) l.a) (sym w.table-is) (
            i.0,
            most_past _ l.table.granularity l.a w.if-a-lt15.false i.1,
            most_past _ l.table.parent_port l.a w.if-a-lt15.false i.2,
            i.3,
            i.4,
            i.5,
          )
    ] in (
      d.0,
      d.1,
      d.2,
      filled_more 32 _ T.own_port l.a _ h (c.port_number-in-loop-a.ensures ∙ ap (λ (z : Accelerator). port_number z.interconnect z.port) x) d.3,
      filled_more 32 _ T.limit l.a _ h c.limit_of.ensures d.4,
      filled_more 32 _ T.budget l.a _ h (ap (λ (z : Accelerator). z.budget) x) d.5,
    )

pub returns : goal.returns
returns c =
    let l = c.loop-a in
    let i = l.invariant in
    let a = c.loop-a-test.false in
    table_same _ _ i.0 (filled_all 15 _ l.table.granularity _ (omega (arith, a)) i.1) (filled_all 15 _ l.table.parent_port _ (omega (arith, a)) i.2)
    (filled_all 32 _ l.table.own_port _ (omega (arith, a)) i.3) (filled_all 32 _ l.table.limit _ (omega (arith, a)) i.4)
    (filled_all 32 _ l.table.budget _ (omega (arith, a)) i.5)
