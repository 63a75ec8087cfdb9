-- `store_bus` meets its contract: the test picks the tree as it is, or the one with the bus that the fields write.
use Prim.Native.Nat.{ℕ}
use mathlib.Core.List.{List}
use mathlib.Core.Path.{◌≡◌, ap, sym, ◌∙◌}
use mathlib.Core.Bool.{Bool}
use Rattle.model.specs.declared.Bus.{Bus}
use Rattle.folds.proofs.Folds.{passed}
use Rattle.lines.specs.declared.Kind.{Kind}
use Rattle.lines.specs.Lines.{bus_kind, limits_kept}
use Rattle.model.specs.Builders.{with_bus}
use Rattle.records.specs.Records.{bus_stored}
use Rattle.records.proofs.Stored.{bus_stored_lem}
use Rattle.records.proofs.store_bus.Goals as goal

-- the limits are those of the record
tested : (a : Bool) (v : List ℕ) {k : Kind} {x : Bool} → k ≡ bus_kind a → x ≡ limits_kept k v → x ≡ limits_kept (bus_kind a) v
tested a v e f = f ∙ ap (λ (k : Kind). limits_kept k v) e

pub returns-then-not-limits_kept : goal.returns-then-not-limits_kept
unfolding bus_stored
returns-then-not-limits_kept c =
    let same = tested c.args.axi3 c.args.v c.bus_kind.ensures c.limits_kept.ensures in
    sym (passed _ _ _ (sym same ∙ c.if-not-limits_kept.true))

pub returns : goal.returns
returns c =
    ap (λ (b : Bus). with_bus c.args.t b) c.bus_of-b.ensures ∙ sym (bus_stored_lem c.args.t c.args.v c.args.axi3 (sym (tested c.args.axi3 c.args.v c.bus_kind.ensures c.limits_kept.ensures) ∙ c.if-not-limits_kept.false))
