-- A record that can be held is stored: the test picks it. And what an interconnect and an accelerator are stored in.
use Prim.Native.Nat.{ℕ, max, ◌+◌, ◌<◌}
use mathlib.Core.Bool.{Bool, true, false}
use mathlib.Core.List.{List}
use mathlib.Core.Path.{◌≡◌, ◌∙◌, ap, ap₂}
use native.Mathlib.Omega.{arith}
use lib.Dec.{leb}
use lib.ListN.{get_or, set}
use borrow.Author.Tests.{lt-ltb, ltb-true, le-leb, leb-true}
use Rattle.folds.specs.Fold.{all, within}
use Rattle.model.specs.declared.Tree.{Tree}
use Rattle.model.specs.declared.Accelerator.{Accelerator}
use Rattle.model.specs.declared.Port.TheVariants.{Acc, Int}
use Rattle.folds.proofs.Folds.{picked, both, joined}
use Rattle.lines.specs.declared.Kind.TheVariants.{BusLine, IntLine, AccLine, Bus3Line}
use Rattle.lines.specs.Lines.{bus_kind, form_of, limit_kept, limits_kept}
use Rattle.model.specs.Builders.{with_bus, with_accelerators}
use Rattle.records.specs.Records.{with_port, with_interconnect, bus_of, with_root, with_child, acc_of, with_acc, bus_stored, has_room, root_stored, child_stored, acc_stored}

-- the fields of a bus3 line are in the limits of a bus line: only the burst length's differ
pub narrower : (a : Bool) (v : List ℕ) → limits_kept (bus_kind a) v ≡ true → limits_kept BusLine v ≡ true
unfolding all
narrower false v e = e
narrower true v e =
    let h = both (all 10 (limit_kept (form_of Bus3Line) v)) (within 0 (get_or v 10 0) 15) e in
    let g = both (all 9 (limit_kept (form_of Bus3Line) v)) (within 1 (get_or v 9 0) 16) h.0 in
    let b = both (leb 1 (get_or v 9 0)) _ g.1 in
    let few = le-leb (get_or v 9 0) 256 (omega (arith, leb-true (get_or v 9 0) 16 b.1)) in
    joined _ _ (joined _ _ g.0 (joined _ _ b.0 few)) h.1

module _ (t : Tree) (v : List ℕ) where
  -- an int line that has room is in its limits, and there is an entry left; and the other way
  pub room_kept : has_room t v ≡ true → (limits_kept IntLine v ≡ true) × (t.ints < 15)
  room_kept e = let b = both _ _ e in (b.0, ltb-true _ _ b.1)

  pub has_room_lem : limits_kept IntLine v ≡ true → t.ints < 15 → has_room t v ≡ true
  has_room_lem e h = joined _ _ e (lt-ltb _ _ h)

  pub bus_stored_lem : (a : Bool) → limits_kept (bus_kind a) v ≡ true → bus_stored t a v ≡ with_bus t (bus_of a v)
  unfolding bus_stored
  bus_stored_lem a e = picked _ _ _ e

  pub root_stored_lem : has_room t v ≡ true → root_stored t v ≡ with_root t (get_or v 3 0)
  unfolding root_stored
  root_stored_lem e = picked _ _ _ e

  pub child_stored_lem : has_room t v ≡ true → child_stored t v ≡ with_child t (get_or v 0 0) (get_or v 1 0) (get_or v 2 0) (get_or v 3 0)
  unfolding child_stored
  child_stored_lem e = picked _ _ _ e

  pub acc_stored_lem : limits_kept AccLine v ≡ true → acc_stored t v ≡ with_acc t v
  unfolding acc_stored
  acc_stored_lem e = picked _ _ _ e

-- an interconnect is stored in the parent's port, then in its entry
pub child_entry_lem : (t : Tree) (v : List ℕ) (w r : Tree) → w ≡ with_port t (get_or v 1 0) (get_or v 2 0) (Int (get_or v 0 0)) → r ≡ with_interconnect w (get_or v 0 0) (get_or v 1 0) (get_or v 2 0) (get_or v 3 0) → r ≡ with_child t (get_or v 0 0) (get_or v 1 0) (get_or v 2 0) (get_or v 3 0)
child_entry_lem t v w r e f =
    f ∙ ap (λ (w : Tree). with_interconnect w (get_or v 0 0) (get_or v 1 0) (get_or v 2 0) (get_or v 3 0)) e

-- an accelerator is stored in its port, its record and the count
pub acc_entry_lem : (t : Tree) (v : List ℕ) (w : Tree) (x : Accelerator) (k : ℕ)
    → w ≡ with_port t (get_or v 1 0) (get_or v 2 0) (Acc (get_or v 0 0)) → x ≡ acc_of v → k ≡ max t.accs (get_or v 0 0 + 1)
    → with_accelerators w k (set w.accelerators (get_or v 0 0) x) ≡ with_acc t v
acc_entry_lem t v w x k e f g =
    ap (λ (w : Tree). with_accelerators w k (set w.accelerators (get_or v 0 0) x)) e
    ∙ ap₂ (λ (x : Accelerator) (k : ℕ). with_accelerators (with_port t (get_or v 1 0) (get_or v 2 0) (Acc (get_or v 0 0))) k (set t.accelerators (get_or v 0 0) x)) f g
