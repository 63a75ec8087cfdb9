-- What the fields of a record make of a tree (document 01, "The tree on paper"). Whether its line may stand in the file is no
-- matter here: `tree_line` of `placing` says that.
--
-- no_bus                no bus line yet
-- empty_tree            the tree before the first line: no window, no interconnect, no accelerator. While a file is read,
--                      what is read so far is held as a tree: a window of 0 says that no bus line was read, a phi of 0
--                      that the accelerator's line was not read
-- bus_of a v            the bus that the fields v of a bus line write, of a bus3 line where a is true; acc_of v: the accelerator
-- with_port t j p x     tree t with port p of interconnect j carrying x
-- with_interconnect     tree t with one interconnect more, number j, its eight ports empty
-- with_root t g         tree t with the root; with_child t j p q g: with interconnect j on port q of interconnect p
-- with_acc t v          tree t with the accelerator that the fields v write
-- bus_stored t a v      tree t with the bus that the fields v so write, and t itself where a field is outside its limits
-- has_room t v          the fields v of an int line are in their limits, and tree t has an entry left for an interconnect
-- root_stored t v       tree t with the root that the fields v write, and t itself where it has no room; child_stored t v: with
--                      another interconnect
-- acc_stored t v        tree t with the accelerator that the fields v write, and t itself where a field is outside its limits
use Rattle.std.specs.Prelude.{ℕ, ◌+◌, max, Bool, false, ◌&&◌, List, get_or, set, replicate, ltb}
use Rattle.model.specs.declared.Tree.{Tree}
use Rattle.model.specs.declared.Bus.{Bus}
use Rattle.model.specs.declared.Accelerator.{Accelerator}
use Rattle.model.specs.declared.Port.{Port}
use Rattle.model.specs.declared.Port.TheVariants.{Acc, Int}
use Rattle.folds.specs.Fold.{pick}
use Rattle.model.specs.Tree.{empty_cell, no_interconnect, no_accelerator, interconnect_of}
use Rattle.model.specs.Builders.{with_bus, with_interconnects, with_accelerators, carrying}
use Rattle.lines.specs.declared.Kind.TheVariants.{IntLine, AccLine}
use Rattle.lines.specs.Lines.{bus_kind, limits_kept}

abbrev pub no_bus : Bus
no_bus = record { window = 0; ta = 0; da = 0; dd = 0; db = 0; pr = 0; pw = 0; td = 0; tb = 0; burst = 0; delay = 0; axi3 = false }

abbrev pub empty_tree : Tree
empty_tree =
    record {
      bus = no_bus;
      interconnects = replicate 15 no_interconnect;
      accelerators = replicate 32 no_accelerator;
      ints = 0;
      accs = 0;
    }

abbrev pub bus_of : Bool → List ℕ → Bus
bus_of axi3 v =
    record {
      window = get_or v 0 0;
      ta = get_or v 1 0;
      da = get_or v 2 0;
      dd = get_or v 3 0;
      db = get_or v 4 0;
      pr = get_or v 5 0;
      pw = get_or v 6 0;
      td = get_or v 7 0;
      tb = get_or v 8 0;
      burst = get_or v 9 0;
      delay = get_or v 10 0;
      axi3 = axi3;
    }

abbrev pub with_port : Tree → ℕ → ℕ → Port → Tree
with_port t j p x = with_interconnects t t.ints (set t.interconnects j (carrying (interconnect_of t j) p x))

abbrev pub with_interconnect : Tree → ℕ → ℕ → ℕ → ℕ → Tree
with_interconnect t j parent port g =
    with_interconnects t (t.ints + 1)
    (set t.interconnects j (record { parent = parent; port = port; granularity = g; ports = replicate 8 empty_cell }))

abbrev pub with_root : Tree → ℕ → Tree
with_root t g = with_interconnect t 0 0 0 g

abbrev pub with_child : Tree → ℕ → ℕ → ℕ → ℕ → Tree
with_child t j parent port g = with_interconnect (with_port t parent port (Int j)) j parent port g

abbrev pub acc_of : List ℕ → Accelerator
acc_of v =
    record {
      interconnect = get_or v 1 0;
      port = get_or v 2 0;
      phi = get_or v 3 0;
      budget = get_or v 4 0;
      reads = get_or v 5 0;
      writes = get_or v 6 0;
      computing = get_or v 7 0;
      period = get_or v 8 0;
    }

abbrev pub with_acc : Tree → List ℕ → Tree
with_acc t v =
    with_accelerators (with_port t (get_or v 1 0) (get_or v 2 0) (Acc (get_or v 0 0))) (max t.accs (get_or v 0 0 + 1))
    (set t.accelerators (get_or v 0 0) (acc_of v))

unfoldable pub bus_stored : Tree → Bool → List ℕ → Tree
bus_stored t axi3 v = pick (limits_kept (bus_kind axi3) v) (with_bus t (bus_of axi3 v)) t

-- v: number, parent, port, g
abbrev pub has_room : Tree → List ℕ → Bool
has_room t v = limits_kept IntLine v && ltb t.ints 15

unfoldable pub root_stored : Tree → List ℕ → Tree
root_stored t v = pick (has_room t v) (with_root t (get_or v 3 0)) t

unfoldable pub child_stored : Tree → List ℕ → Tree
child_stored t v = pick (has_room t v) (with_child t (get_or v 0 0) (get_or v 1 0) (get_or v 2 0) (get_or v 3 0)) t

unfoldable pub acc_stored : Tree → List ℕ → Tree
acc_stored t v = pick (limits_kept AccLine v) (with_acc t v) t
