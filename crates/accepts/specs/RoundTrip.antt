-- "Write the tree back" (document 02, item 4): which of a tree's texts is the written one, and what writing a file back gives.
--
-- before t a b         accelerator a comes before b: "by interconnect, then by port, both rising"
-- by_place t l         the accelerators of the list l stand in this order
-- WritesOnly s t       the bytes s write t, "acc lines .. by interconnect, then by port, both rising", and "It leaves out a return delay of 0"
-- rewritten s          the written text of the tree that s is read as
use Rattle.std.specs.Prelude.{ℕ, Bool, true, ◌&&◌, ◌||◌, List, [], ◌∷◌, ◌≡◌, eqb, ltb}
use Rattle.model.specs.declared.Tree.{Tree}
use Rattle.model.specs.Tree.{home_of, home_port_of}
use Rattle.reader.specs.TreeFile.{read_tree}
use Rattle.writer.specs.Lines.{bus_short}
use Rattle.writer.specs.Writer.{written_text}
use Rattle.accepts.specs.TreeText.{Writes}

abbrev pub before : Tree → ℕ → ℕ → Bool
before t a b = ltb (home_of t a) (home_of t b) || (eqb (home_of t a) (home_of t b) && ltb (home_port_of t a) (home_port_of t b))

unfoldable pub by_place : Tree → List ℕ → Bool
by_place t [] = true
by_place t (a ∷ []) = true
by_place t (a ∷ (b ∷ l)) = before t a b && by_place t (b ∷ l)

pub record WritesOnly (s : List ℕ) (t : Tree) : Type 0 where
  pub writes : Writes s t
  pub order : by_place t writes.order ≡ true
  pub short : t.bus.delay ≡ 0 → writes.bus ≡ bus_short t.bus

abbrev pub rewritten : List ℕ → List ℕ
rewritten s = written_text (read_tree s).tree
