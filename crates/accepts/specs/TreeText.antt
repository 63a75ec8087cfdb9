-- The text of a configuration, and what a file writes, said by writing and not by reading (document 01, "The tree on paper"; "A
-- configuration keeps them if a tree file could have given it"). The lines are those of `Lines` of `writer`.
--
-- WritesBus b l        line l writes bus b: with r, and where r is 0 also without it ("absent means 0")
-- lines_after bus t    the line `bus`, then the int lines and the acc lines of t, by number
-- tree_text t          the file of t
-- Writes s t           "a file as exactly the tree .. that it writes": the bytes s are a bus line of t, its int lines by number and its
--                      acc lines "in any order, numbers 0 to n - 1 each once", each ended by LF
use Rattle.std.specs.Prelude.{ℕ, List, ◌∷◌, ◌++◌, map, ◌≡◌, ltb}
use Rattle.model.specs.declared.Tree.{Tree}
use Rattle.model.specs.declared.Bus.{Bus}
use Rattle.folds.specs.Fold.{pick}
use Rattle.text.specs.Write.{rows, file_text}
use Rattle.writer.specs.Lines.{bus_whole, bus_short, bus_text, int_text, acc_text}
use Rattle.writer.specs.Writer.{times}

pub data WritesBus (b : Bus) (l : List ℕ) : Type 0 where
  with_delay : l ≡ bus_whole b → WritesBus b l
  without_delay : b.delay ≡ 0 → l ≡ bus_short b → WritesBus b l

abbrev pub lines_after : List ℕ → Tree → List (List ℕ)
lines_after bus t = bus ∷ (rows t.ints 0 (int_text t) ++ rows t.accs 0 (acc_text t))

abbrev pub tree_text : Tree → List ℕ
tree_text t = file_text (lines_after (bus_text t) t)

pub record Writes (s : List ℕ) (t : Tree) : Type 0 where
  pub bus : List ℕ
  pub writes_bus : WritesBus t.bus bus
  pub order : List ℕ
  pub once : (a : ℕ) → times a order ≡ pick (ltb a t.accs) 1 0
  pub text : s ≡ file_text (bus ∷ (rows t.ints 0 (int_text t) ++ map (acc_text t) order))
