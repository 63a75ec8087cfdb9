-- The record name of the bus line (document 02, item 7): "bus3 is a record name beside bus .. and means AXI3"; "The writer keeps the record
-- name".
--
-- record_name s        the record name that the bytes s begin with: what stands before the first tab
-- NameKept s           of an accepted file s: its record name says of which kind its tree's bus is; written back it has the same name; and
--                      every accepted file of the same tree has it, so that a tree of bus3 is another tree than one of bus
use Rattle.std.specs.Prelude.{ℕ, List, ◌≡◌, take}
use Rattle.text.specs.Text.{part_length}
use Rattle.lines.specs.Answer.{Accepted}
use Rattle.reader.specs.TreeFile.{read_tree}
use Rattle.writer.specs.Lines.{bus_name}
use Rattle.accepts.specs.RoundTrip.{rewritten}

abbrev pub record_name : List ℕ → List ℕ
record_name s = take (part_length 9 s) s

pub record NameKept (s : List ℕ) : Type 0 where
  pub said : record_name s ≡ bus_name (read_tree s).tree.bus
  pub kept : record_name (rewritten s) ≡ record_name s
  pub other : (r : List ℕ) → (read_tree r).answer ≡ Accepted → (read_tree r).tree ≡ (read_tree s).tree → record_name r ≡ record_name s
