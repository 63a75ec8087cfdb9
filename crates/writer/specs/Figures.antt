-- Figures of items 4 and 7: what is written of three trees, byte for byte.
--
-- worked_text           the lines of document 01's worked listing, with tabs for its spaces
-- older                the tree of the worked listing on a board that speaks AXI3 (document 02, item 7); older_text: its lines, the first of
--                      which is named bus3
-- against              a tree with return delay 3 whose accelerators are numbered against the order of their ports: 0 is on port 7 and 2 on
--                      port 0 of the root, 1 on port 0 of interconnect 1, which is on port 1 of the root
-- against_text          its text: the acc lines are those of accelerators 2, 0, 1
use Rattle.std.specs.Prelude.{ℕ, true, List, [], ◌∷◌, ◌++◌, replicate}
use Rattle.model.specs.declared.Tree.{Tree}
use Rattle.model.specs.declared.Port.TheVariants.{Empty, Acc, Int}
use Rattle.model.specs.Tree.{empty_cell}
use Rattle.model.specs.Builders.{with_bus, speaking}
use Rattle.model.specs.Trees.{interconnect, ports, block, tree_with, worked}
use Rattle.put.specs.Page.{bytes}

abbrev worked_lines : List ℕ
worked_lines =
    bytes "\t8\t1\t4\t2\t2\t30\t25\t1\t1\t16\n"
    ++ bytes "int\t0\t-\t-\t1\n"
    ++ bytes "acc\t0\t0\t0\t4\t2\t10\t5\t1000\t2000\n"
    ++ bytes "acc\t1\t0\t3\t4\t2\t1\t0\t0\t100\n"

abbrev pub worked_text : List ℕ
worked_text = bytes "bus" ++ worked_lines

abbrev pub older : Tree
older = with_bus worked (speaking true worked.bus)

abbrev pub older_text : List ℕ
older_text = bytes "bus3" ++ worked_lines

abbrev pub against : Tree
against =
    tree_with 16 3
    (interconnect 0 0 2 (record { port = Acc 2 } ∷ record { port = Int 1 } ∷ replicate 5 empty_cell ++ (record { port = Acc 0 } ∷ []))
    ∷ interconnect 0 1 1 (ports (Acc 1) Empty)
    ∷ [])
    (block 0 7 4 8 ∷ block 1 0 3 8 ∷ block 0 0 1 8 ∷ [])

abbrev pub against_text : List ℕ
against_text =
    bytes "bus\t16\t1\t4\t2\t2\t30\t25\t1\t1\t16\t3\n"
    ++ bytes "int\t0\t-\t-\t2\n"
    ++ bytes "int\t1\t0\t1\t1\n"
    ++ bytes "acc\t2\t0\t0\t1\t8\t1\t1\t0\t1\n"
    ++ bytes "acc\t0\t0\t7\t4\t8\t1\t1\t0\t1\n"
    ++ bytes "acc\t1\t1\t0\t3\t8\t1\t1\t0\t1\n"
