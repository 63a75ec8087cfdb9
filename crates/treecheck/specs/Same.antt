-- Which number of the store stands for which entry of the library's tree: the tree is the same if each entry is that number.
--
-- same_numbers b d     the ten numbers that each bus line has: they are the first ten columns of row 0
-- same_name x d        the bus line's record name: bus3 exactly if x, that the tree is one of AXI3, is true
-- same_bus b d         the bus line: the ten numbers, the return delay in the eleventh column, and the record name
-- code_of x            what a port carries, as the rows say it: 255 nothing, an accelerator's number, 32 + an interconnect's
-- place_said d i c     column c of interconnect i's row, its parent or port: 0 at the root, and past the last interconnect
-- grain_said d i       its granularity: 0 past the last interconnect
-- same_int x i d       the record of interconnect i: parent, port and granularity
-- same_ports t i d     its eight ports: each carries what the rows put there
-- same_ints t d        as many interconnects, and the records and ports of all fifteen
-- entry_said d a c     column c of accelerator a's row: 0 past the last accelerator
-- same_acc x a d       the record of accelerator a: its eight entries
-- same_accs t d        as many accelerators, and the records of all thirty-two
-- same_tree t d        the whole tree
use Rattle.std.specs.Prelude.{ℕ, ◌+◌, Bool, true, false, ◌&&◌, not, List, ltb, eqb}
use Rattle.folds.specs.Fold.{pick, all}
use Rattle.model.specs.declared.Accelerator.{Accelerator}
use Rattle.model.specs.declared.Bus.{Bus}
use Rattle.model.specs.declared.Interconnect.{Interconnect}
use Rattle.model.specs.declared.Port.{Port}
use Rattle.model.specs.declared.Port.TheVariants.{Empty, Acc, Int}
use Rattle.model.specs.declared.Tree.{Tree}
use Rattle.model.specs.Tree.{interconnect_of, accelerator_of, port_of}
use Rattle.second.specs.Rows.{cell_of, ints_of, accs_of, is_older, int_row, acc_row, carried_of}

unfoldable pub same_numbers : Bus → List ℕ → Bool
same_numbers b d =
    eqb b.window (cell_of d 0 0)
    && eqb b.ta (cell_of d 0 1)
    && eqb b.da (cell_of d 0 2)
    && eqb b.dd (cell_of d 0 3)
    && eqb b.db (cell_of d 0 4)
    && eqb b.pr (cell_of d 0 5)
    && eqb b.pw (cell_of d 0 6)
    && eqb b.td (cell_of d 0 7)
    && eqb b.tb (cell_of d 0 8)
    && eqb b.burst (cell_of d 0 9)

abbrev pub same_name : Bool → List ℕ → Bool
same_name true d = is_older d
same_name false d = not (is_older d)

abbrev pub same_bus : Bus → List ℕ → Bool
same_bus b d = same_numbers b d && eqb b.delay (cell_of d 0 10) && same_name b.axi3 d

abbrev pub code_of : Port → ℕ
code_of Empty = 255
code_of (Acc a) = a
code_of (Int i) = i + 32

abbrev pub place_said : List ℕ → ℕ → ℕ → ℕ
place_said d i c = pick (eqb i 0) 0 (pick (ltb i (ints_of d)) (cell_of d (int_row i) c) 0)

abbrev pub grain_said : List ℕ → ℕ → ℕ
grain_said d i = pick (ltb i (ints_of d)) (cell_of d (int_row i) 3) 0

unfoldable pub same_int : Interconnect → ℕ → List ℕ → Bool
same_int x i d =
    eqb x.parent (place_said d i 1) && eqb x.port (place_said d i 2) && eqb x.granularity (grain_said d i)

abbrev pub same_ports : Tree → ℕ → List ℕ → Bool
same_ports t i d = all 8 (λ p. eqb (code_of (port_of t i p)) (carried_of d i p))

abbrev pub same_ints : Tree → List ℕ → Bool
same_ints t d = eqb t.ints (ints_of d) && all 15 (λ i. same_int (interconnect_of t i) i d && same_ports t i d)

abbrev pub entry_said : List ℕ → ℕ → ℕ → ℕ
entry_said d a c = pick (ltb a (accs_of d)) (cell_of d (acc_row d a) c) 0

unfoldable pub same_acc : Accelerator → ℕ → List ℕ → Bool
same_acc x a d =
    eqb x.interconnect (entry_said d a 1)
    && eqb x.port (entry_said d a 2)
    && eqb x.phi (entry_said d a 3)
    && eqb x.budget (entry_said d a 4)
    && eqb x.reads (entry_said d a 5)
    && eqb x.writes (entry_said d a 6)
    && eqb x.computing (entry_said d a 7)
    && eqb x.period (entry_said d a 8)

abbrev pub same_accs : Tree → List ℕ → Bool
same_accs t d = eqb t.accs (accs_of d) && all 32 (λ a. same_acc (accelerator_of t a) a d)

abbrev pub same_tree : Tree → List ℕ → Bool
same_tree t d = same_bus t.bus d && same_ints t d && same_accs t d
