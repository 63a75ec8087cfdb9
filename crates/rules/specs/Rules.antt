-- The rules of a configuration and of a state (document 01, "The tree on paper" and the last paragraph of "What is
-- refused").
--
-- bus_keeps b             the bus line's limits; those of a bus3 line where it is one: "there B is at most 16" (document 02, item 7)
-- carries t j p x        port p of interconnect j may carry x: what it names is in the tree and names this place
-- is_empty x              the port x carries nothing
-- is_acc a x, is_int j x   the port x carries accelerator a, interconnect j
-- is_placed t j           interconnect j has its place: the root none, any other a port of a smaller one, which carries it
-- root_placed t           the root has no parent: both its fields are 0
-- child_placed t j        "a parent smaller than its child", and the parent's port carries interconnect j
-- used_interconnect t j   the rules of an interconnect in the tree; unused_interconnect t j: of an unused entry
-- interconnect_keeps t j  the rules of interconnect j, in the tree or unused
-- used_accelerator t a    the rules of an accelerator in the tree; unused_accelerator t a: of an unused entry
-- accelerator_keeps t a   the rules of accelerator a, in the tree or unused
-- sized_tree t            the configuration's arrays have the lengths of their type, as every value of a program has
-- tree_keeps t            "A configuration keeps them if a tree file could have given it"
-- sized s                the state's arrays have the lengths of their type, as every value of a program has
-- on_the_way r x           each return of x is due 1 to r slots ahead (document 02, item 2: "a return due now, earlier or more than r
--                        slots ahead, breaks its rules"). Bit d is due r + 1 - d slots ahead: bit r + 1 now, one above it earlier, bit 0
--                        more than r ahead. So x is even, and below 2 to the power r + 1
-- record_keeps t s a      at most phi outstanding ("each waiting count is at most phi", "their sum is at most phi"), and none on a channel
--                        where a job has 0 transactions (document 02, item 5: "A state where it has waiting or returning ones breaks
--                        its rules"); its returns on the way, "each admitted count at most the budget", "unused records are zero"
-- turn_keeps t s j        "each last port is 0 to 7, each allowance is at most the smaller of g and what waits under the
--                        last port", "unused records are zero"
-- state_keeps t s         "A state keeps its rules if .."
-- keeps t s              both keep their rules: else the refusal is 11
use Rattle.std.specs.Prelude.{ℕ, ◌+◌, ◌%◌, ◌^◌, min, Bool, true, false, ◌&&◌, length, leb, ltb, eqb}
use Rattle.model.specs.declared.Tree.{Tree}
use Rattle.model.specs.declared.Bus.{Bus}
use Rattle.model.specs.declared.State.{State}
use Rattle.model.specs.declared.Port.{Port}
use Rattle.model.specs.declared.Port.TheVariants.{Empty, Acc, Int}
use Rattle.folds.specs.Fold.{pick, all, within}
use Rattle.model.specs.Tree.{beat_limit, interconnect_of, port_of, granularity_of, parent_of, parent_port_of, home_of, home_port_of, phi_of, limit_of, budget_of, level_of, accelerator_of, delay_of, waiting_of, returns_of, outstanding_of, admitted_of, last_of, allowance_of}
use Rattle.model.specs.Beneath.{waits_under}

unfoldable pub bus_keeps : Bus → Bool
bus_keeps b =
    within 1 b.window 65535
    && within 1 b.ta 255
    && within 0 b.da 255
    && within 0 b.dd 255
    && within 0 b.db 255
    && within 0 b.pr 4095
    && within 0 b.pw 4095
    && within 1 b.td 255
    && within 1 b.tb 255
    && within 1 b.burst (beat_limit b)
    && within 0 b.delay 15

abbrev pub is_empty : Port → Bool
is_empty Empty = true
is_empty (Acc a) = false
is_empty (Int j) = false

abbrev pub is_acc : ℕ → Port → Bool
is_acc a Empty = false
is_acc a (Acc b) = eqb a b
is_acc a (Int j) = false

abbrev pub is_int : ℕ → Port → Bool
is_int j Empty = false
is_int j (Acc b) = false
is_int j (Int k) = eqb j k

unfoldable pub carries : Tree → ℕ → ℕ → Port → Bool
carries t j p Empty = true
carries t j p (Acc a) = ltb a t.accs && eqb (home_of t a) j && eqb (home_port_of t a) p
carries t j p (Int k) = ltb 0 k && ltb k t.ints && eqb (parent_of t k) j && eqb (parent_port_of t k) p

unfoldable pub root_placed : Tree → Bool
root_placed t = eqb (parent_of t 0) 0 && eqb (parent_port_of t 0) 0

unfoldable pub child_placed : Tree → ℕ → Bool
child_placed t j =
    ltb (parent_of t j) j
    && leb (parent_port_of t j) 7
    && is_int j (port_of t (parent_of t j) (parent_port_of t j))

abbrev pub is_placed : Tree → ℕ → Bool
is_placed t j = pick (eqb j 0) (root_placed t) (child_placed t j)

unfoldable pub used_interconnect : Tree → ℕ → Bool
used_interconnect t j =
    within 1 (granularity_of t j) 16
    && is_placed t j
    && leb (level_of t j) 4
    && all 8 (λ p. carries t j p (port_of t j p))

unfoldable pub unused_interconnect : Tree → ℕ → Bool
unused_interconnect t j =
    eqb (granularity_of t j) 0
    && eqb (parent_of t j) 0
    && eqb (parent_port_of t j) 0
    && all 8 (λ p. is_empty (port_of t j p))

abbrev pub interconnect_keeps : Tree → ℕ → Bool
interconnect_keeps t j = pick (ltb j t.ints) (used_interconnect t j) (unused_interconnect t j)

unfoldable pub used_accelerator : Tree → ℕ → Bool
used_accelerator t a =
    ltb (home_of t a) t.ints
    && leb (home_port_of t a) 7
    && is_acc a (port_of t (home_of t a) (home_port_of t a))
    && within 1 (phi_of t a) 16
    && within 1 (budget_of t a) 1024
    && within 0 (accelerator_of t a).reads 65535
    && within 0 (accelerator_of t a).writes 65535
    && within 0 (accelerator_of t a).computing 4294967295
    && within 1 (accelerator_of t a).period 4294967295

unfoldable pub unused_accelerator : Tree → ℕ → Bool
unused_accelerator t a =
    eqb (home_of t a) 0
    && eqb (home_port_of t a) 0
    && eqb (phi_of t a) 0
    && eqb (budget_of t a) 0
    && eqb (accelerator_of t a).reads 0
    && eqb (accelerator_of t a).writes 0
    && eqb (accelerator_of t a).computing 0
    && eqb (accelerator_of t a).period 0

abbrev pub accelerator_keeps : Tree → ℕ → Bool
accelerator_keeps t a = pick (ltb a t.accs) (used_accelerator t a) (unused_accelerator t a)

abbrev pub sized_tree : Tree → Bool
sized_tree t =
    eqb (length t.interconnects) 15
    && eqb (length t.accelerators) 32
    && all 15 (λ j. eqb (length (interconnect_of t j).ports) 8)

unfoldable pub tree_keeps : Tree → Bool
tree_keeps t =
    sized_tree t
    && bus_keeps t.bus
    && within 1 t.ints 15
    && within 1 t.accs 32
    && all 15 (interconnect_keeps t)
    && all 32 (accelerator_keeps t)

unfoldable pub sized : State → Bool
sized s =
    eqb (length s.waiting) 32
    && eqb (length s.admitted) 32
    && eqb (length s.last) 15
    && eqb (length s.allowance) 15
    && eqb (length s.returning) 32

abbrev pub on_the_way : ℕ → ℕ → Bool
on_the_way r x = eqb (x % 2) 0 && ltb x (2 ^ (r + 1))

unfoldable pub record_keeps : Tree → State → ℕ → Bool
record_keeps t s a =
    pick (ltb a t.accs)
    (leb (outstanding_of s a) (limit_of t s.channel a) && leb (admitted_of s a) (budget_of t a) && on_the_way (delay_of t) (returns_of s a))
    (eqb (waiting_of s a) 0 && eqb (admitted_of s a) 0 && eqb (returns_of s a) 0)

unfoldable pub turn_keeps : Tree → State → ℕ → Bool
turn_keeps t s j =
    pick (ltb j t.ints)
    (leb (last_of s j) 7 && leb (allowance_of s j) (min (granularity_of t j) (waits_under t s j (last_of s j))))
    (eqb (last_of s j) 0 && eqb (allowance_of s j) 0)

unfoldable pub state_keeps : Tree → State → Bool
state_keeps t s = sized s && all 32 (record_keeps t s) && all 15 (turn_keeps t s)

abbrev pub keeps : Tree → State → Bool
keeps t s = tree_keeps t && state_keeps t s
