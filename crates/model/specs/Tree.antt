-- A configuration and a state, read by document 01's terms. Each accessor answers zero, or an empty port, past the end
-- of its array.
--
-- empty_cell             a port that carries nothing; no_interconnect, no_accelerator: an unused entry
-- interconnect_of t j    interconnect j; accelerator_of t a: accelerator a
-- port_of t j p          what port p of interconnect j carries ("A port is empty, or carries one accelerator, or one
--                       lower interconnect")
-- granularity_of t j     g of interconnect j
-- parent_of t j          the parent of interconnect j
-- parent_port_of t j      the port on the parent that carries interconnect j
-- home_of t a            the interconnect that accelerator a is on
-- home_port_of t a        the port there that carries accelerator a
-- phi_of t a             the outstanding limit phi of accelerator a
-- job_of t c a           the transactions that a job of accelerator a has on channel c: Nr or Nw
-- limit_of t c a         how many transactions of accelerator a may be outstanding on channel c: phi, but "On a channel where a job
--                       has 0 transactions, the capacity of that accelerator now counts 0" (document 02, item 5)
-- budget_of t a          the budget of accelerator a, in transactions a window
-- window_of t n          the window of slot n ("slot s is in window floor(s / P), slots counted from 0")
-- Crossing              an interconnect on a path, and the port of it by which the path comes in
-- above n t j           the crossings above interconnect j, nearest first: parent and port, at most n of them
-- path t a              the crossings of accelerator a, from its own interconnect up to the root
-- level_of t j           the level of interconnect j ("A level is the count of interconnects from the root to here, the
--                       root 1")
-- beat_limit b           the most beats of a burst on the bus b: "AMBA AXI3 allows bursts of at most 16 beats, AXI4 incrementing bursts of
--                       up to 256"; "bus3 .. means AXI3", "A record named bus keeps today's meaning" (document 02, item 7)
-- delay_of t             the return delay r, in slots (document 02, item 2: "the return delay r, 0 to 15 slots")
-- waiting_of s a         the transactions of accelerator a that wait
-- bit d x               bit d of the number x
-- returns_of s a         the returning transactions of accelerator a, as the bits of a number: bit d is 1 where one was served d slots
--                       ago. "A transaction served in slot s stops being outstanding at the start of slot s + 1 + r", so that one is due
--                       r + 1 - d slots ahead
-- returning_of s a       how many transactions of accelerator a are returning
-- outstanding_of s a     the transactions of accelerator a that are outstanding: "its returning transactions beside the waiting ones"
-- admitted_of s a        the transactions of accelerator a admitted in this window
-- last_of s j            the last port of interconnect j
-- allowance_of s j       the allowance of interconnect j
use Rattle.std.specs.Prelude.{ℕ, zero, suc, ◌+◌, ◌/◌, ◌%◌, ◌^◌, List, [], ◌∷◌, get_or, length, replicate, eqb}
use Rattle.std.specs.Int.Count.{ones}
use Rattle.model.specs.declared.Tree.{Tree}
use Rattle.model.specs.declared.State.{State}
use Rattle.model.specs.declared.Bus.{Bus}
use Rattle.model.specs.declared.Interconnect.{Interconnect}
use Rattle.model.specs.declared.Accelerator.{Accelerator}
use Rattle.model.specs.declared.PortCell.{PortCell}
use Rattle.model.specs.declared.Channel.{Channel}
use Rattle.model.specs.declared.Channel.TheVariants.{Read, Write}
use Rattle.model.specs.declared.Port.{Port}
use Rattle.model.specs.declared.Port.TheVariants.{Empty}
use Rattle.folds.specs.Fold.{pick}

abbrev pub empty_cell : PortCell
empty_cell = record { port = Empty }

abbrev pub no_interconnect : Interconnect
no_interconnect = record { parent = 0; port = 0; granularity = 0; ports = replicate 8 empty_cell }

abbrev pub no_accelerator : Accelerator
no_accelerator = record { interconnect = 0; port = 0; phi = 0; budget = 0; reads = 0; writes = 0; computing = 0; period = 0 }

abbrev pub interconnect_of : Tree → ℕ → Interconnect
interconnect_of t j = get_or t.interconnects j no_interconnect

abbrev pub accelerator_of : Tree → ℕ → Accelerator
accelerator_of t a = get_or t.accelerators a no_accelerator

abbrev pub port_of : Tree → ℕ → ℕ → Port
port_of t j p = (get_or (interconnect_of t j).ports p empty_cell).port

abbrev pub granularity_of : Tree → ℕ → ℕ
granularity_of t j = (interconnect_of t j).granularity

abbrev pub parent_of : Tree → ℕ → ℕ
parent_of t j = (interconnect_of t j).parent

abbrev pub parent_port_of : Tree → ℕ → ℕ
parent_port_of t j = (interconnect_of t j).port

abbrev pub home_of : Tree → ℕ → ℕ
home_of t a = (accelerator_of t a).interconnect

abbrev pub home_port_of : Tree → ℕ → ℕ
home_port_of t a = (accelerator_of t a).port

abbrev pub phi_of : Tree → ℕ → ℕ
phi_of t a = (accelerator_of t a).phi

abbrev pub job_of : Tree → Channel → ℕ → ℕ
job_of t Read a = (accelerator_of t a).reads
job_of t Write a = (accelerator_of t a).writes

abbrev pub limit_of : Tree → Channel → ℕ → ℕ
limit_of t c a = pick (eqb (job_of t c a) 0) 0 (phi_of t a)

abbrev pub budget_of : Tree → ℕ → ℕ
budget_of t a = (accelerator_of t a).budget

abbrev pub window_of : Tree → ℕ → ℕ
window_of t n = n / t.bus.window

pub record Crossing : Type 0 where
  pub interconnect : ℕ
  pub port : ℕ

unfoldable pub above : ℕ → Tree → ℕ → List Crossing
above zero t j = []
above (suc n) t j =
    pick (eqb j 0) [] (record { interconnect = parent_of t j; port = parent_port_of t j } ∷ above n t (parent_of t j))

abbrev pub path : Tree → ℕ → List Crossing
path t a = record { interconnect = home_of t a; port = home_port_of t a } ∷ above 15 t (home_of t a)

abbrev pub level_of : Tree → ℕ → ℕ
level_of t j = suc (length (above 15 t j))

abbrev pub beat_limit : Bus → ℕ
beat_limit b = pick b.axi3 16 256

abbrev pub delay_of : Tree → ℕ
delay_of t = t.bus.delay

abbrev pub waiting_of : State → ℕ → ℕ
waiting_of s a = get_or s.waiting a 0

abbrev pub bit : ℕ → ℕ → ℕ
bit d x = x / 2 ^ d % 2

abbrev pub returns_of : State → ℕ → ℕ
returns_of s a = get_or s.returning a 0

abbrev pub returning_of : State → ℕ → ℕ
returning_of s a = ones (returns_of s a)

abbrev pub outstanding_of : State → ℕ → ℕ
outstanding_of s a = waiting_of s a + returning_of s a

abbrev pub admitted_of : State → ℕ → ℕ
admitted_of s a = get_or s.admitted a 0

abbrev pub last_of : State → ℕ → ℕ
last_of s j = get_or s.last j 0

abbrev pub allowance_of : State → ℕ → ℕ
allowance_of s j = get_or s.allowance j 0
