-- A state, a configuration and its parts with some fields changed and the others as they were. Who changes a part names what
-- it changes, so that a new field of a record is an edit of this file and of the values that are written out whole.
--
-- state_with c w x m l o n  the state of channel c with the waiting counts w, the returns x, the admitted counts m, the last ports l, the
--                        allowances o and the slot count n
-- zero_state c            the state of channel c with nothing in it
-- with_counts s w m       state s with the waiting counts w and the admitted counts m
-- with_service s w x      state s with the waiting counts w and the returns x
-- with_turns s l o        state s with the last ports l and the allowances o
-- at_slot s x m n         state s with the returns x, the admitted counts m and the slot count n
-- with_bus t b            configuration t with the bus b
-- speaking a b           the bus b on a board that speaks AXI3 where a is true, else AXI4
-- with_interconnects t n l  configuration t with n interconnects, those of the list l
-- with_accelerators t n l   configuration t with n accelerators, those of the list l
-- carrying c p x         interconnect c with port p carrying x
-- with_job r w c T x      accelerator x with r reads, w writes, computing c and period T
use Rattle.std.specs.Prelude.{ℕ, Bool, List, set, replicate}
use Rattle.model.specs.declared.Tree.{Tree}
use Rattle.model.specs.declared.State.{State}
use Rattle.model.specs.declared.Channel.{Channel}
use Rattle.model.specs.declared.Bus.{Bus}
use Rattle.model.specs.declared.Interconnect.{Interconnect}
use Rattle.model.specs.declared.Accelerator.{Accelerator}
use Rattle.model.specs.declared.Port.{Port}

abbrev pub state_with : Channel → (w x m l o : List ℕ) → ℕ → State
state_with c w x m l o n = record { waiting = w; returning = x; admitted = m; last = l; allowance = o; slot = n; channel = c }

abbrev pub zero_state : Channel → State
zero_state c = state_with c (replicate 32 0) (replicate 32 0) (replicate 32 0) (replicate 15 0) (replicate 15 0) 0

abbrev pub with_counts : State → List ℕ → List ℕ → State
with_counts s w m = state_with s.channel w s.returning m s.last s.allowance s.slot

abbrev pub with_service : State → List ℕ → List ℕ → State
with_service s w x = state_with s.channel w x s.admitted s.last s.allowance s.slot

abbrev pub with_turns : State → List ℕ → List ℕ → State
with_turns s l o = state_with s.channel s.waiting s.returning s.admitted l o s.slot

abbrev pub at_slot : State → List ℕ → List ℕ → ℕ → State
at_slot s x m n = state_with s.channel s.waiting x m s.last s.allowance n

abbrev pub with_bus : Tree → Bus → Tree
with_bus t bus =
    record { bus = bus; interconnects = t.interconnects; accelerators = t.accelerators; ints = t.ints; accs = t.accs }

abbrev pub speaking : Bool → Bus → Bus
speaking a b =
    record {
      window = b.window;
      ta = b.ta;
      da = b.da;
      dd = b.dd;
      db = b.db;
      pr = b.pr;
      pw = b.pw;
      td = b.td;
      tb = b.tb;
      burst = b.burst;
      delay = b.delay;
      axi3 = a;
    }

abbrev pub with_interconnects : Tree → ℕ → List Interconnect → Tree
with_interconnects t ints interconnects =
    record { bus = t.bus; interconnects = interconnects; accelerators = t.accelerators; ints = ints; accs = t.accs }

abbrev pub with_accelerators : Tree → ℕ → List Accelerator → Tree
with_accelerators t accs accelerators =
    record { bus = t.bus; interconnects = t.interconnects; accelerators = accelerators; ints = t.ints; accs = accs }

abbrev pub carrying : Interconnect → ℕ → Port → Interconnect
carrying c p x =
    record { parent = c.parent; port = c.port; granularity = c.granularity; ports = set c.ports p (record { port = x }) }

abbrev pub with_job : ℕ → ℕ → ℕ → ℕ → Accelerator → Accelerator
with_job r w c T x =
    record {
      interconnect = x.interconnect;
      port = x.port;
      phi = x.phi;
      budget = x.budget;
      reads = r;
      writes = w;
      computing = c;
      period = T;
    }
