-- A run as a list of calls (document 01, "What contracts have to carry", e: "A run that is not refused is such a list from the
-- fresh state, the bytes it writes the slots' answers, 255 for idle"), on one channel (document 02, item 5).
--
-- offers_held k t o a    the offers that accelerator a makes from o on, at most k of them, a refused one included
-- offers_all t o a       those with all that accelerator a holds
-- offers_each n t o      the offers of the accelerators below n, in rising number
-- slot_calls t r         the calls of one slot: the offers, then the slot
-- calls_before n t r     the calls of the first n slots of the run from r
-- trace_start t c s      where the run of trace s on channel c starts
-- calls_of t c s n       the calls of the first n slots of the run of trace s on channel c
-- events_of_run t c s n  those calls with their answers
-- byte_in c x            the byte of a slot's answer; none for an offer
-- bytes_in es            the answers of the slots among the events es, as bytes
-- asked_before a m rs    what the lines of rs that are due before slot m ask for accelerator a
-- Reports e m            the ending e "reports done or stopped, and the number of slots used", m
-- RunIsCalls t c s d m   what is proved of a run of trace s on channel c over the buffer d that reports m slots
use Rattle.std.specs.Prelude.{ℕ, zero, suc, ◌+◌, ◌≤◌, ◌<◌, List, [], ◌∷◌, ◌++◌, ◌≡◌, ◌⊎◌, length, take}
use Rattle.model.specs.declared.Tree.{Tree}
use Rattle.model.specs.declared.Channel.{Channel}
use Rattle.model.specs.Tree.{job_of}
use Rattle.text.specs.Text.{lines}
use Rattle.trace.specs.declared.Request.{Request}
use Rattle.trace.specs.TraceFile.{requests, total_for}
use Rattle.machine.specs.Machine.{Answer, fresh_state, offered, on_admitted}
use Rattle.machine.specs.Calls.{Call, offer, slot, state_after}
use Rattle.guarantee.specs.Guarantee.{Event, events_of, slots_in, Guarantee}
use Rattle.guarantee.specs.Windows.{admissions_by}
use Rattle.runner.specs.Offers.{Offering, held_of, release, offering, offer_each}
use Rattle.runner.specs.Run.{Run, with_due, byte_of, start, Ending, done, stopped, ran_of, buffer_after}
use Rattle.runner.specs.Slots.{standing, due_before}

unfoldable pub offers_held : ℕ → Tree → Offering → ℕ → List Call
offers_held zero t o a = []
offers_held (suc k) t o a =
    offer a
    ∷ on_admitted (offered t o.state a).answer
    (offers_held k t (offering (offered t o.state a).state (release o.held a)) a)
    []

abbrev pub offers_all : Tree → Offering → ℕ → List Call
offers_all t o a = offers_held (held_of o.held a) t o a

unfoldable pub offers_each : ℕ → Tree → Offering → List Call
offers_each zero t o = []
offers_each (suc n) t o = offers_each n t o ++ offers_all t (offer_each n t o) n

abbrev pub slot_calls : Tree → Run → List Call
slot_calls t r = offers_each t.accs t (with_due r) ++ slot ∷ []

unfoldable pub calls_before : ℕ → Tree → Run → List Call
calls_before zero t r = []
calls_before (suc n) t r = calls_before n t r ++ slot_calls t (standing n t r)

abbrev pub trace_start : Tree → Channel → List ℕ → Run
trace_start t c s = start t c (requests (lines s))

abbrev pub calls_of : Tree → Channel → List ℕ → ℕ → List Call
calls_of t c s n = calls_before n t (trace_start t c s)

abbrev pub byte_in : Call → Answer → List ℕ
byte_in (offer a) x = []
byte_in slot x = byte_of x ∷ []

unfoldable pub bytes_in : List Event → List ℕ
bytes_in [] = []
bytes_in (e ∷ es) = byte_in e.call e.answer ++ bytes_in es

abbrev pub events_of_run : Tree → Channel → List ℕ → ℕ → List Event
events_of_run t c s n = events_of t (fresh_state t c) (calls_of t c s n)

abbrev pub asked_before : ℕ → ℕ → List Request → ℕ
asked_before a m rs = total_for a (due_before m rs)

abbrev pub Reports : Ending → ℕ → Type 0
Reports e m = (e ≡ done m) ⊎ (e ≡ stopped m)

pub record RunIsCalls (t : Tree) (c : Channel) (s d : List ℕ) (m : ℕ) : Type 0 where
  -- demand 3 holds of the run's calls, "from the fresh state"
  pub demand : Guarantee t (fresh_state t c) (calls_of t c s m)
  -- "the bytes it writes the slots' answers, 255 for idle"
  pub bytes : bytes_in (events_of_run t c s m) ≡ take m (buffer_after t c s d)
  -- each slot used is one that is not refused, and there are at most as many as the buffer has bytes
  pub slots : slots_in (events_of_run t c s m) ≡ m
  pub room : m ≤ length d
  -- the calls leave the state in which the run stands after its slots
  pub state : state_after t (fresh_state t c) (calls_of t c s m) ≡ (standing m t (trace_start t c s)).state
  -- what an accelerator still holds and what was admitted of it is what its lines due have asked
  pub asked : (a : ℕ) → a < t.accs
      → held_of (standing m t (trace_start t c s)).held a + admissions_by a (events_of_run t c s m)
      ≡ asked_before a m (requests (lines s))
  -- "In a run its held requests stay held": of an accelerator whose job has 0 transactions on the channel nothing is admitted, and what
  -- its lines due have asked is held
  pub stays_held : (a : ℕ) → a < t.accs → job_of t c a ≡ 0
      → (admissions_by a (events_of_run t c s m) ≡ 0)
      × (held_of (standing m t (trace_start t c s)).held a ≡ asked_before a m (requests (lines s)))
  -- "so that run is stopped", whatever the trace asks of it
  pub stopped_then : (a : ℕ) → a < t.accs → job_of t c a ≡ 0 → 0 < total_for a (requests (lines s)) → ran_of t c s (length d) ≡ stopped m
