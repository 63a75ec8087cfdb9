-- With return delay 0 the machine is document 01's, call for call, on a channel where every accelerator has a job. Here that machine is
-- written out where it differs: "A transaction stops being outstanding in the slot that serves it" (document 01, "Turns"). It neither
-- reads nor changes what returns. What stands here without `AtOnce` is used as it is: the rules of a configuration and of a turn, the
-- choice, the last slot. φ a is how many of accelerator a may be outstanding: with φ = `phi_of t` it is document 01's own machine, which
-- never answers 14 (`never_14`); with φ = `limit_of t c` it has what document 02, item 5 adds to that on channel c, and nothing else.
--
-- sized_at_once s          the lengths of the state's arrays, but for the returns
-- record_keeps_at_once φ t s a  "each waiting count is at most phi, each admitted count at most the budget", "unused records are zero"
-- state_keeps_at_once φ t s   "A state keeps its rules if .."
-- keeps_at_once φ t s      configuration and state keep their rules: else the refusal is 11
-- verdict_at_once φ t s a  what an offer answers once both have passed: 7, 14 where none may be outstanding, 8, 9, or admitted. 8: "phi
--                          transactions already outstanding", which is that many waiting
-- offered_at_once φ t s a  the offer of one transaction: 11, 7, 14, 8, 9 in this order, or admitted
-- tick_at_once t s         "Then the slot count rises by one; where that opens a new window, all admitted counts become 0"
-- take_one_at_once s a     one transaction of accelerator a less waits, and it is outstanding no more
-- serve_at_once t s        the state once the chosen accelerator's oldest transaction is served, before the slot count rises
-- slotted_at_once φ t s    one slot: 11, 10 in this order, or idle, or the accelerator served
-- step_at_once φ t s c     what the call c answers and returns from state s
-- answers_at_once φ t s cs the answers of the calls cs, the first handed s
-- events_at_once φ t s cs  the calls cs with these answers
-- state_at_once φ t s cs   the state that the last of the calls cs returns
-- AtOnce φ t s cs          from state s the calls cs do what this machine does with φ
-- EachHasJob t c           every accelerator of the tree has a job on channel c
-- DocumentOne t s cs       where that is so of the channel of state s, the calls cs do there what document 01's own machine does
-- Never14 t                document 01's own machine does not answer 14
use Rattle.std.specs.Prelude.{ℕ, ◌+◌, ◌-◌, ◌<◌, Bool, not, ◌&&◌, List, [], ◌∷◌, ◌≡◌, length, set, replicate, leb, ltb, eqb}
use Rattle.model.specs.declared.Tree.{Tree}
use Rattle.model.specs.declared.State.{State}
use Rattle.model.specs.declared.Channel.{Channel}
use Rattle.folds.specs.Fold.{pick, all}
use Rattle.model.specs.Tree.{phi_of, job_of, budget_of, waiting_of, admitted_of}
use Rattle.model.specs.Builders.{with_counts, at_slot}
use Rattle.rules.specs.Rules.{tree_keeps, turn_keeps, keeps}
use Rattle.turns.specs.Turns.{after}
use Rattle.machine.specs.Machine.{Answer, Outcome, outcome, served, idle, refused, admit, limits_answer, on_admitted, none_waits, opens, last_slot, chosen}
use Rattle.machine.specs.Calls.{Call, offer, slot, answers_of, state_after}
use Rattle.guarantee.specs.Guarantee.{Event, event}

unfoldable pub sized_at_once : State → Bool
sized_at_once s =
    eqb (length s.waiting) 32
    && eqb (length s.admitted) 32
    && eqb (length s.last) 15
    && eqb (length s.allowance) 15

unfoldable pub record_keeps_at_once : (ℕ → ℕ) → Tree → State → ℕ → Bool
record_keeps_at_once φ t s a =
    pick (ltb a t.accs)
    (leb (waiting_of s a) (φ a) && leb (admitted_of s a) (budget_of t a))
    (eqb (waiting_of s a) 0 && eqb (admitted_of s a) 0)

unfoldable pub state_keeps_at_once : (ℕ → ℕ) → Tree → State → Bool
state_keeps_at_once φ t s = sized_at_once s && all 32 (record_keeps_at_once φ t s) && all 15 (turn_keeps t s)

abbrev pub keeps_at_once : (ℕ → ℕ) → Tree → State → Bool
keeps_at_once φ t s = tree_keeps t && state_keeps_at_once φ t s

abbrev pub verdict_at_once : (ℕ → ℕ) → Tree → State → ℕ → Answer
verdict_at_once φ t s a =
    pick (leb t.accs a) (refused 7)
    (pick (eqb (φ a) 0) (refused 14)
    (limits_answer (φ a) (waiting_of s a) (budget_of t a) (admitted_of s a)))

unfoldable pub offered_at_once : (ℕ → ℕ) → Tree → State → ℕ → Outcome
offered_at_once φ t s a =
    pick (not (keeps_at_once φ t s)) (outcome (refused 11) s)
    (outcome (verdict_at_once φ t s a) (on_admitted (verdict_at_once φ t s a) (admit s a) s))

abbrev pub tick_at_once : Tree → State → State
tick_at_once t s = at_slot s s.returning (pick (opens t s.slot) (replicate 32 0) s.admitted) (s.slot + 1)

abbrev pub take_one_at_once : State → ℕ → State
take_one_at_once s a = with_counts s (set s.waiting a (waiting_of s a - 1)) s.admitted

abbrev pub serve_at_once : Tree → State → State
serve_at_once t s = take_one_at_once (after 4 t s 0) (chosen t s)

unfoldable pub slotted_at_once : (ℕ → ℕ) → Tree → State → Outcome
slotted_at_once φ t s =
    pick (not (keeps_at_once φ t s)) (outcome (refused 11) s)
    (pick (eqb s.slot last_slot) (outcome (refused 10) s)
    (pick (none_waits s) (outcome idle (tick_at_once t s))
    (outcome (served (chosen t s)) (tick_at_once t (serve_at_once t s)))))

abbrev pub step_at_once : (ℕ → ℕ) → Tree → State → Call → Outcome
step_at_once φ t s (offer a) = offered_at_once φ t s a
step_at_once φ t s slot = slotted_at_once φ t s

unfoldable pub answers_at_once : (ℕ → ℕ) → Tree → State → List Call → List Answer
answers_at_once φ t s [] = []
answers_at_once φ t s (c ∷ cs) = (step_at_once φ t s c).answer ∷ answers_at_once φ t (step_at_once φ t s c).state cs

unfoldable pub events_at_once : (ℕ → ℕ) → Tree → State → List Call → List Event
events_at_once φ t s [] = []
events_at_once φ t s (c ∷ cs) = event c (step_at_once φ t s c).answer ∷ events_at_once φ t (step_at_once φ t s c).state cs

unfoldable pub state_at_once : (ℕ → ℕ) → Tree → State → List Call → State
state_at_once φ t s [] = s
state_at_once φ t s (c ∷ cs) = state_at_once φ t (step_at_once φ t s c).state cs

pub record AtOnce (φ : ℕ → ℕ) (t : Tree) (s : State) (cs : List Call) : Type 0 where
  -- the same answers, and the same state after them
  pub answers : answers_of t s cs ≡ answers_at_once φ t s cs
  pub state : state_after t s cs ≡ state_at_once φ t s cs
  -- which keeps its rules by the one exactly if by the other, and of which nothing returns
  pub rules : keeps t (state_after t s cs) ≡ keeps_at_once φ t (state_at_once φ t s cs)
  pub none_returning : (state_after t s cs).returning ≡ replicate 32 0

abbrev pub EachHasJob : Tree → Channel → Type 0
EachHasJob t c = (a : ℕ) → a < t.accs → 0 < job_of t c a

abbrev pub DocumentOne : Tree → State → List Call → Type 0
DocumentOne t s cs = EachHasJob t s.channel → AtOnce (phi_of t) t s cs

abbrev pub Never14 : Tree → Type 0
Never14 t = (s : State) (c : Call) → (step_at_once (phi_of t) t s c).answer ≡ refused 14 → ⊥
