-- A job held by its budget, in a run (document 02, item 8: "Show also for a run: if N transactions of one job are held, with no other of
-- that accelerator held before or among them, then until the last is admitted refusal 9 meets them in at most ceil(N / b) windows").
--
-- When slot i of the run begins none of accelerator a is held: what falls due of it from then on is offered, and so admitted, in its order,
-- with no other before it or among it. The job is the next n of these; others may come after them. What a asked for before slot i is
-- admitted, so the last of the n is not admitted as long as fewer are admitted in all than a asked for before slot i and n more.
--
-- NoneHeld t c rs a i     none of accelerator a is held when slot i of the run of the lines rs begins
-- NoneWaits t c rs a i    none of it waits then
-- events_before t c rs n  the calls of the first n slots of that run, with their answers
-- last_of a i n rs        how many of accelerator a are admitted in all once the last of the job is: those asked for before slot i, and n
-- JobAsked t c rs a i n   none of accelerator a is held when slot i begins, and n or more fall due in it
-- OnlyBy9 t c rs a i j    whatever offer of accelerator a is refused in the slots i to j - 1 is refused by 9
-- HeldByBudget t c rs m   what is proved of the first m slots of the run of the lines rs on channel c
-- slot_time t c           the slot time of channel c
-- time_of t c a           what the transactions of a job on channel c add to the response of accelerator a; response_in t a: its response
-- job_slots t c a         the slots of `served_within` for a whole job of accelerator a on channel c
-- InResponse t a          these slots, in cycles, are within what the response counts for the channel
-- JobHeld t c rs a i n j mid   of the run of the lines rs: n of accelerator a fall due in slot i, and mid are the events of the slots i to
--                         j - 1, after which the last of the n is not admitted
-- MetExactly              none is held when slot i begins, and refusal 9 meets the job in exactly ceil(n / b) windows; its last is admitted in
--                         slot j, the first of the window so many after that of slot i
-- ClauseNeeded            some are held when slot i begins, and refusal 9 meets the job in more windows than that
-- tree, line n c          one interconnect, P 2 and budget 1; c transactions of accelerator 0 asked for in slot n
-- Instances               one of each, on the read channel
use Rattle.std.specs.Prelude.{ℕ, suc, ◌+◌, ◌*◌, ◌≤◌, ◌<◌, true, List, [], ◌∷◌, ◌++◌, ◌≡◌}
use Rattle.model.specs.declared.Tree.{Tree}
use Rattle.model.specs.declared.Channel.{Channel}
use Rattle.model.specs.declared.Channel.TheVariants.{Read, Write}
use Rattle.folds.specs.Fold.{ceiling}
use Rattle.model.specs.Tree.{accelerator_of, home_of, level_of, window_of, delay_of, budget_of, job_of, waiting_of}
use Rattle.model.specs.Trees.{pair}
use Rattle.trace.specs.declared.Request.{Request}
use Rattle.machine.specs.Machine.{refused, fresh_state}
use Rattle.machine.specs.Calls.{offer}
use Rattle.bounds.specs.Bounds.{held_slots, slot_read, slot_write, read_time, write_time, response_of, is_met}
use Rattle.shares.specs.Shares.{share_of}
use Rattle.guarantee.specs.Guarantee.{Event, event, events_of}
use Rattle.guarantee.specs.Windows.{refused_windows, admissions_by}
use Rattle.runner.specs.Offers.{held_of}
use Rattle.runner.specs.Run.{start}
use Rattle.runner.specs.Slots.{standing}
use Rattle.runs.specs.Calls.{calls_before, asked_before}
use Rattle.runs.specs.Waits.{services_of}

abbrev pub NoneHeld : Tree → Channel → List Request → ℕ → ℕ → Type 0
NoneHeld t c rs a i = held_of (standing i t (start t c rs)).held a ≡ 0

abbrev pub NoneWaits : Tree → Channel → List Request → ℕ → ℕ → Type 0
NoneWaits t c rs a i = waiting_of (standing i t (start t c rs)).state a ≡ 0

abbrev pub events_before : Tree → Channel → List Request → ℕ → List Event
events_before t c rs n = events_of t (fresh_state t c) (calls_before n t (start t c rs))

abbrev pub last_of : ℕ → ℕ → ℕ → List Request → ℕ
last_of a i n rs = asked_before a i rs + n

pub record JobAsked (t : Tree) (c : Channel) (rs : List Request) (a i n : ℕ) : Type 0 where
  pub none_held_lem : NoneHeld t c rs a i
  pub due : last_of a i n rs ≤ asked_before a (suc i) rs

abbrev pub OnlyBy9 : Tree → Channel → List Request → ℕ → ℕ → ℕ → Type 0
OnlyBy9 t c rs a i j = (front back : List Event) (x : ℕ)
    → events_before t c rs j ≡ (events_before t c rs i ++ front) ++ event (offer a) (refused x) ∷ back → x ≡ 9

pub record HeldByBudget (t : Tree) (c : Channel) (rs : List Request) (m : ℕ) : Type 0 where
  -- mid: any events from slot i on after which the last of the n is not admitted
  pub few_windows : (a i n : ℕ) → a < t.accs → i ≤ m → NoneHeld t c rs a i
      → (mid rest : List Event) → events_before t c rs m ≡ events_before t c rs i ++ (mid ++ rest)
      → admissions_by a (events_before t c rs i ++ mid) < last_of a i n rs
      → refused_windows t a i mid ≤ ceiling n (budget_of t a)
  -- where all n fall due in slot i and only refusal 9 holds them back, the last is admitted within ceil(n / b) windows: by the first slot of
  -- the window so many after that of slot i
  pub within_windows : (a i n j : ℕ) → a < t.accs → i < j → j ≤ m → JobAsked t c rs a i n → OnlyBy9 t c rs a i j
      → (window_of t i + ceiling n (budget_of t a)) * t.bus.window < j
      → last_of a i n rs ≤ admissions_by a (events_before t c rs j)
  -- so within as many slots from slot i on as the response counts for it
  pub within_response : (a i n j : ℕ) → a < t.accs → j ≤ m → JobAsked t c rs a i n → OnlyBy9 t c rs a i j
      → i + held_slots n (budget_of t a) t.bus.window < j
      → last_of a i n rs ≤ admissions_by a (events_before t c rs j)
  -- with return delay 0, and where none of accelerator a waits either when slot i begins: of a job on the channel all n are served within
  -- n × share + ceil(n / b) × P slots from slot i on, whatever the others ask for
  pub served_within : (a i n j : ℕ) → a < t.accs → 0 < job_of t c a → delay_of t ≡ 0 → j ≤ m → JobAsked t c rs a i n
      → NoneWaits t c rs a i → i + (n * share_of t c a + held_slots n (budget_of t a) t.bus.window) ≤ j
      → last_of a i n rs ≤ services_of a (events_before t c rs j)

abbrev pub slot_time : Tree → Channel → ℕ
slot_time t Read = slot_read t.bus
slot_time t Write = slot_write t.bus

abbrev pub time_of : Tree → Channel → ℕ → ℕ
time_of t Read a = read_time t.bus (accelerator_of t a) (level_of t (home_of t a)) (share_of t Read a)
time_of t Write a = write_time t.bus (accelerator_of t a) (level_of t (home_of t a)) (share_of t Write a)

abbrev pub response_in : Tree → ℕ → ℕ
response_in t a = response_of t.bus (accelerator_of t a) (level_of t (home_of t a)) (share_of t Read a) (share_of t Write a)

abbrev pub job_slots : Tree → Channel → ℕ → ℕ
job_slots t c a = job_of t c a * share_of t c a + held_slots (job_of t c a) (budget_of t a) t.bus.window

pub record InResponse (t : Tree) (a : ℕ) : Type 0 where
  pub counted : (c : Channel) → job_slots t c a * slot_time t c ≤ time_of t c a
  pub both : response_in t a ≡ (accelerator_of t a).computing + time_of t Read a + time_of t Write a
  -- so where the report says meets, the slots of either channel end within the period
  pub met : is_met (accelerator_of t a) (response_in t a) ≡ true → (c : Channel) → job_slots t c a * slot_time t c ≤ (accelerator_of t a).period

pub record JobHeld (t : Tree) (c : Channel) (rs : List Request) (a i n j : ℕ) (mid : List Event) : Type 0 where
  pub due : last_of a i n rs ≡ asked_before a (suc i) rs
  pub part : events_before t c rs j ≡ events_before t c rs i ++ mid
  pub not_admitted : admissions_by a (events_before t c rs j) < last_of a i n rs

pub record MetExactly (t : Tree) (c : Channel) (rs : List Request) (a i n j : ℕ) : Type 0 where
  pub mid : List Event
  pub job : JobHeld t c rs a i n j mid
  pub none_held_lem : NoneHeld t c rs a i
  pub windows : refused_windows t a i mid ≡ ceiling n (budget_of t a)
  pub first_slot : j ≡ (window_of t i + ceiling n (budget_of t a)) * t.bus.window
  pub admitted_there : admissions_by a (events_before t c rs (suc j)) ≡ last_of a i n rs

pub record ClauseNeeded (t : Tree) (c : Channel) (rs : List Request) (a i n j : ℕ) : Type 0 where
  pub mid : List Event
  pub job : JobHeld t c rs a i n j mid
  pub held_before : 0 < held_of (standing i t (start t c rs)).held a
  pub more_windows : ceiling n (budget_of t a) < refused_windows t a i mid

abbrev pub tree : Tree
tree = pair 1 2 4 4 1

abbrev pub line : ℕ → ℕ → Request
line n c = record { slot = n; accelerator = 0; count = c }

pub record Instances : Type 0 where
  -- the budget of window 0 is used in slot 0; two more of slot 1 are refused by 9 in windows 0 and 1, and the last is admitted in slot 4
  pub met_exactly : MetExactly tree Read (line 0 1 ∷ line 1 2 ∷ []) 0 1 2 4
  -- with one held before it, one of slot 1 is refused by 9 in windows 0 and 1, and ceil(1 / 1) is 1
  pub clause_needed : ClauseNeeded tree Read (line 0 2 ∷ line 1 1 ∷ []) 0 1 1 4
