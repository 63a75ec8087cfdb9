-- How many of each accelerator are outstanding after any part of a list of calls: from calls, answers and the starting state
-- alone (document 02, item 2); and by which number an offer is refused for that (item 5).
--
-- serves_own a x        1 if the answer x is the service of accelerator a, which only a slot answers
-- recent_in r a es      the services of accelerator a among the events es whose answer is not home at their end: fewer than r
--                       slots that are not refused follow them. "A transaction served in slot s stops being outstanding at the
--                       start of slot s + 1 + r, before that slot's offers"
-- not_home r n x        how many of the returns x at the start are not home n unrefused slots later: those served d slots before the
--                       start, with d + n at most r. The same sentence, of a service before the list
-- outstanding_after t s a es   how many of accelerator a are outstanding after the events es: its queue, and its "returning
--                       transactions beside the waiting ones"
-- Homecoming t s cs     what holds of the list of calls cs from state s
use Rattle.std.specs.Prelude.{ℕ, ◌+◌, ◌-◌, ◌≤◌, ◌<◌, List, [], ◌∷◌, ◌++◌, ◌↔◌, ◌≡◌, length, eqb, ltb}
use Rattle.model.specs.declared.Tree.{Tree}
use Rattle.model.specs.declared.State.{State}
use Rattle.folds.specs.Fold.{pick, sum}
use Rattle.model.specs.Tree.{phi_of, job_of, limit_of, delay_of, bit, returns_of, outstanding_of}
use Rattle.machine.specs.Machine.{Answer, admitted, served, idle, refused}
use Rattle.machine.specs.Calls.{Call, offer, step, state_after}
use Rattle.guarantee.specs.Guarantee.{Event, events_of, queue_after, slots_in}

abbrev pub serves_own : ℕ → Answer → ℕ
serves_own a admitted = 0
serves_own a (served b) = pick (eqb a b) 1 0
serves_own a idle = 0
serves_own a (refused n) = 0

unfoldable pub recent_in : ℕ → ℕ → List Event → ℕ
recent_in r a [] = 0
recent_in r a (e ∷ es) = pick (ltb (slots_in es) r) (serves_own a e.answer) 0 + recent_in r a es

abbrev pub not_home : ℕ → ℕ → ℕ → ℕ
not_home r n x = sum (r + 1 - n) (λ d. bit d x)

abbrev pub outstanding_after : Tree → State → ℕ → List Event → ℕ
outstanding_after t s a es =
    length (queue_after s a es) + recent_in (delay_of t) a es + not_home (delay_of t) (slots_in es) (returns_of s a)

pub record Homecoming (t : Tree) (s : State) (cs : List Call) : Type 0 where
  -- "each accelerator's record must keep its returning transactions beside the waiting ones": the record counts those, after
  -- each part of the list
  pub outstanding : (front back : List Call) → cs ≡ front ++ back → (a : ℕ) → a < t.accs
      → outstanding_of (state_after t s front) a ≡ outstanding_after t s a (events_of t s front)
  -- "and their sum is at most phi"; on a channel where a job has 0 transactions it is 0
  pub within_limit : (front back : List Call) → cs ≡ front ++ back → (a : ℕ) → a < t.accs
      → outstanding_after t s a (events_of t s front) ≤ limit_of t s.channel a
  -- 8 tests that sum: there an offer is refused by 8 exactly if the accelerator has a job on the channel and phi are outstanding
  pub refused_8 : (front back : List Call) → cs ≡ front ++ back → (a : ℕ) → a < t.accs
      → ((step t (state_after t s front) (offer a)).answer ≡ refused 8)
      ↔ ((0 < job_of t s.channel a) × (phi_of t a ≤ outstanding_after t s a (events_of t s front)))
  -- "14 for an offer on a channel where the accelerator has 0 transactions", and on no other
  pub refused_14 : (front back : List Call) → cs ≡ front ++ back → (a : ℕ) → a < t.accs
      → ((step t (state_after t s front) (offer a)).answer ≡ refused 14) ↔ (job_of t s.channel a ≡ 0)
