-- Demand 3: one statement about a whole list of calls on one channel's state (document 01, "What contracts have to carry",
-- e). "Besides the starting state only calls and answers are read." The share is that on the state's channel (document 02, item 5:
-- "Capacity, D and share are thus given for each channel").
--
-- Event                 a call and its answer
-- events_of t s cs      the calls cs with their answers, "The first gets any state that keeps its rules .., each later one
--                       what the call before it returned"
-- Ticket                one transaction: the i-th that waited at the start, or the one that the call at place n admitted,
--                       places counted from 0
-- without_first q       the queue q without its first transaction
-- offer_moves, slot_moves, call_moves   what an offer, a slot, a call does to accelerator a's queue, by its answer
-- moved a n q e         accelerator a's queue q after the event e at place n: "an admitting offer puts its transaction last
--                       there, a slot that answers the accelerator serves the first .., and an idle slot or a refused call
--                       moves none"
-- queue_from a n q es   accelerator a's queue after the events es, the first of them at place n
-- starting_queue n      the n transactions that wait at the start, in order
-- queue_after s a es    accelerator a's queue after the events es from the start: "each accelerator has a queue, at first as
--                       long as its waiting count in the starting state"
-- unrefused x           1 unless the answer x is a refusal; slot_counts x c: 1 if the call c is a slot that is not refused
-- slots_in es           the slots among the events es that are not refused
-- serves_other a x      1 if the answer x is the service of another accelerator than a
-- others_in a es        the slots among the events es that serve another accelerator than a
-- admits_one a x c      1 if the call c is an offer of accelerator a and the answer x an admission
-- admissions_from t a w n es   the admissions of accelerator a in window w among the events es, the first of them in slot n:
--                       "An offer's slot is the starting slot count plus the unrefused slots before it, and its window that
--                       slot's"
-- admissions_in t s a w es  the same from the start: "in the first window the starting admitted count is added"
-- up_to a front mid     the events front, an admission of accelerator a, and the events mid
-- ServedWithin s a front back n   after the events front comes an admission of accelerator a and then the events back; its
--                       very transaction is served within the first n slots of back that are not refused
-- Holds x q             the transaction x is in the queue q
-- StillWaits s a front mid   after the events front comes an admission of accelerator a; after the events mid that follow
--                       its transaction is still in the queue
-- Guarantee t s cs      the demand
use Rattle.std.specs.Prelude.{ℕ, zero, suc, ◌+◌, ◌-◌, ◌*◌, ◌≤◌, ◌<◌, true, List, [], ◌∷◌, ◌++◌, ◌≡◌, length, eqb}
use Rattle.model.specs.declared.Tree.{Tree}
use Rattle.model.specs.declared.State.{State}
use Rattle.folds.specs.Fold.{pick}
use Rattle.model.specs.Tree.{window_of, budget_of, waiting_of, admitted_of}
use Rattle.rules.specs.Rules.{keeps}
use Rattle.machine.specs.Machine.{Answer, admitted, served, idle, refused}
use Rattle.machine.specs.Calls.{Call, offer, slot, step, state_after}
use Rattle.shares.specs.Shares.{share_of}

pub record Event : Type 0 where
  pub call : Call
  pub answer : Answer

abbrev pub event : Call → Answer → Event
event c x = record { call = c; answer = x }

unfoldable pub events_of : Tree → State → List Call → List Event
events_of t s [] = []
events_of t s (c ∷ cs) = event c (step t s c).answer ∷ events_of t (step t s c).state cs

pub data Ticket : Type 0 where
  waited_at_start : ℕ → Ticket
  admitted_by : ℕ → Ticket

abbrev pub without_first : List Ticket → List Ticket
without_first [] = []
without_first (x ∷ q) = q

abbrev pub offer_moves : ℕ → ℕ → ℕ → List Ticket → Answer → List Ticket
offer_moves a n b q admitted = pick (eqb a b) (q ++ admitted_by n ∷ []) q
offer_moves a n b q (served c) = q
offer_moves a n b q idle = q
offer_moves a n b q (refused k) = q

abbrev pub slot_moves : ℕ → List Ticket → Answer → List Ticket
slot_moves a q admitted = q
slot_moves a q (served b) = pick (eqb a b) (without_first q) q
slot_moves a q idle = q
slot_moves a q (refused k) = q

abbrev pub call_moves : ℕ → ℕ → List Ticket → Answer → Call → List Ticket
call_moves a n q x (offer b) = offer_moves a n b q x
call_moves a n q x slot = slot_moves a q x

abbrev pub moved : ℕ → ℕ → List Ticket → Event → List Ticket
moved a n q e = call_moves a n q e.answer e.call

unfoldable pub queue_from : ℕ → ℕ → List Ticket → List Event → List Ticket
queue_from a n q [] = q
queue_from a n q (e ∷ es) = queue_from a (suc n) (moved a n q e) es

unfoldable pub starting_queue : ℕ → List Ticket
starting_queue zero = []
starting_queue (suc n) = starting_queue n ++ waited_at_start n ∷ []

abbrev pub queue_after : State → ℕ → List Event → List Ticket
queue_after s a es = queue_from a 0 (starting_queue (waiting_of s a)) es

abbrev pub unrefused : Answer → ℕ
unrefused admitted = 1
unrefused (served a) = 1
unrefused idle = 1
unrefused (refused n) = 0

abbrev pub slot_counts : Answer → Call → ℕ
slot_counts x (offer a) = 0
slot_counts x slot = unrefused x

unfoldable pub slots_in : List Event → ℕ
slots_in [] = 0
slots_in (e ∷ es) = slot_counts e.answer e.call + slots_in es

abbrev pub serves_other : ℕ → Answer → ℕ
serves_other a admitted = 0
serves_other a (served b) = pick (eqb a b) 0 1
serves_other a idle = 0
serves_other a (refused n) = 0

unfoldable pub others_in : ℕ → List Event → ℕ
others_in a [] = 0
others_in a (e ∷ es) = serves_other a e.answer + others_in a es

abbrev pub admits_one : ℕ → Answer → Call → ℕ
admits_one a admitted (offer b) = pick (eqb a b) 1 0
admits_one a admitted slot = 0
admits_one a (served b) c = 0
admits_one a idle c = 0
admits_one a (refused n) c = 0

unfoldable pub admissions_from : Tree → ℕ → ℕ → ℕ → List Event → ℕ
admissions_from t a w n [] = 0
admissions_from t a w n (e ∷ es) =
    pick (eqb (window_of t n) w) (admits_one a e.answer e.call) 0
    + admissions_from t a w (n + slot_counts e.answer e.call) es

abbrev pub admissions_in : Tree → State → ℕ → ℕ → List Event → ℕ
admissions_in t s a w es =
    pick (eqb (window_of t s.slot) w) (admitted_of s a) 0 + admissions_from t a w s.slot es

-- the events up to the admission of accelerator a that follows front, and then mid
abbrev pub up_to : ℕ → List Event → List Event → List Event
up_to a front mid = front ++ event (offer a) admitted ∷ mid

pub record ServedWithin (s : State) (a : ℕ) (front back : List Event) (n : ℕ) : Type 0 where
  pub mid : List Event
  pub rest : List Event
  pub ending : back ≡ mid ++ event slot (served a) ∷ rest
  pub others : List Ticket
  pub first : queue_after s a (up_to a front mid) ≡ admitted_by (length front) ∷ others
  pub within : slots_in mid + 1 ≤ n

pub data Holds (x : Ticket) : List Ticket → Type 0 where
  here : {q : List Ticket} → Holds x (x ∷ q)
  there : {y : Ticket} {q : List Ticket} → Holds x q → Holds x (y ∷ q)

abbrev pub StillWaits : State → ℕ → List Event → List Event → Type 0
StillWaits s a front mid = Holds (admitted_by (length front)) (queue_after s a (up_to a front mid))

pub record Guarantee (t : Tree) (s : State) (cs : List Call) : Type 0 where
  -- "Each returned state keeps its rules too"
  pub every_state_keeps : (front back : List Call) → cs ≡ front ++ back → keeps t (state_after t s front) ≡ true
  -- the list is "on one channel's state": no call changes the channel
  pub same_channel_lem : (front back : List Call) → cs ≡ front ++ back → (state_after t s front).channel ≡ s.channel
  -- "in the list a slot is refused only by 10"
  pub slot_refused_by_10 : (front back : List Event) (n : ℕ) → events_of t s cs ≡ front ++ event slot (refused n) ∷ back → n ≡ 10
  -- "a slot that answers the accelerator serves the first, which is always there"
  pub first_is_there : (front back : List Event) (a : ℕ) → events_of t s cs ≡ front ++ event slot (served a) ∷ back → 0 < length (queue_after s a front)
  -- "is idle exactly if none" waits
  pub idle_finds_none : (front back : List Event) → events_of t s cs ≡ front ++ event slot idle ∷ back → (a : ℕ) → a < t.accs → queue_after s a front ≡ []
  -- "every transaction admitted in the list with k of its own accelerator's waiting before it .. is served within (k + 1)
  -- times its share slots, counted from the slot of its admission, if from there the list has that many slots that are not
  -- refused"
  pub in_time : (front back : List Event) (a : ℕ) → events_of t s cs ≡ up_to a front back
      → suc (length (queue_after s a front)) * share_of t s.channel a ≤ slots_in back
      → ServedWithin s a front back (suc (length (queue_after s a front)) * share_of t s.channel a)
  -- "from its admission up to its service, or to the list's end where that comes first, at most (k + 1) times (share less 1)
  -- transactions of others are served"
  pub few_others : (front back : List Event) (a : ℕ) → events_of t s cs ≡ up_to a front back
      → (mid rest : List Event) → back ≡ mid ++ rest → StillWaits s a front mid
      → others_in a mid ≤ suc (length (queue_after s a front)) * (share_of t s.channel a - 1)
  -- "in no window of the list is any accelerator admitted beyond its budget"
  pub within_budget : (a w : ℕ) → a < t.accs → admissions_in t s a w (events_of t s cs) ≤ budget_of t a
