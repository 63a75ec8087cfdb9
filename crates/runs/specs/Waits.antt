-- The list of item 1 is the true one: it is read off the run's calls, answers and tickets.
--
-- served_one a x, serves_one a x c   1 if the call c is a slot that answers accelerator a
-- services_of a es       the services of accelerator a among the events es
-- InTime t s a front mid   a transaction of accelerator a, admitted after the events front and served after the events mid that
--                       follow, keeps demand 3, with k the own ones before it: it waits fewer slots than (k + 1) times its share on
--                       the channel of the starting state s, and
--                       at most (k + 1) times (share less 1) of others are served meanwhile
-- Waited t s es a k n l the k-th service of accelerator a among the events es is that of a transaction admitted in slot n, and l is
--                       the list of the slots in which it waited
use Rattle.std.specs.Prelude.{ℕ, suc, ◌+◌, ◌-◌, ◌*◌, ◌≤◌, ◌<◌, List, [], ◌∷◌, ◌++◌, ◌≡◌, eqb, length}
use Rattle.model.specs.declared.Tree.{Tree}
use Rattle.model.specs.declared.State.{State}
use Rattle.model.specs.declared.Channel.{Channel}
use Rattle.folds.specs.Fold.{pick}
use Rattle.machine.specs.Machine.{Answer, admitted, served, idle, refused, fresh_state}
use Rattle.machine.specs.Calls.{Call, offer, slot}
use Rattle.guarantee.specs.Guarantee.{Event, event, Ticket, admitted_by, queue_after, slots_in, others_in, up_to}
use Rattle.shares.specs.Shares.{share_of}
use Rattle.runner.specs.Run.{ran_of}
use Rattle.meeting.specs.Meeting.{meet_of, Deepest}
use Rattle.waits.specs.Why.{entries, list_over, why_buffer}
use Rattle.runs.specs.Calls.{bytes_in, events_of_run, Reports}

abbrev pub served_one : ℕ → Answer → ℕ
served_one a admitted = 0
served_one a (served b) = pick (eqb a b) 1 0
served_one a idle = 0
served_one a (refused n) = 0

abbrev pub serves_one : ℕ → Answer → Call → ℕ
serves_one a x (offer b) = 0
serves_one a x slot = served_one a x

unfoldable pub services_of : ℕ → List Event → ℕ
services_of a [] = 0
services_of a (e ∷ es) = serves_one a e.answer e.call + services_of a es

pub record InTime (t : Tree) (s : State) (a : ℕ) (front mid : List Event) : Type 0 where
  -- the own ones before it are those that are served meanwhile
  pub own : length (queue_after s a front) ≡ services_of a mid
  pub slots : slots_in mid < suc (services_of a mid) * share_of t s.channel a
  pub others : others_in a mid ≤ suc (services_of a mid) * (share_of t s.channel a - 1)

pub record Waited (t : Tree) (s : State) (es : List Event) (a k n : ℕ) (l : List ℕ) : Type 0 where
  pub front : List Event
  pub mid : List Event
  pub rest : List Event
  -- an admission of accelerator a, and later a slot that serves a
  pub events : es ≡ up_to a front (mid ++ event slot (served a) ∷ rest)
  -- this very transaction is first in the queue when that slot comes
  pub others : List Ticket
  pub first : queue_after s a (up_to a front mid) ≡ admitted_by (length front) ∷ others
  -- that service is the k-th of accelerator a
  pub number : services_of a (up_to a front mid) + 1 ≡ k
  -- the admission is in slot n
  pub since : slots_in front ≡ n
  -- "every such slot, no other": one entry for each slot between the two, in order
  pub list : l ≡ entries t a (bytes_in mid)
  -- none of them is refused
  pub unrefused : slots_in mid ≡ length (bytes_in mid)
  -- it is in time
  pub in_time : InTime t s a front mid
  -- none of them is idle
  pub no_idle : (x y : List Event) → mid ≡ x ++ event slot idle ∷ y → ⊥
  -- "the right meeting point": that of a slot is the deepest interconnect that both paths cross
  pub meets : (x y : List Event) (b : ℕ) → mid ≡ x ++ event slot (served b) ∷ y → Deepest t a b (meet_of t a b).interconnect

-- what `why` answers is so: of the run on channel c over a buffer of 65,536 bytes, which uses `used` slots, the list in the buffer is
-- that of the transaction's wait, n slots long, from slot i on
pub record WhyIsTrue (t : Tree) (c : Channel) (s : List ℕ) (a k : ℕ) (d : List ℕ) (n i : ℕ) : Type 0 where
  pub used : ℕ
  pub ran : Reports (ran_of t c s 65536) used
  pub list : List ℕ
  pub waits : Waited t (fresh_state t c) (events_of_run t c s used) a k i list
  pub count : length list ≡ n * 2
  pub slots : slots_in waits.mid ≡ n
  pub buffer : why_buffer t c s a k d ≡ list_over list d
