-- Lists of calls that show that demand 3 is neither empty nor slack, and what a return delay and a job of 0 transactions change. Where no
-- channel is named it is the read channel.
--
-- MetExactly t s cs a k n   in the list cs from state s a transaction of accelerator a is admitted with k of its own
--                       waiting before it and served in the n-th slot from there, the very last that demand 3 grants it;
--                       up to then as many transactions of others are served as demand 3 allows
-- back_of m             what follows the admission in such an instance m
-- Tight m               of such an instance m demand 3 itself says what was computed, and no less: served within n slots,
--                       and not within n - 1; at most as many others served
-- SpentIn t s cs a w    in the list cs from state s accelerator a is admitted in window w exactly its budget, and the next
--                       offer is refused by 9
-- several n cs          the calls cs, n times
-- case_two              the calls of case 2: "4, 2, 1, 1 offered at slot 0", and eight slots
-- round                 eight slots, each but the last followed by an offer of the accelerator that it serves
-- kept_full             four offers of each accelerator, then four rounds: accelerators 0, 1 and 2 are full before each slot
-- wide_turn             on the tree `nested`: accelerator 0 is served; then two offers of accelerator 1, one of accelerator 0, and three slots
-- two_windows           two offers of accelerator 0 in each of two windows of four slots
-- unreached             a state of `chain`: accelerators 0, 1 and 2 full and one of 3 waiting, none of them admitted, no slot
--                       passed, and a turn of port 0 running at each interconnect
-- from_unreached        an offer of accelerator 3, then two rounds
-- late                  a state of `chain` nine slots before the last: of accelerator 0 three wait and its admitted count is
--                       one less than its budget
-- until_last            case 2's slots from there, with offers that are refused before and between them, up to the last
--                       slot and beyond it
-- while_returning       on `returning_pair 2 1 4`: accelerator 0 is served and offered again while its answer is on the way, then once more
--                       when it is home, and accelerator 1 has to wait for it
-- on_their_way          a state of `returning_pair 2 4 4`: one of accelerator 0 waits, and two were served one and two slots ago
-- slots_later n         how many of accelerator 0 are outstanding n slots after that state
-- delayed               a tree of return delay 1
-- BoundFails t s es a k n   of the events es from state s the waiting bound does not hold: a transaction of accelerator a is admitted with k
--                       of its own waiting before it, (k + 1) times its share are n slots, n slots follow, and it is not served within them
-- mapped                a tree of two accelerators, the second of which only writes: `map_tree 0 4 4`
-- map_calls             accelerator 0 is served; then an offer of accelerator 1, one of accelerator 0, and two slots
-- Sharp                 the instances
-- AllTight h            demand 3 is tight at each of them
use Rattle.std.specs.Prelude.{ℕ, zero, suc, ◌+◌, ◌-◌, ◌*◌, ◌≤◌, true, List, [], ◌∷◌, ◌++◌, map, ◌≡◌, length, replicate}
use Rattle.model.specs.declared.Tree.{Tree}
use Rattle.model.specs.declared.State.{State}
use Rattle.model.specs.declared.Channel.TheVariants.{Read, Write}
use Rattle.model.specs.Tree.{phi_of, budget_of}
use Rattle.rules.specs.Rules.{keeps}
use Rattle.machine.specs.Machine.{admitted, served, idle, refused, fresh_state, last_slot}
use Rattle.machine.specs.Calls.{Call, offer, slot, step, answers_of, state_after}
use Rattle.shares.specs.Shares.{share_of}
use Rattle.model.specs.Builders.{with_counts, with_service, with_turns, at_slot}
use Rattle.model.specs.Trees.{chain, chain_of, pair, returning_pair, nested, map_tree}
use Rattle.guarantee.specs.Guarantee.{Event, event, events_of, Ticket, admitted_by, queue_after, slots_in, others_in, admissions_in, up_to, ServedWithin}
use Rattle.guarantee.specs.Homecoming.{outstanding_after}
use Rattle.guarantee.specs.AtOnce.{answers_at_once, events_at_once}

pub record MetExactly (t : Tree) (s : State) (cs : List Call) (a k n : ℕ) : Type 0 where
  pub front : List Event
  pub mid : List Event
  pub rest : List Event
  pub others : List Ticket
  pub start : keeps t s ≡ true
  pub events : events_of t s cs ≡ up_to a front (mid ++ event slot (served a) ∷ rest)
  pub before : length (queue_after s a front) ≡ k
  pub first : queue_after s a (up_to a front mid) ≡ admitted_by (length front) ∷ others
  pub slots : slots_in mid + 1 ≡ n
  pub granted : n ≡ suc k * share_of t s.channel a
  pub others_served : others_in a mid ≡ suc k * (share_of t s.channel a - 1)

abbrev pub back_of : {t : Tree} {s : State} {cs : List Call} {a k n : ℕ} → MetExactly t s cs a k n → List Event
back_of {a = a} m = m.mid ++ event slot (served a) ∷ m.rest

pub record Tight {t : Tree} {s : State} {cs : List Call} {a k n : ℕ} (m : MetExactly t s cs a k n) : Type 0 where
  pub granted : ServedWithin s a m.front (back_of m) n
  pub no_sooner : ServedWithin s a m.front (back_of m) (n - 1) → ⊥
  pub few_others : others_in a m.mid ≤ suc k * (share_of t s.channel a - 1)

pub record SpentIn (t : Tree) (s : State) (cs : List Call) (a w : ℕ) : Type 0 where
  pub start : keeps t s ≡ true
  pub spent : admissions_in t s a w (events_of t s cs) ≡ budget_of t a
  pub refusal : (step t (state_after t s cs) (offer a)).answer ≡ refused 9

abbrev pub several : ℕ → List Call → List Call
several zero cs = []
several (suc n) cs = cs ++ several n cs

abbrev pub case_two : List Call
case_two =
    several 4 (offer 0 ∷ []) ++ several 2 (offer 1 ∷ []) ++ offer 2 ∷ offer 3 ∷ several 8 (slot ∷ [])

abbrev pub round : List Call
round =
    slot ∷ offer 0 ∷ slot ∷ offer 1 ∷ slot ∷ offer 0 ∷ slot ∷ offer 2
    ∷ slot ∷ offer 0 ∷ slot ∷ offer 1 ∷ slot ∷ offer 0 ∷ slot ∷ []

abbrev pub kept_full : List Call
kept_full =
    several 4 (offer 0 ∷ []) ++ several 4 (offer 1 ∷ []) ++ several 4 (offer 2 ∷ []) ++ several 4 (offer 3 ∷ [])
    ++ several 4 round

abbrev pub wide_turn : List Call
wide_turn = offer 0 ∷ slot ∷ several 2 (offer 1 ∷ []) ++ offer 0 ∷ several 3 (slot ∷ [])

abbrev pub two_windows : List Call
two_windows = several 2 (offer 0 ∷ []) ++ several 4 (slot ∷ []) ++ several 2 (offer 0 ∷ [])

abbrev pub unreached : State
unreached =
    with_turns (with_counts (fresh_state chain Read) (4 ∷ 4 ∷ 4 ∷ 1 ∷ replicate 28 0) (replicate 32 0))
    (replicate 15 0) (1 ∷ 1 ∷ 1 ∷ replicate 12 0)

abbrev pub from_unreached : List Call
from_unreached = offer 3 ∷ several 2 round

abbrev pub late : State
late =
    with_counts (at_slot (fresh_state chain Read) (replicate 32 0) (replicate 32 0) (last_slot - 9)) (3 ∷ replicate 31 0) (7 ∷ replicate 31 0)

abbrev pub until_last : List Call
until_last =
    offer 0 ∷ offer 0 ∷ several 2 (offer 1 ∷ []) ++ offer 2 ∷ offer 4 ∷ offer 3
    ∷ slot ∷ offer 0 ∷ several 3 (slot ∷ []) ++ offer 9 ∷ several 6 (slot ∷ []) ++ offer 3 ∷ []

abbrev pub while_returning : List Call
while_returning =
    offer 0 ∷ slot ∷ offer 0 ∷ offer 1 ∷ slot ∷ slot ∷ offer 1 ∷ offer 0 ∷ slot ∷ slot ∷ []

abbrev pub on_their_way : State
on_their_way = with_service (fresh_state (returning_pair 2 4 4) Read) (1 ∷ replicate 31 0) (6 ∷ replicate 31 0)

abbrev pub slots_later : ℕ → ℕ
slots_later n =
    outstanding_after (returning_pair 2 4 4) on_their_way 0 (events_of (returning_pair 2 4 4) on_their_way (several n (slot ∷ [])))

abbrev pub delayed : Tree
delayed = returning_pair 1 1 4

pub record BoundFails (t : Tree) (s : State) (es : List Event) (a k n : ℕ) : Type 0 where
  pub front : List Event
  pub back : List Event
  pub events : es ≡ up_to a front back
  pub before : length (queue_after s a front) ≡ k
  pub granted : n ≡ suc k * share_of t s.channel a
  pub slots : n ≤ slots_in back
  pub not_served : ServedWithin s a front back n → ⊥

abbrev pub mapped : Tree
mapped = map_tree 0 4 4

abbrev pub map_calls : List Call
map_calls = offer 0 ∷ slot ∷ offer 1 ∷ offer 0 ∷ slot ∷ slot ∷ []

pub record Sharp : Type 0 where
  -- case 2: accelerator 3, share 8, served in the eighth slot
  pub none_before : MetExactly chain (fresh_state chain Read) case_two 3 0 8
  -- case 1's tree with every budget 64: accelerator 3's fourth transaction is served in the 32nd slot
  pub three_before : MetExactly (chain_of 64) (fresh_state (chain_of 64) Read) kept_full 3 3 32
  -- a turn of two at the root goes to an interconnect that takes turns of one: the share is 3, and so is the wait
  pub wide_turn_lem : MetExactly nested (fresh_state nested Read) wide_turn 0 0 3
  -- one interconnect, P 4, budget 2: the budget is met exactly in the second window
  pub second_window : SpentIn (pair 1 4 4 4 2) (fresh_state (pair 1 4 4 4 2) Read) two_windows 0 1
  -- from a state to which no list of calls leads from the fresh one
  pub from_unreached_lem : MetExactly chain unreached from_unreached 3 1 16
  -- refused offers in the list, an idle slot and one refused by 10: accelerator 3's transaction is served in the eighth slot
  pub with_refusals : MetExactly chain late until_last 3 0 8
  pub every_answer : answers_of chain late until_last
      ≡ admitted ∷ refused 8 ∷ admitted ∷ admitted ∷ admitted ∷ refused 7 ∷ admitted
      ∷ served 0 ∷ refused 9 ∷ served 1 ∷ served 0 ∷ served 2 ∷ refused 7 ∷ served 0 ∷ served 1 ∷ served 0 ∷ served 3
      ∷ idle ∷ refused 10 ∷ admitted ∷ []
  -- there accelerator 0 is admitted once in the first window, and with its starting admitted count that is its budget
  pub first_window : SpentIn chain late until_last 0 268435455
  pub never_reached : (cs : List Call) → state_after chain (fresh_state chain Read) cs ≡ unreached → ⊥
  -- with return delay 2, where an offer is refused by 8 since the answer is on the way: accelerator 1, share 2, served in the second slot
  pub while_returning_lem : MetExactly (returning_pair 2 1 4) (fresh_state (returning_pair 2 1 4) Read) while_returning 1 0 2
  -- three are outstanding; one is served in the first slot, and in each slot one comes home
  pub one_by_one : map slots_later (0 ∷ 1 ∷ 2 ∷ 3 ∷ []) ≡ 3 ∷ 2 ∷ 1 ∷ 0 ∷ []
  -- with return delay 1 the machine is not document 01's
  pub delay_tells : (answers_of delayed (fresh_state delayed Read) (offer 0 ∷ slot ∷ offer 0 ∷ []) ≡ admitted ∷ served 0 ∷ refused 8 ∷ [])
      × (answers_at_once (phi_of delayed) delayed (fresh_state delayed Read) (offer 0 ∷ slot ∷ offer 0 ∷ []) ≡ admitted ∷ served 0 ∷ admitted ∷ [])
  -- "On a channel where a job has 0 transactions, the capacity of that accelerator now counts 0"
  pub two_shares : (share_of mapped Read 0 ≡ 1) × (share_of mapped Write 0 ≡ 2)
  -- "The machine for that channel must not admit from such a block, or the waiting bound would fail": it does not
  pub map_reads : answers_of mapped (fresh_state mapped Read) map_calls
      ≡ admitted ∷ served 0 ∷ refused 14 ∷ admitted ∷ served 0 ∷ idle ∷ []
  -- document 01's machine, which has no 14, admits from it
  pub map_reads_at_once : answers_at_once (phi_of mapped) mapped (fresh_state mapped Read) map_calls
      ≡ admitted ∷ served 0 ∷ admitted ∷ admitted ∷ served 1 ∷ served 0 ∷ []
  -- and then accelerator 0's second transaction, of share 1, is not served within one slot
  pub bound_fails : BoundFails mapped (fresh_state mapped Read)
      (events_at_once (phi_of mapped) mapped (fresh_state mapped Read) map_calls) 0 0 1
  -- on the write channel both have a job, its share is 2, and there it is served in the second slot
  pub map_writes : answers_of mapped (fresh_state mapped Write) map_calls
      ≡ admitted ∷ served 0 ∷ admitted ∷ admitted ∷ served 1 ∷ served 0 ∷ []
  pub by_write_share : MetExactly mapped (fresh_state mapped Write) map_calls 0 0 2

pub record AllTight (h : Sharp) : Type 0 where
  pub none_before : Tight h.none_before
  pub three_before : Tight h.three_before
  pub wide_turn_lem : Tight h.wide_turn_lem
  pub from_unreached_lem : Tight h.from_unreached_lem
  pub with_refusals : Tight h.with_refusals
  pub while_returning_lem : Tight h.while_returning_lem
  pub by_write_share : Tight h.by_write_share
