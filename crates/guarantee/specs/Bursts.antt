-- Demand 3 about pieces (document 02, item 6: "Each piece is one transaction for phi and for the budget, and the waiting bound is about
-- pieces"): lists of calls in which whole bursts are offered. What a burst does to the state is `burst_offer`, which `offer_burst` answers;
-- which plain calls that is, is said here without it.
--
-- BoardCall             a call of a board: a plain call, or a burst of an accelerator offered from one of its pieces on, counted from 0
-- board_state t s c     the state that the board call c returns from state s
-- board_after t s bs    the state that the last of the board calls bs returns, the first handed s, each later one the state that the one
--                       before it returned
-- split_for t s b       what the splitter answers for the burst b, 11 where configuration or state break their rules
-- pieces_left t s b from   its pieces from piece `from` on; none where the splitter refuses it
-- room_of t s a         how many transactions of accelerator a there is room for in state s: the lesser of what its outstanding limit on
--                       the channel and what its budget leave, none of an accelerator that the tree has not
-- admissible t s a b from   how many of the pieces left are admitted: as many as there is room for
-- refusal_of t s a      what refuses the next one where there is no room: 7, 14, 8, 9 in this order
-- offers_of a n m       the offers of m pieces of accelerator a of which the first n are admitted: one each for these, and one more where a
--                       piece is left
-- calls_of t s c        the plain calls of the board call c on state s
-- calls_in t s bs       those of the board calls bs, each on the state that the one before it returned
-- admissions_of a n     n offers of accelerator a that are admitted
-- BurstIn bs            a burst offered among the board calls bs: what comes before and after, accelerator, burst, first piece
-- state_before t s p    the state on which it is offered
-- reply t s p           what comes of it: answer, count of the pieces admitted, state
-- left t s p            its pieces left, admitted or not
-- events_before t s p   the events of the plain calls before it; events_after t s p: of those after it
-- last_event t s p      where a piece is left that was not admitted: its offer, with the answer of the burst
-- before_piece t s p i  the events before the admission of piece i of those admitted, counted from 0
-- after_piece t s p i   the events after that
-- in_queue t s p i      how many of its own accelerator's wait before piece i: those before the burst, and i pieces
-- PieceGuarantee t s bs demand 3 for the pieces of the bursts in the list bs from state s
-- words x n             a burst of n beats of 4 bytes from address x on
-- board_full            four bursts of four pieces, and four rounds: the list `kept_full` of Instances.antt
-- goes_on               a burst of six pieces, and after each of two slots what is left of it
-- PieceInstances        lists that show that this is neither empty nor slack
use Rattle.std.specs.Prelude.{ℕ, suc, ◌+◌, ◌-◌, ◌*◌, ◌≤◌, ◌<◌, min, List, [], ◌∷◌, ◌++◌, map, ◌≡◌, replicate, leb, ltb, eqb}
use Rattle.model.specs.declared.Tree.{Tree}
use Rattle.model.specs.declared.State.{State}
use Rattle.model.specs.declared.Channel.TheVariants.{Read}
use Rattle.folds.specs.Fold.{pick}
use Rattle.model.specs.Tree.{beat_limit, job_of, limit_of, budget_of, waiting_of, outstanding_of, admitted_of}
use Rattle.rules.specs.Rules.{keeps}
use Rattle.model.specs.Trees.{chain, chain_of}
use Rattle.machine.specs.Machine.{admitted, served, refused, fresh_state}
use Rattle.machine.specs.Calls.{Call, offer, slot, step, answers_of, state_after}
use Rattle.shares.specs.Shares.{share_of}
use Rattle.burst.specs.declared.Burst.{Burst}
use Rattle.burst.specs.Burst.{Split, pieces, not_split, split_of, on_pieces}
use Rattle.burst.specs.Offers.{Offering, burst_offer}
use Rattle.guarantee.specs.Guarantee.{Event, event, events_of, slots_in, others_in, up_to, ServedWithin, StillWaits, Guarantee}
use Rattle.guarantee.specs.Instances.{several, round, kept_full}

pub data BoardCall : Type 0 where
  plain : Call → BoardCall
  burst : ℕ → Burst → ℕ → BoardCall

abbrev pub board_state : Tree → State → BoardCall → State
board_state t s (plain c) = (step t s c).state
board_state t s (burst a b from) = (burst_offer t s a b from).state

unfoldable pub board_after : Tree → State → List BoardCall → State
board_after t s [] = s
board_after t s (c ∷ bs) = board_after t (board_state t s c) bs

abbrev pub split_for : Tree → State → Burst → Split
split_for t s b = split_of (beat_limit t.bus) (keeps t s) t.bus.burst b

abbrev pub pieces_left : Tree → State → Burst → ℕ → ℕ
pieces_left t s b from = on_pieces (split_for t s b) (λ k. k - from) 0

abbrev pub room_of : Tree → State → ℕ → ℕ
room_of t s a =
    pick (ltb a t.accs) (min (limit_of t s.channel a - outstanding_of s a) (budget_of t a - admitted_of s a)) 0

abbrev pub admissible : Tree → State → ℕ → Burst → ℕ → ℕ
admissible t s a b from = min (pieces_left t s b from) (room_of t s a)

abbrev pub refusal_of : Tree → State → ℕ → ℕ
refusal_of t s a =
    pick (leb t.accs a) 7
    (pick (eqb (job_of t s.channel a) 0) 14
    (pick (leb (limit_of t s.channel a) (outstanding_of s a)) 8 9))

abbrev pub offers_of : ℕ → ℕ → ℕ → List Call
offers_of a n m = replicate n (offer a) ++ pick (ltb n m) (offer a ∷ []) []

abbrev pub calls_of : Tree → State → BoardCall → List Call
calls_of t s (plain c) = c ∷ []
calls_of t s (burst a b from) = offers_of a (admissible t s a b from) (pieces_left t s b from)

unfoldable pub calls_in : Tree → State → List BoardCall → List Call
calls_in t s [] = []
calls_in t s (c ∷ bs) = calls_of t s c ++ calls_in t (board_state t s c) bs

abbrev pub admissions_of : ℕ → ℕ → List Event
admissions_of a n = replicate n (event (offer a) admitted)

pub record BurstIn (bs : List BoardCall) : Type 0 where
  pub front : List BoardCall
  pub back : List BoardCall
  pub acc : ℕ
  pub asked : Burst
  pub from : ℕ
  pub place : bs ≡ front ++ burst acc asked from ∷ back

module _ (t : Tree) (s : State) {bs : List BoardCall} (p : BurstIn bs) where
  abbrev pub state_before : State
  state_before = board_after t s p.front

  abbrev pub reply : Offering
  reply = burst_offer t state_before p.acc p.asked p.from

  abbrev pub left : ℕ
  left = pieces_left t state_before p.asked p.from

  abbrev pub events_before : List Event
  events_before = events_of t s (calls_in t s p.front)

  abbrev pub events_after : List Event
  events_after = events_of t reply.state (calls_in t reply.state p.back)

  abbrev pub last_event : List Event
  last_event = pick (ltb reply.admissions left) (event (offer p.acc) reply.answer ∷ []) []

  abbrev pub before_piece : ℕ → List Event
  before_piece i = events_before ++ admissions_of p.acc i

  abbrev pub after_piece : ℕ → List Event
  after_piece i = admissions_of p.acc (reply.admissions - suc i) ++ (last_event ++ events_after)

  abbrev pub in_queue : ℕ → ℕ
  in_queue i = waiting_of state_before p.acc + i

pub record PieceGuarantee (t : Tree) (s : State) (bs : List BoardCall) : Type 0 where
  -- the board's list is a list of plain calls, in which each piece is one offer: it returns the same state, and demand 3 holds of it
  pub same_state_lem : board_after t s bs ≡ state_after t s (calls_in t s bs)
  pub demand_3 : Guarantee t s (calls_in t s bs)
  -- a burst in it is so many admitted offers, and at most one more, which is refused
  pub events : (p : BurstIn bs) → events_of t s (calls_in t s bs)
      ≡ events_before t s p ++ (admissions_of p.acc (reply t s p).admissions ++ (last_event t s p ++ events_after t s p))
  -- as many pieces are admitted as there is room for
  pub count : (p : BurstIn bs) → (reply t s p).admissions ≡ min (left t s p) (room_of t (state_before t s p) p.acc)
  -- the answer is the refusal of a piece, if there is one, or admitted; or that of the splitter, and then nothing has changed
  pub refused_piece : (p : BurstIn bs) → (reply t s p).admissions < left t s p
      → (reply t s p).answer ≡ refused (refusal_of t (reply t s p).state p.acc)
  pub all_admitted : (p : BurstIn bs) (k : ℕ) → split_for t (state_before t s p) p.asked ≡ pieces k
      → (reply t s p).admissions ≡ left t s p → (reply t s p).answer ≡ admitted
  pub not_split_lem : (p : BurstIn bs) (n : ℕ) → split_for t (state_before t s p) p.asked ≡ not_split n
      → ((reply t s p).answer ≡ refused n) × ((reply t s p).state ≡ state_before t s p)
  -- "Each piece is one transaction for phi and for the budget"
  pub for_phi : (p : BurstIn bs)
      → outstanding_of (reply t s p).state p.acc ≡ outstanding_of (state_before t s p) p.acc + (reply t s p).admissions
  pub for_budget : (p : BurstIn bs)
      → admitted_of (reply t s p).state p.acc ≡ admitted_of (state_before t s p) p.acc + (reply t s p).admissions
  -- and none of another accelerator
  pub for_others : (p : BurstIn bs) (a : ℕ) → (a ≡ p.acc → ⊥)
      → (outstanding_of (reply t s p).state a ≡ outstanding_of (state_before t s p) a)
      × (admitted_of (reply t s p).state a ≡ admitted_of (state_before t s p) a)
  -- "and the waiting bound is about pieces": an admitted piece stands in the list
  pub piece : (p : BurstIn bs) (i : ℕ) → i < (reply t s p).admissions
      → events_of t s (calls_in t s bs) ≡ up_to p.acc (before_piece t s p i) (after_piece t s p i)
  -- and is served within (k + 1) times the share slots, k counting the pieces before it, if that many follow that are not refused
  pub in_time : (p : BurstIn bs) (i : ℕ) → i < (reply t s p).admissions
      → suc (in_queue t s p i) * share_of t s.channel p.acc ≤ slots_in (events_after t s p)
      → ServedWithin s p.acc (before_piece t s p i) (after_piece t s p i) (suc (in_queue t s p i) * share_of t s.channel p.acc)
  -- up to then at most (k + 1) times (share less 1) of others are served
  pub few_others : (p : BurstIn bs) (i : ℕ) → i < (reply t s p).admissions
      → (mid rest : List Event) → after_piece t s p i ≡ mid ++ rest → StillWaits s p.acc (before_piece t s p i) mid
      → others_in p.acc mid ≤ suc (in_queue t s p i) * (share_of t s.channel p.acc - 1)

abbrev pub words : ℕ → ℕ → Burst
words x n = record { start = x; beats = n; size = 4 }

abbrev pub board_full : List BoardCall
board_full = burst 0 (words 0 64) 0 ∷ burst 1 (words 0 64) 0 ∷ burst 2 (words 0 64) 0 ∷ burst 3 (words 0 64) 0 ∷ map plain (several 4 round)

abbrev pub goes_on : List BoardCall
goes_on = burst 0 (words 0 90) 0 ∷ plain slot ∷ burst 0 (words 0 90) 4 ∷ plain slot ∷ burst 0 (words 0 90) 5 ∷ []

pub record PieceInstances : Type 0 where
  -- there the fourth piece of accelerator 3 is served in the 32nd slot, the last that is granted it (`three_before` of `Sharp`)
  pub met_exactly : calls_in (chain_of 64) (fresh_state (chain_of 64) Read) board_full ≡ kept_full
  -- phi is 4: the burst is stopped by 8, and gone on with where a place is free
  pub stopped : answers_of chain (fresh_state chain Read) (calls_in chain (fresh_state chain Read) goes_on)
      ≡ admitted ∷ admitted ∷ admitted ∷ admitted ∷ refused 8 ∷ served 0 ∷ admitted ∷ refused 8 ∷ served 0 ∷ admitted ∷ []
  -- a burst that the splitter refuses, of no beats or over the end of a page, makes no offer
  pub none_offered : calls_in chain (fresh_state chain Read) (burst 0 (words 0 0) 0 ∷ burst 0 (words 4092 2) 0 ∷ []) ≡ []
