-- Demand 3 about pieces. Where there is room an offer is admitted and takes one of it, else it is refused: so a burst is as many admitted
-- offers as there is room for, by induction on its pieces, and its list is one of plain calls, to which demand 3 applies.
use Prim.Native.Nat.{ℕ, zero, suc, ◌+◌, ◌-◌, ◌*◌, ◌<◌, min}
use mathlib.Core.Bool.{Bool, true, false}
use mathlib.Core.List.{List, [], ◌∷◌, ◌++◌, append_assoc}
use mathlib.Core.Path.{◌≡◌, refl, sym, ◌∙◌, ap, ap₂, subst}
use native.Mathlib.Decide.{dec_lt, ℕ_discrete}
use native.Mathlib.Omega.{arith}
use lib.Count.{ones}
use lib.ListN.{get_or, length, length-append, replicate}
use lib.Dec.{eqb, leb, ltb}
use borrow.Author.Tests.{lt-ltb, le-ltb, eq-eqb, ne_eqb}
use Rattle.model.specs.declared.Tree.{Tree}
use Rattle.model.specs.declared.State.{State}
use Rattle.folds.specs.Fold.{pick, sum, all}
use Rattle.folds.proofs.Folds.{picked, passed, clash}
use Rattle.model.specs.Tree.{above, job_of, limit_of, budget_of, waiting_of, outstanding_of, admitted_of}
use Rattle.model.specs.Beneath.{inside}
use Rattle.rules.specs.Rules.{tree_keeps, state_keeps, sized, record_keeps, turn_keeps, bus_keeps, carries, root_placed, child_placed, used_interconnect, unused_interconnect, used_accelerator, unused_accelerator, keeps}
use Rattle.turns.specs.Turns.{who, after, turn_port, turn_allowance, seek, bits_below}
use Rattle.rules.proofs.Sound.{limit_none}
use Rattle.rules.proofs.Beneath.{only, only_same, only_other}
use Rattle.machine.specs.Machine.{Answer, admitted, served, idle, refused, Outcome, outcome, on_admitted, offered, slotted, tick}
use Rattle.machine.specs.Calls.{Call, offer, answers_of, state_after}
use Rattle.machine.proofs.Cases.{Refuses, broken, unknown, no_job, outstanding, spent, Offered, refuses, admits, offer_cases}
use Rattle.machine.proofs.Laws.{offer_keeps, offer_admits, offer_others, offer_verdict}
use Rattle.shares.specs.Shares.{share_of}
use Rattle.burst.specs.declared.Burst.{Burst}
use Rattle.burst.specs.Burst.{Split, pieces, not_split, split_of, on_pieces}
use Rattle.burst.specs.Offers.{Offering, offering, one_more, offer_pieces, by_split, burst_offer}
use Rattle.guarantee.specs.Guarantee.{Event, event, events_of, Ticket, admitted_by, queue_from, starting_queue, queue_after, slots_in, up_to, ServedWithin}
use Rattle.guarantee.specs.Bursts.{BoardCall, plain, burst, board_state, board_after, split_for, pieces_left, room_of, admissible, refusal_of, offers_of, calls_of, calls_in, admissions_of, BurstIn, state_before, reply, left, events_before, events_after, last_event, before_piece, after_piece, in_queue, PieceGuarantee, PieceInstances}
use Rattle.guarantee.proofs.Events.{state_append, events_append}
use Rattle.guarantee.proofs.Leads.{calls_lead}
use Rattle.guarantee.proofs.Queue.{start_length, queue_append, queue_length}
use Rattle.guarantee.proofs.Theorem.{guarantee}

-- an answer that is no admission is the refusal that its tests name
named : (c d e f : Bool) (x : Answer) → pick c (refused 7) (pick d (refused 14) (pick e (refused 8) (pick f (refused 9) admitted))) ≡ x
    → (x ≡ admitted → ⊥) → x ≡ refused (pick c 7 (pick d 14 (pick e 8 9)))
named true d e f x h z = sym h
named false true e f x h z = sym h
named false false true f x h z = sym h
named false false false true x h z = sym h
named false false false false x h z = absurd (z (sym h))

-- what an offer does, by the room for it
data Room (t : Tree) (s : State) (a : ℕ) : Outcome → Type 0 where
  none : room_of t s a ≡ 0 → Room t s a (outcome (refused (refusal_of t s a)) s)
  some : {r : State} → keeps t r ≡ true → room_of t s a ≡ suc (room_of t r a)
      → ((b : ℕ) → outstanding_of r b ≡ outstanding_of s b + only b a)
      → ((b : ℕ) → admitted_of r b ≡ admitted_of s b + only b a) → Room t s a (outcome admitted r)

module _ (t : Tree) (s : State) (a : ℕ) (k : keeps t s ≡ true) where
  -- what limit and budget leave: the room of an accelerator of the tree
  abbrev free : State → ℕ
  free r = min (limit_of t r.channel a - outstanding_of r a) (budget_of t a - admitted_of r a)

  room_in : (r : State) → a < t.accs → room_of t r a ≡ free r
  room_in r l = picked _ _ _ (lt-ltb a t.accs l)

  no_room : {n : ℕ} → Refuses t s a n → room_of t s a ≡ 0
  no_room (broken f) = clash cc
  no_room (unknown l) = passed _ _ _ (le-ltb a t.accs l)
  no_room (no_job l z) = room_in s l ∙ omega (arith, limit_none t s.channel a z)
  no_room (outstanding l h) = room_in s l ∙ omega arith
  no_room (spent l h) = room_in s l ∙ omega arith

  refusal : {n : ℕ} → (offered t s a).answer ≡ refused n → n ≡ refusal_of t s a
  refusal e =
      let v = named (leb t.accs a) (eqb (job_of t s.channel a) 0) (leb (limit_of t s.channel a) (outstanding_of s a))
      (leb (budget_of t a) (admitted_of s a)) _ (sym (offer_verdict t s a k)) (λ f. clash cc) in
      cc

  -- an admitted one takes one of the room
  module _ (e : (offered t s a).answer ≡ admitted) where
    abbrev r : State
    r = (offered t s a).state

    waiting_so : (b : ℕ) → waiting_of r b ≡ waiting_of s b + only b a
    waiting_so b = elim (ℕ_discrete b a) [
      | yes q ↦ subst (λ x. waiting_of r x ≡ waiting_of s x + only x a) (sym q)
          (omega (arith, only_same a a refl, offer_admits t s a k e))
      | no d ↦ omega (arith, only_other b a d, (offer_others t s a).waiting b d)
    ]

    admitted_so : (b : ℕ) → admitted_of r b ≡ admitted_of s b + only b a
    admitted_so b = elim (ℕ_discrete b a) [
      | yes q ↦ subst (λ x. admitted_of r x ≡ admitted_of s x + only x a) (sym q)
          (omega (arith, only_same a a refl, offer_admits t s a k e))
      | no d ↦ omega (arith, only_other b a d, (offer_others t s a).admitted b d)
    ]

    outstanding_so : (b : ℕ) → outstanding_of r b ≡ outstanding_of s b + only b a
    outstanding_so b = omega (arith, waiting_so b, ap (λ x. ones (get_or x b 0)) (offer_others t s a).returning)

    one_less : a < t.accs → outstanding_of s a < limit_of t s.channel a → admitted_of s a < budget_of t a
        → room_of t s a ≡ suc (room_of t r a)
    one_less l h m =
        room_in s l
        ∙ omega (
          arith,
          room_in r l,
          outstanding_so a,
          admitted_so a,
          only_same a a refl,
          ap (λ c. limit_of t c a) (offer_others t s a).channel,
        )

  room : Room t s a (offered t s a)
  room = go (offered t s a) (offer_cases t s a) refl
    where
      go : (o : Outcome) → Offered t s a o → offered t s a ≡ o → Room t s a o
      go o (refuses w) e =
          subst (λ n. Room t s a (outcome (refused n) s)) (sym (refusal (ap (λ (x : Outcome). x.answer) e))) (none (no_room w))
      go o (admits l h m) e =
          let f = ap (λ (x : Outcome). x.answer) e in
          subst (λ r. Room t s a (outcome admitted r)) (ap (λ (x : Outcome). x.state) e)
          (some (offer_keeps t s a k) (one_less f l h m) (outstanding_so f) (admitted_so f))

-- so many pieces offered one after another
record Pieces (t : Tree) (s : State) (a k : ℕ) (o : Offering) : Type 0 where
  count : o.admissions ≡ min k (room_of t s a)
  state : state_after t s (offers_of a o.admissions k) ≡ o.state
  events : events_of t s (offers_of a o.admissions k)
      ≡ admissions_of a o.admissions ++ pick (ltb o.admissions k) (event (offer a) o.answer ∷ []) []
  stopped : o.admissions < k → o.answer ≡ refused (refusal_of t o.state a)
  outstanding : (b : ℕ) → outstanding_of o.state b ≡ outstanding_of s b + pick (eqb b a) o.admissions 0
  admitted : (b : ℕ) → admitted_of o.state b ≡ admitted_of s b + pick (eqb b a) o.admissions 0

ltb_suc : (n k : ℕ) → ltb (suc n) (suc k) ≡ ltb n k
ltb_suc n k = elim (dec_lt n k) [
  | yes l ↦ lt-ltb (suc n) (suc k) (omega arith) ∙ sym (lt-ltb n k l)
  | no d ↦ le-ltb (suc n) (suc k) (omega arith) ∙ sym (le-ltb n k (omega arith))
]

one_first : (c : Bool) (n : ℕ) → pick c 1 0 + pick c n 0 ≡ pick c (suc n) 0
one_first true n = omega arith
one_first false n = refl

no_piece : (c : Bool) → pick {A = ℕ} c 0 0 ≡ 0
no_piece true = refl
no_piece false = refl

-- no piece is left, or the splitter refused
nothing : (t : Tree) (s : State) (a : ℕ) (x : Answer) → Pieces t s a 0 (offering x 0 s)
unfolding state_after events_of
nothing t s a x = record {
  count = omega arith;
  state = refl;
  events = refl;
  stopped = λ l. absurd (omega arith);
  outstanding = λ b. omega (arith, no_piece (eqb b a));
  admitted = λ b. omega (arith, no_piece (eqb b a));
}

offer_so : (k : ℕ) (t : Tree) (s : State) (a : ℕ) → keeps t s ≡ true → Pieces t s a k (offer_pieces k t s a)
unfolding offer_pieces state_after events_of
offer_so zero t s a K = nothing t s a admitted
offer_so (suc k) t s a K = go (offered t s a) (room t s a K) refl (λ r l. offer_so k t r a l)
  where
    go : (o : Outcome) → Room t s a o → offered t s a ≡ o
        → ((r : State) → keeps t r ≡ true → Pieces t r a k (offer_pieces k t r a))
        → Pieces t s a (suc k) (on_admitted o.answer (one_more (offer_pieces k t o.state a)) (offering o.answer 0 o.state))
    go o (none z) e h =
        let l = lt-ltb 0 (suc k) (omega arith) in
        record {
          count = omega arith;
          state = ap (λ c. state_after t s (pick c (offer a ∷ []) [])) l ∙ ap (λ (x : Outcome). x.state) e;
          events =
              ap (λ c. events_of t s (pick c (offer a ∷ []) [])) l ∙ ap (λ (x : Outcome). event (offer a) x.answer ∷ []) e
              ∙ ap (λ c. pick c (event (offer a) (refused (refusal_of t s a)) ∷ []) []) (sym l);
          stopped = λ l. refl;
          outstanding = λ b. omega (arith, no_piece (eqb b a));
          admitted = λ b. omega (arith, no_piece (eqb b a));
        }
    go o (some {r = r} l f g m) e h =
        let i = h r l in
        let n = (offer_pieces k t r a).admissions in
        let later : Bool → List Call = λ c. replicate n (offer a) ++ pick c (offer a ∷ []) [] in
        record {
          count = omega (arith, i.count);
          state = ap₂ (λ (x : Outcome) c. state_after t x.state (later c)) e (ltb_suc n k) ∙ i.state;
          events =
              ap₂ (λ (x : Outcome) c. event (offer a) x.answer ∷ events_of t x.state (later c)) e (ltb_suc n k)
              ∙ ap (λ (es : List Event). event (offer a) admitted ∷ es) (i.events
              ∙ ap (λ c. admissions_of a n ++ pick c (event (offer a) (offer_pieces k t r a).answer ∷ []) []) (sym (ltb_suc n k)));
          stopped = λ n. i.stopped (omega arith);
          outstanding = λ b. omega (arith, i.outstanding b, g b, one_first (eqb b a) n);
          admitted = λ b. omega (arith, i.admitted b, m b, one_first (eqb b a) n);
        }

-- where as many are admitted as were offered, the answer is admitted
one_more_so : (x : Answer) (o : Offering) (s : State) (k : ℕ) → (o.admissions ≡ k → o.answer ≡ admitted)
    → (on_admitted x (one_more o) (offering x 0 s)).admissions ≡ suc k → (on_admitted x (one_more o) (offering x 0 s)).answer ≡ admitted
one_more_so admitted o s k h f = h (omega arith)
one_more_so (served b) o s k h f = absurd (omega arith)
one_more_so idle o s k h f = absurd (omega arith)
one_more_so (refused n) o s k h f = absurd (omega arith)

all_so : (k : ℕ) (t : Tree) (s : State) (a : ℕ) → (offer_pieces k t s a).admissions ≡ k → (offer_pieces k t s a).answer ≡ admitted
unfolding offer_pieces
all_so zero t s a e = refl
all_so (suc k) t s a e =
    let r = (offered t s a).state in
    one_more_so (offered t s a).answer (offer_pieces k t r a) r k (λ f. all_so k t r a f) e

-- a burst on a state that keeps its rules
module _ (t : Tree) (s : State) (K : keeps t s ≡ true) (a : ℕ) (b : Burst) (from : ℕ) where
  burst_so : Pieces t s a (pieces_left t s b from) (burst_offer t s a b from)
  burst_so = go (split_for t s b)
    where
      go : (x : Split) → Pieces t s a (on_pieces x (λ k. k - from) 0) (by_split x t s a from)
      go (pieces k) = offer_so (k - from) t s a K
      go (not_split n) = nothing t s a (refused n)

  admissible_so : admissible t s a b from ≡ (burst_offer t s a b from).admissions
  admissible_so = omega (arith, burst_so.count)

  burst_state : state_after t s (calls_of t s (burst a b from)) ≡ (burst_offer t s a b from).state
  burst_state = ap (λ n. state_after t s (offers_of a n (pieces_left t s b from))) admissible_so ∙ burst_so.state

  whole_so : (k : ℕ) → split_for t s b ≡ pieces k → (burst_offer t s a b from).admissions ≡ pieces_left t s b from
      → (burst_offer t s a b from).answer ≡ admitted
  whole_so k e = go (split_for t s b) e
    where
      go : (x : Split) → x ≡ pieces k → (by_split x t s a from).admissions ≡ on_pieces x (λ k. k - from) 0
          → (by_split x t s a from).answer ≡ admitted
      go (pieces n) e f = all_so (n - from) t s a f
      go (not_split n) e f = clash cc

  not_so : (n : ℕ) → split_for t s b ≡ not_split n
      → ((burst_offer t s a b from).answer ≡ refused n) × ((burst_offer t s a b from).state ≡ s)
  not_so n e = (ap (λ x. (by_split x t s a from).answer) e, ap (λ x. (by_split x t s a from).state) e)

board_state_lem : (t : Tree) (s : State) (c : BoardCall) → keeps t s ≡ true → state_after t s (calls_of t s c) ≡ board_state t s c
unfolding state_after
board_state_lem t s (plain c) k = refl
board_state_lem t s (burst a b from) k = burst_state t s k a b from

keeps_after : (t : Tree) (s : State) (cs : List Call) → keeps t s ≡ true → keeps t (state_after t s cs) ≡ true
keeps_after t s cs k = (guarantee t s (cs ++ []) k).every_state_keeps cs [] refl

board_keeps : (t : Tree) (s : State) (c : BoardCall) → keeps t s ≡ true → keeps t (board_state t s c) ≡ true
board_keeps t s c k = subst (λ r. keeps t r ≡ true) (board_state_lem t s c k) (keeps_after t s (calls_of t s c) k)

board_same : (t : Tree) (s : State) (bs : List BoardCall) → keeps t s ≡ true → board_after t s bs ≡ state_after t s (calls_in t s bs)
unfolding board_after calls_in state_after
board_same t s [] k = refl
board_same t s (c ∷ bs) k =
    let r = board_state t s c in
    board_same t r bs (board_keeps t s c k) ∙ ap (λ x. state_after t x (calls_in t r bs)) (sym (board_state_lem t s c k))
    ∙ sym (state_append t s (calls_of t s c) (calls_in t r bs))

calls_append : (t : Tree) (s : State) (bs cs : List BoardCall)
    → calls_in t s (bs ++ cs) ≡ calls_in t s bs ++ calls_in t (board_after t s bs) cs
unfolding board_after calls_in
calls_append t s [] cs = refl
calls_append t s (c ∷ bs) cs =
    ap (λ (l : List Call). calls_of t s c ++ l) (calls_append t (board_state t s c) bs cs)
    ∙ sym (append_assoc (calls_of t s c) (calls_in t (board_state t s c) bs) _)

-- the admissions of a burst, apart at one of them; they are no slots, and each is one more in the queue
at_one : (e : Event) (i n : ℕ) → i < n → (rest : List Event)
    → replicate n e ++ rest ≡ replicate i e ++ e ∷ (replicate (n - suc i) e ++ rest)
at_one e i zero l rest = absurd (omega arith)
at_one e zero (suc n) l rest = ap (λ m. e ∷ (replicate m e ++ rest)) {x = n} {y = suc n - 1} (omega arith)
at_one e (suc i) (suc n) l rest =
    ap (λ (es : List Event). e ∷ es) (at_one e i n (omega arith) rest
    ∙ ap (λ m. replicate i e ++ e ∷ (replicate m e ++ rest)) {x = n - suc i} {y = suc n - suc (suc i)} (omega arith))

apart : (e : Event) (n i : ℕ) → i < n → (xs rest : List Event)
    → xs ++ (replicate n e ++ rest) ≡ (xs ++ replicate i e) ++ e ∷ (replicate (n - suc i) e ++ rest)
apart e n i l xs rest =
    ap (λ (es : List Event). xs ++ es) (at_one e i n l rest) ∙ sym (append_assoc xs (replicate i e) _)

no_slots : (a n : ℕ) (rest : List Event) → slots_in (admissions_of a n ++ rest) ≡ slots_in rest
unfolding slots_in
no_slots a zero rest = refl
no_slots a (suc n) rest = omega (arith, no_slots a n rest)

no_slot : (c : Bool) (a : ℕ) (x : Answer) (rest : List Event) → slots_in (pick c (event (offer a) x ∷ []) [] ++ rest) ≡ slots_in rest
unfolding slots_in
no_slot true a x rest = omega arith
no_slot false a x rest = refl

queued : (a n m : ℕ) (q : List Ticket) → length (queue_from a m q (admissions_of a n)) ≡ length q + n
unfolding queue_from
queued a zero m q = omega arith
queued a (suc n) m q =
    ap (λ (x : List Ticket). length (queue_from a (suc m) x (admissions_of a n))) (picked (eqb a a) _ _ (eq-eqb a a refl))
    ∙ omega (arith, queued a n (suc m) (q ++ admitted_by m ∷ []), length-append q (admitted_by m ∷ []))

module _ (t : Tree) (s : State) (K : keeps t s ≡ true) {bs : List BoardCall} (p : BurstIn bs) where
  abbrev x : State
  x = state_before t s p

  -- the state before the burst is that after the plain calls before it
  front_state : state_after t s (calls_in t s p.front) ≡ x
  front_state = sym (board_same t s p.front K)

  x_keeps : keeps t x ≡ true
  x_keeps = subst (λ r. keeps t r ≡ true) front_state (keeps_after t s (calls_in t s p.front) K)

  P : Pieces t x p.acc (left t s p) (reply t s p)
  P = burst_so t x x_keeps p.acc p.asked p.from

  abbrev calls : List Call
  calls = calls_of t x (burst p.acc p.asked p.from)

  abbrev later : List Call
  later = calls_in t (reply t s p).state p.back

  calls_so : calls_in t s bs ≡ calls_in t s p.front ++ (calls ++ later)
  unfolding calls_in
  calls_so = ap (calls_in t s) p.place ∙ calls_append t s p.front _

  burst_events : events_of t x calls ≡ admissions_of p.acc (reply t s p).admissions ++ last_event t s p
  burst_events =
      ap (λ n. events_of t x (offers_of p.acc n (left t s p))) (admissible_so t x x_keeps p.acc p.asked p.from)
      ∙ P.events

  after_state : state_after t x calls ≡ (reply t s p).state
  after_state = burst_state t x x_keeps p.acc p.asked p.from

  all_events : events_of t s (calls_in t s bs)
      ≡ events_before t s p ++ (admissions_of p.acc (reply t s p).admissions ++ (last_event t s p ++ events_after t s p))
  all_events =
      ap (events_of t s) calls_so ∙ events_append t s (calls_in t s p.front) (calls ++ later)
      ∙ ap (λ (es : List Event). events_before t s p ++ es) (
      ap (λ r. events_of t r (calls ++ later)) front_state ∙ events_append t x calls later
      ∙ ap₂ (λ (es : List Event) r. es ++ events_of t r later) burst_events after_state
      ∙ append_assoc (admissions_of p.acc (reply t s p).admissions) (last_event t s p) (events_after t s p)
      )

  piece_stands : (i : ℕ) → i < (reply t s p).admissions
      → events_of t s (calls_in t s bs) ≡ up_to p.acc (before_piece t s p i) (after_piece t s p i)
  piece_stands i l = all_events ∙ apart _ (reply t s p).admissions i l (events_before t s p) _

  -- how many of its own wait before it, and how many slots come after it
  piece_queue : (i : ℕ) → length (queue_after s p.acc (before_piece t s p i)) ≡ in_queue t s p i
  piece_queue i =
      let q = starting_queue (waiting_of s p.acc) in
      ap length (queue_append p.acc 0 q (events_before t s p) (admissions_of p.acc i))
      ∙ queued p.acc i (length (events_before t s p) + 0) _
      ∙ omega (
        arith,
        queue_length p.acc 0 q (calls_lead t s (calls_in t s p.front) K) (start_length (waiting_of s p.acc)),
        ap (λ r. waiting_of r p.acc) front_state,
      )

  piece_slots : (i : ℕ) → slots_in (after_piece t s p i) ≡ slots_in (events_after t s p)
  piece_slots i =
      no_slots p.acc ((reply t s p).admissions - suc i) _
      ∙ no_slot (ltb (reply t s p).admissions (left t s p)) p.acc (reply t s p).answer (events_after t s p)

  own : {A : Type 0} (m n : A) → pick (eqb p.acc p.acc) m n ≡ m
  own m n = picked _ _ _ (eq-eqb p.acc p.acc refl)

  other : {A : Type 0} (m n : A) (a : ℕ) → (a ≡ p.acc → ⊥) → pick (eqb a p.acc) m n ≡ n
  other m n a d = passed _ _ _ (ne_eqb a p.acc d)

pub bursts : (t : Tree) (s : State) (bs : List BoardCall) → keeps t s ≡ true → PieceGuarantee t s bs
bursts t s bs k = record {
  same_state_lem = board_same t s bs k;
  demand_3 = guarantee t s (calls_in t s bs) k;
  events = λ p. all_events t s k p;
  count = λ p. (P t s k p).count;
  refused_piece = λ p. (P t s k p).stopped;
  all_admitted = λ p. whole_so t _ (x_keeps t s k p) p.acc p.asked p.from;
  not_split_lem = λ p. not_so t _ (x_keeps t s k p) p.acc p.asked p.from;
  for_phi = λ p. omega (arith, (P t s k p).outstanding p.acc, own t s k p (reply t s p).admissions 0);
  for_budget = λ p. omega (arith, (P t s k p).admitted p.acc, own t s k p (reply t s p).admissions 0);
  for_others = λ p a d.
      let z = other t s k p (reply t s p).admissions 0 a d in
      (omega (arith, (P t s k p).outstanding a), omega (arith, (P t s k p).admitted a));
  piece = λ p i l. piece_stands t s k p i l;
  in_time = λ p i l h.
      let q = ap (λ n. suc n * share_of t s.channel p.acc) (piece_queue t s k p i) in
      subst (ServedWithin s p.acc (before_piece t s p i) (after_piece t s p i)) q
      ((guarantee t s (calls_in t s bs) k).in_time _ _ p.acc (piece_stands t s k p i l) (omega (arith, piece_slots t s k p i)));
  few_others = λ p i l mid rest e w.
      omega (
        arith,
        (guarantee t s (calls_in t s bs) k).few_others (before_piece t s p i) _ p.acc (piece_stands t s k p i l) mid rest e w,
        ap (λ n. suc n * (share_of t s.channel p.acc - 1)) (piece_queue t s k p i),
      );
}

pub piece_instances : PieceInstances
unfolding calls_in offer_pieces split_of offered slotted answers_of tick who after turn_port turn_allowance seek bits_below tree_keeps state_keeps sized record_keeps turn_keeps bus_keeps carries root_placed child_placed used_interconnect unused_interconnect used_accelerator unused_accelerator inside above sum all ones
piece_instances = record { met_exactly = refl; stopped = refl; none_offered = refl }
