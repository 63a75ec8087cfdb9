-- Demand 3. The list leads by states that keep their rules; at an admission the ticket stands last, its wait is at most
-- (k + 1) times the share, and each slot while it stands there takes one off.
use Prim.Native.Nat.{ℕ, suc, ◌+◌, ◌*◌, ◌≤◌, ◌<◌}
use mathlib.Core.Bool.{true}
use mathlib.Core.List.{List, [], ◌∷◌, ◌++◌}
use mathlib.Core.Path.{◌≡◌, refl, ◌∙◌, subst}
use native.Mathlib.Nat.{mul-sub, mul-one}
use native.Mathlib.Omega.{arith}
use lib.ListN.{length, length-append}
use lib.Dec.{eqb}
use borrow.Author.Tests.{eq-eqb}
use Rattle.model.specs.declared.Tree.{Tree}
use Rattle.model.specs.declared.State.{State}
use Rattle.model.specs.Tree.{limit_of, waiting_of}
use Rattle.rules.specs.Rules.{keeps}
use Rattle.folds.proofs.Folds.{picked}
use Rattle.rules.proofs.Sound.{sound_of, kept_of}
use Rattle.machine.specs.Machine.{admitted, served, idle, refused}
use Rattle.machine.specs.Calls.{Call, offer, slot, step, state_after}
use Rattle.machine.proofs.Within.{step_keeps}
use Rattle.shares.specs.Shares.{share_of}
use Rattle.guarantee.specs.Guarantee.{Event, event, events_of, Ticket, admitted_by, starting_queue, queue_after, slots_in, others_in, up_to, Holds, StillWaits, Guarantee}
use Rattle.guarantee.proofs.Path.{wait_of, wait_most}
use Rattle.guarantee.proofs.Leads.{Does, admits, serves, idles, halts, does_channel, Leads, go, calls_lead, leads_start, leads_channel, Parts, parts}
use Rattle.guarantee.proofs.Queue.{start_length, queue_length, queue_up_to, stands_last, waits_within, limits_hold, Timely, timely, few}
use Rattle.guarantee.proofs.Budget.{within}

keeps_after : (t : Tree) (s : State) (cs : List Call) → keeps t s ≡ true → keeps t (state_after t s cs) ≡ true
unfolding state_after
keeps_after t s [] k = k
keeps_after t s (c ∷ cs) k = keeps_after t (step t s c).state cs (step_keeps t s c k)

-- what a slot's answer says of its state
refused_by_10 : {t : Tree} {s m : State} {n : ℕ} → Does t s slot (refused n) m → n ≡ 10
refused_by_10 (halts e) = e

serves_some : {t : Tree} {s m : State} {a : ℕ} → Does t s slot (served a) m → 0 < waiting_of s a
serves_some (serves v) = v.waited

idle_none : {t : Tree} {s m : State} → Does t s slot idle m → (a : ℕ) → waiting_of s a ≡ 0
idle_none (idles i) = i.none

admitted_one : {t : Tree} {s m : State} {a : ℕ} → Does t s (offer a) admitted m
    → (a < t.accs) × (waiting_of m a ≡ waiting_of s a + 1)
admitted_one {a = a} (admits A) =
    (A.acc, omega (arith, A.waiting a, picked {A = ℕ} (eqb a a) 1 0 (eq-eqb a a refl)))

empty : (q : List Ticket) → length q ≡ 0 → q ≡ []
empty [] e = refl
empty (x ∷ q) e = absurd (omega arith)

module _ (t : Tree) (s : State) (cs : List Call) (k : keeps t s ≡ true) where
  -- the list comes to an event
  record Comes (front : List Event) (e : Event) (back : List Event) : Type 0 where
    state : State
    next : State
    before : Leads t s front state
    does : Does t state e.call e.answer next
    after : Leads t next back (state_after t s cs)

  comes : (front back : List Event) (e : Event) → events_of t s cs ≡ front ++ e ∷ back → Comes front e back
  comes front back e f = go_on p.state p.before p.after
    where
      p : Parts t s front (e ∷ back) (state_after t s cs)
      p = parts front (e ∷ back) (subst (λ es. Leads t s es (state_after t s cs)) f (calls_lead t s cs k))

      go_on : (m : State) → Leads t s front m → Leads t m (e ∷ back) (state_after t s cs) → Comes front e back
      go_on m b (go {m = r} l d w) = record { state = m; next = r; before = b; does = d; after = w }

  -- a queue is as long as the waiting count
  queue_waits : (front : List Event) {r : State} (a : ℕ) → Leads t s front r
      → length (queue_after s a front) ≡ waiting_of r a
  queue_waits front a w = queue_length a 0 (starting_queue (waiting_of s a)) w (start_length (waiting_of s a))

  module _ (front back : List Event) (a : ℕ) (e : events_of t s cs ≡ up_to a front back) where
    at : Comes front (event (offer a) admitted) back
    at = comes front back (event (offer a) admitted) e

    one : (a < t.accs) × (waiting_of at.next a ≡ waiting_of at.state a + 1)
    one = admitted_one at.does

    -- the queue once the ticket has been put last
    abbrev with_ticket : List Ticket
    with_ticket = queue_after s a front ++ admitted_by (length front) ∷ []

    with_length : length with_ticket ≡ waiting_of at.next a
    with_length = length-append (queue_after s a front) _ ∙ omega (arith, queue_waits front a at.before, one)

    -- the limits of the list's channel
    abbrev limits : ℕ → ℕ
    limits = limit_of t s.channel

    on_channel_lem : at.next.channel ≡ s.channel
    on_channel_lem = does_channel at.does ∙ leads_channel at.before

    -- how long the ticket waits at most, and that this is at most (k + 1) times the share
    abbrev ticket_wait : ℕ
    ticket_wait = wait_of t limits at.next a (suc (length (queue_after s a front)))

    ticket_share : ticket_wait ≤ suc (length (queue_after s a front)) * share_of t s.channel a
    ticket_share =
        let l = leads_start at.after in
        let K = kept_of t at.next l in
        wait_most t limits (sound_of t at.next l) at.next K (waits_within t s.channel at.next l on_channel_lem) a _ one.0

    ticket_timely : ticket_wait ≤ slots_in back
        → Timely a (length front) (suc (length front)) with_ticket back ticket_wait
    ticket_timely h =
        timely limits a (length front) (suc (length front)) (length (queue_after s a front)) one.0 (omega arith) with_ticket
        at.after (limits_hold s.channel at.after on_channel_lem) (stands_last _ (queue_after s a front)) with_length h

    ticket_few : (mid rest : List Event) → back ≡ mid ++ rest → StillWaits s a front mid
        → others_in a mid + suc (length (queue_after s a front)) ≤ ticket_wait
    ticket_few mid rest f h =
        let p = parts mid rest (subst (λ es. Leads t at.next es (state_after t s cs)) f at.after) in
        few limits a (length front) (suc (length front)) (length (queue_after s a front)) one.0 (omega arith) with_ticket
        p.before (limits_hold s.channel p.before on_channel_lem) (stands_last _ (queue_after s a front)) with_length
        (subst (Holds (admitted_by (length front))) (queue_up_to s a front mid) h)

pub guarantee : (t : Tree) (s : State) (cs : List Call) → keeps t s ≡ true → Guarantee t s cs
guarantee t s cs k = record {
  every_state_keeps = λ front back e. keeps_after t s front k;
  same_channel_lem = λ front back e. leads_channel (calls_lead t s front k);
  slot_refused_by_10 = λ front back n e. omega (arith, refused_by_10 (comes t s cs k front back _ e).does);
  first_is_there = λ front back a e.
      let p = comes t s cs k front back _ e in
      omega (arith, queue_waits t s cs k front a p.before, serves_some p.does);
  idle_finds_none = λ front back e a la.
      let p = comes t s cs k front back _ e in
      empty _ (queue_waits t s cs k front a p.before ∙ idle_none p.does a);
  in_time = λ front back a e h.
      let b = ticket_share t s cs k front back a e in
      let u = ticket_timely t s cs k front back a e (omega arith) in
      record {
        mid = u.mid;
        rest = u.rest;
        ending = u.ending;
        others = u.others;
        first = queue_up_to s a front u.mid ∙ u.first;
        within = omega (arith, u.within);
      };
  few_others = λ front back a e mid rest f h.
      let n = suc (length (queue_after s a front)) in
      omega (
        arith,
        ticket_few t s cs k front back a e mid rest f h,
        ticket_share t s cs k front back a e,
        mul-sub n (share_of t s.channel a) 1,
        mul-one n,
      );
  within_budget = λ a w la. omega (arith, within a w la (calls_lead t s cs k));
}
