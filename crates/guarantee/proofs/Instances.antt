-- The instances are computed from the definitions. That no run reaches a state is read off its slot: in slot 0 nothing has
-- been served, so all that waits was admitted there.
use Prim.Native.Nat.{ℕ, zero, suc, ◌-◌, ◌*◌, ◌≤◌}
use mathlib.Core.Bool.{true}
use mathlib.Core.List.{List, [], ◌∷◌, ◌++◌}
use mathlib.Core.Path.{◌≡◌, refl, sym, ◌∙◌, ap, subst}
use lib.ListN.{length}
use lib.Count.{ones}
use lib.Dec.{lit≤}
use native.Mathlib.Omega.{arith}
use Rattle.model.specs.declared.Tree.{Tree}
use Rattle.model.specs.declared.State.{State}
use Rattle.model.specs.declared.Channel.TheVariants.{Read, Write}
use Rattle.folds.specs.Fold.{sum, all}
use Rattle.model.specs.Tree.{above, waiting_of, admitted_of}
use Rattle.model.specs.Beneath.{inside}
use Rattle.rules.specs.Rules.{tree_keeps, state_keeps, sized, record_keeps, turn_keeps, bus_keeps, carries, root_placed, child_placed, used_interconnect, unused_interconnect, used_accelerator, unused_accelerator, keeps}
use Rattle.turns.specs.Turns.{who, after, turn_port, turn_allowance, seek, bits_below}
use Rattle.machine.specs.Machine.{Answer, Outcome, admitted, served, idle, refused, fresh_state, offered, slotted, tick}
use Rattle.machine.specs.Calls.{Call, offer, slot, step, answers_of, state_after}
use Rattle.machine.proofs.Within.{step_within, step_within_lem, step_keeps}
use Rattle.shares.specs.Shares.{others_at, share_along, share_of}
use Rattle.model.specs.Trees.{chain, chain_of, nested, returning_pair}
use Rattle.guarantee.specs.Guarantee.{Event, event, events_of, queue_from, starting_queue, queue_after, slots_in, others_in, admissions_from, ServedWithin, Holds, here, Guarantee}
use Rattle.guarantee.specs.Homecoming.{recent_in}
use Rattle.guarantee.specs.AtOnce.{sized_at_once, record_keeps_at_once, state_keeps_at_once, offered_at_once, slotted_at_once, answers_at_once, events_at_once}
use Rattle.guarantee.specs.Instances.{MetExactly, back_of, Tight, several, case_two, kept_full, wide_turn, unreached, from_unreached, late, until_last, while_returning, mapped, map_calls, Sharp, AllTight}
use Rattle.guarantee.proofs.Events.{slots_append}
use Rattle.guarantee.proofs.Once.{served_once}
use Rattle.guarantee.proofs.Theorem.{guarantee}
use Rattle.guarantee.proofs.Leads.{Does, admits, declines, serves, idles, halts, Leads, stay, go, calls_lead}

-- offers that are admitted; slots that serve; slots that serve, each followed by an offer of the accelerator served
abbrev taken : List Call → List Event
taken [] = []
taken (c ∷ cs) = event c admitted ∷ taken cs

abbrev served_in_lem : List ℕ → List Event
served_in_lem [] = []
served_in_lem (a ∷ xs) = event slot (served a) ∷ served_in_lem xs

abbrev serves_offers : List ℕ → List Event
serves_offers [] = []
serves_offers (a ∷ xs) = event slot (served a) ∷ event (offer a) admitted ∷ serves_offers xs

-- a round, up to the slot that serves accelerator 3
abbrev others : List Event
others = serves_offers (0 ∷ 1 ∷ 0 ∷ 2 ∷ 0 ∷ 1 ∷ 0 ∷ [])

abbrev rounds : ℕ → List Event
rounds zero = others
rounds (suc n) = others ++ event slot (served 3) ∷ rounds n

-- in slot 0 all that waits was admitted there, from a state of which that holds
abbrev Fresh : State → ℕ → Type 0
Fresh s a = s.slot ≡ 0 → waiting_of s a ≡ admitted_of s a

fresh_step : (t : Tree) (s m : State) (c : Call) (x : Answer) (a : ℕ) → Does t s c x m → Fresh s a → Fresh m a
fresh_step t s m c x a (admits A) f e = omega (arith, A.waiting a, A.admitted a, f (sym A.slot ∙ e))
fresh_step t s m c x a (declines w) f e = f e
fresh_step t s m c x a (serves v) f e = absurd (omega (arith, v.ticked.slot))
fresh_step t s m c x a (idles i) f e = absurd (omega (arith, i.ticked.slot))
fresh_step t s m c x a (halts q) f e = f e

fresh_leads : {t : Tree} {s r : State} {es : List Event} (a : ℕ) → Leads t s es r → Fresh s a → Fresh r a
fresh_leads a (stay k) f = f
fresh_leads {t} {s} a (go {m = m} {e = v} k d w) f = fresh_leads a w (fresh_step t s m v.call v.answer a d f)

no_run : keeps chain (fresh_state chain Read) ≡ true → (cs : List Call)
    → state_after chain (fresh_state chain Read) cs ≡ unreached → ⊥
no_run k cs e =
    let f = fresh_leads 0 (calls_lead chain (fresh_state chain Read) cs k) (λ _. refl) in
    let z : ◌≡◌ {A = ℕ} 4 0 = subst (λ s. Fresh s 0) e f refl in
    omega arith

-- by demand 3, and by the law that a transaction is served once
pub tight : {t : Tree} {s : State} {cs : List Call} {a k n : ℕ} (m : MetExactly t s cs a k n) → Guarantee t s cs → Tight m
unfolding slots_in
tight {t} {s} {cs} {a} {k} {n} m G = record {
  granted = subst (ServedWithin s a m.front (back_of m)) share
      (G.in_time m.front (back_of m) a m.events (omega (arith, share, slots_append m.mid (event slot (served a) ∷ m.rest), m.slots)));
  no_sooner = λ v. omega (arith, v.within, m.slots, ap slots_in (served_once s a m.front (back_of m) n (n - 1) met v));
  few_others = subst (λ i. others_in a m.mid ≤ suc i * (share_of t s.channel a - 1)) m.before
      (G.few_others m.front (back_of m) a m.events m.mid _ refl (subst (Holds _) (sym m.first) here));
}
  where
    share : suc (length (queue_after s a m.front)) * share_of t s.channel a ≡ n
    share = ap (λ i. suc i * share_of t s.channel a) m.before ∙ sym m.granted

    met : ServedWithin s a m.front (back_of m) n
    met = record {
      mid = m.mid;
      rest = m.rest;
      ending = refl;
      others = m.others;
      first = m.first;
      within = omega (arith, m.slots);
    }

-- The events without the tests of the rules, which no call from a state that keeps them fails
abbrev event_on : (State → List Event) → Call → Outcome → List Event
event_on f c x = event c x.answer ∷ f x.state

unfoldable pub events_within : Tree → State → List Call → List Event
events_within t s [] = []
events_within t s (c ∷ cs) = event_on (λ q. events_within t q cs) c (step_within t s c)

pub events_within_lem : (t : Tree) (s : State) (cs : List Call) (es : List Event) → keeps t s ≡ true → events_within t s cs ≡ es → events_of t s cs ≡ es
unfolding events_of events_within
events_within_lem t s [] es e h = h
events_within_lem t s (c ∷ cs) es e h =
    ap (λ (xs : List Event). event c (step t s c).answer ∷ xs)
    (events_within_lem t (step t s c).state cs _ (step_keeps t s c e) refl)
    ∙ ap (event_on (λ q. events_within t q cs) c) (step_within_lem t s c e) ∙ h

pub sharp : Sharp
unfolding events_of answers_of state_after queue_from starting_queue slots_in others_in admissions_from offered slotted tick who after turn_port turn_allowance seek bits_below tree_keeps state_keeps sized record_keeps turn_keeps bus_keeps carries root_placed child_placed used_interconnect unused_interconnect used_accelerator unused_accelerator inside above sum all ones others_at share_along recent_in sized_at_once record_keeps_at_once state_keeps_at_once offered_at_once slotted_at_once answers_at_once events_at_once events_within
sharp = record {
  none_before = record {
    front = taken (several 4 (offer 0 ∷ []) ++ several 2 (offer 1 ∷ []) ++ offer 2 ∷ []);
    mid = served_in_lem (0 ∷ 1 ∷ 0 ∷ 2 ∷ 0 ∷ 1 ∷ 0 ∷ []);
    rest = [];
    others = [];
    start = refl;
    events = events_within_lem chain (fresh_state chain Read) case_two _ refl refl;
    before = refl;
    first = refl;
    slots = refl;
    granted = refl;
    others_served = refl;
  };
  three_before = record {
    front = taken
        (several 4 (offer 0 ∷ []) ++ several 4 (offer 1 ∷ []) ++ several 4 (offer 2 ∷ []) ++ several 3 (offer 3 ∷ []));
    mid = rounds 3;
    rest = [];
    others = [];
    start = refl;
    events = events_within_lem (chain_of 64) (fresh_state (chain_of 64) Read) kept_full _ refl refl;
    before = refl;
    first = refl;
    slots = refl;
    granted = refl;
    others_served = refl;
  };
  wide_turn_lem = record {
    front = event (offer 0) admitted ∷ event slot (served 0) ∷ taken (several 2 (offer 1 ∷ []));
    mid = served_in_lem (1 ∷ 1 ∷ []);
    rest = [];
    others = [];
    start = refl;
    events = events_within_lem nested (fresh_state nested Read) wide_turn _ refl refl;
    before = refl;
    first = refl;
    slots = refl;
    granted = refl;
    others_served = refl;
  };
  second_window = record { start = refl; spent = refl; refusal = refl };
  from_unreached_lem = record {
    front = [];
    mid = rounds 1;
    rest = [];
    others = [];
    start = refl;
    events = events_within_lem chain unreached from_unreached _ refl refl;
    before = refl;
    first = refl;
    slots = refl;
    granted = refl;
    others_served = refl;
  };
  with_refusals = record {
    front = event (offer 0) admitted ∷ event (offer 0) (refused 8) ∷ taken (offer 1 ∷ offer 1 ∷ offer 2 ∷ [])
        ++ event (offer 4) (refused 7) ∷ [];
    mid = event slot (served 0) ∷ event (offer 0) (refused 9) ∷ served_in_lem (1 ∷ 0 ∷ 2 ∷ [])
        ++ event (offer 9) (refused 7) ∷ served_in_lem (0 ∷ 1 ∷ 0 ∷ []);
    rest = event slot idle ∷ event slot (refused 10) ∷ event (offer 3) admitted ∷ [];
    others = [];
    start = refl;
    events = events_within_lem chain late until_last _ refl refl;
    before = refl;
    first = refl;
    slots = refl;
    granted = refl;
    others_served = refl;
  };
  every_answer = refl;
  first_window = record { start = refl; spent = refl; refusal = refl };
  never_reached = no_run refl;
  while_returning_lem = record {
    front = event (offer 0) admitted ∷ event slot (served 0) ∷ event (offer 0) (refused 8) ∷ event (offer 1) admitted
        ∷ event slot (served 1) ∷ event slot idle ∷ [];
    mid = event (offer 0) admitted ∷ served_in_lem (0 ∷ []);
    rest = [];
    others = [];
    start = refl;
    events = events_within_lem (returning_pair 2 1 4) (fresh_state (returning_pair 2 1 4) Read) while_returning _ refl refl;
    before = refl;
    first = refl;
    slots = refl;
    granted = refl;
    others_served = refl;
  };
  one_by_one = refl;
  delay_tells = (refl, refl);
  two_shares = (refl, refl);
  map_reads = refl;
  map_reads_at_once = refl;
  bound_fails = record {
    front = event (offer 0) admitted ∷ event slot (served 0) ∷ event (offer 1) admitted ∷ [];
    back = served_in_lem (1 ∷ 0 ∷ []);
    events = refl;
    before = refl;
    granted = refl;
    slots = lit≤ tt;
    not_served = λ v. omega (
      arith,
      v.within,
      ap slots_in
          (served_once (fresh_state mapped Read) 0 _ (served_in_lem (1 ∷ 0 ∷ [])) 2 1
          (record { mid = served_in_lem (1 ∷ []); rest = []; ending = refl; others = []; first = refl; within = lit≤ tt }) v),
    );
  };
  map_writes = refl;
  by_write_share = record {
    front = event (offer 0) admitted ∷ event slot (served 0) ∷ event (offer 1) admitted ∷ [];
    mid = served_in_lem (1 ∷ []);
    rest = [];
    others = [];
    start = refl;
    events = events_within_lem mapped (fresh_state mapped Write) map_calls _ refl refl;
    before = refl;
    first = refl;
    slots = refl;
    granted = refl;
    others_served = refl;
  };
}

pub all_tight : AllTight sharp
all_tight = record {
  none_before = by_demand_3 sharp.none_before;
  three_before = by_demand_3 sharp.three_before;
  wide_turn_lem = by_demand_3 sharp.wide_turn_lem;
  from_unreached_lem = by_demand_3 sharp.from_unreached_lem;
  with_refusals = by_demand_3 sharp.with_refusals;
  while_returning_lem = by_demand_3 sharp.while_returning_lem;
  by_write_share = by_demand_3 sharp.by_write_share;
}
  where
    by_demand_3 : {t : Tree} {s : State} {cs : List Call} {a k n : ℕ} (m : MetExactly t s cs a k n) → Tight m
    by_demand_3 {t} {s} {cs} m = tight m (guarantee t s cs m.start)
