-- What a call does, by its answer, and how a list of calls leads from state to state. Every law of the list is read off this,
-- call by call, and never off the machine's definitions again.
--
-- Does t s c x r        the call c, which answers x, goes from state s to state r
-- Leads t s es r        the events es go from state s to state r, by states that keep their rules
use Prim.Native.Nat.{ℕ, ◌+◌, ◌<◌}
use mathlib.Core.Bool.{true}
use mathlib.Core.List.{List, [], ◌∷◌, ◌++◌}
use mathlib.Core.Path.{◌≡◌, refl, sym, ap, subst, ◌∙◌}
use native.Mathlib.Decide.{ℕ_discrete}
use native.Mathlib.Omega.{arith}
use lib.ListN.{get_or}
use Rattle.folds.proofs.Folds.{clash}
use Rattle.model.specs.declared.Tree.{Tree}
use Rattle.model.specs.declared.State.{State}
use Rattle.model.specs.Tree.{path, delay_of, waiting_of, returns_of, admitted_of}
use Rattle.model.specs.Beneath.{inside}
use Rattle.rules.specs.Rules.{keeps}
use Rattle.rules.proofs.Sound.{sound_of, kept_of}
use Rattle.rules.proofs.Beneath.{On, only, only_same, only_other}
use Rattle.turns.specs.Turns.{after}
use Rattle.machine.specs.Machine.{Answer, Outcome, admitted, served, idle, refused, offered, older, tick, chosen, serve, slotted}
use Rattle.machine.specs.Calls.{Call, offer, slot, step, state_after}
use Rattle.turns.proofs.Descent.{Turned, Unturned, choice}
use Rattle.machine.proofs.Returns.{older_at}
use Rattle.machine.proofs.Keeps.{take_returns}
use Rattle.machine.proofs.Within.{step_keeps}
use Rattle.machine.proofs.Cases.{Refuses, Offered, offer_cases, Slotted, slot_cases}
use Rattle.machine.proofs.Laws.{offer_admits, offer_others, Served, Ticked, slot_only_last, slot_serves, slot_on_path, slot_off_path, slot_idle_turns, slot_windows, step_channel}
use Rattle.guarantee.specs.Guarantee.{Event, events_of, slot_counts, slots_in}

-- a transaction of b is admitted
pub record Admission (t : Tree) (s : State) (b : ℕ) (r : State) : Type 0 where
  pub acc : b < t.accs
  pub waiting : (a : ℕ) → waiting_of r a ≡ waiting_of s a + only a b
  pub admitted : (a : ℕ) → admitted_of r a ≡ admitted_of s a + only a b
  pub returns : (a : ℕ) → returns_of r a ≡ returns_of s a
  pub turns : (i : ℕ) → Unturned s r i
  pub slot : r.slot ≡ s.slot
  pub channel : r.channel ≡ s.channel

-- a transaction of b is served
pub record Service (t : Tree) (s : State) (b : ℕ) (r : State) : Type 0 where
  pub acc : b < t.accs
  pub waited : 0 < waiting_of s b
  pub waiting : (a : ℕ) → waiting_of s a ≡ waiting_of r a + only a b
  pub returns : (a : ℕ) → returns_of r a ≡ older (delay_of t) (returns_of s a + only a b)
  pub on : (i p : ℕ) → On i p (path t b) → Turned t s r i p
  pub off : (i : ℕ) → ((p : ℕ) → On i p (path t b) → ⊥) → Unturned s r i
  pub ticked : Ticked t s r
  pub channel : r.channel ≡ s.channel

-- nothing waits
pub record Idle (t : Tree) (s r : State) : Type 0 where
  pub none : (a : ℕ) → waiting_of s a ≡ 0
  pub waiting : (a : ℕ) → waiting_of r a ≡ waiting_of s a
  pub returns : (a : ℕ) → returns_of r a ≡ older (delay_of t) (returns_of s a)
  pub turns : (i : ℕ) → Unturned s r i
  pub ticked : Ticked t s r
  pub channel : r.channel ≡ s.channel

pub data Does (t : Tree) (s : State) : Call → Answer → State → Type 0 where
  admits : {b : ℕ} {r : State} → Admission t s b r → Does t s (offer b) admitted r
  declines : {b n : ℕ} → Refuses t s b n → Does t s (offer b) (refused n) s
  serves : {b : ℕ} {r : State} → Service t s b r → Does t s slot (served b) r
  idles : {r : State} → Idle t s r → Does t s slot idle r
  halts : {n : ℕ} → n ≡ 10 → Does t s slot (refused n) s

only_either : (a b : ℕ) → only a b ≡ only b a
only_either a b = elim (ℕ_discrete a b) [
  | yes e ↦ only_same a b e ∙ sym (only_same b a (sym e))
  | no d ↦ only_other a b d ∙ sym (only_other b a (λ e. d (sym e)))
]

abbrev answer_of : Outcome → Answer
answer_of o = o.answer

abbrev state_of : Outcome → State
state_of o = o.state

module _ (t : Tree) (s : State) (k : keeps t s ≡ true) where
  admission : (b : ℕ) → (offered t s b).answer ≡ admitted → b < t.accs → Admission t s b (offered t s b).state
  admission b e l = record {
    acc = l;
    waiting = λ a. elim (ℕ_discrete a b) [
      | yes q ↦ subst (λ x. waiting_of (offered t s b).state x ≡ waiting_of s x + only x b) (sym q)
          (omega (arith, only_same b b refl, offer_admits t s b k e))
      | no d ↦ omega (arith, only_other a b d, (offer_others t s b).waiting a d)
    ];
    admitted = λ a. elim (ℕ_discrete a b) [
      | yes q ↦ subst (λ x. admitted_of (offered t s b).state x ≡ admitted_of s x + only x b) (sym q)
          (omega (arith, only_same b b refl, offer_admits t s b k e))
      | no d ↦ omega (arith, only_other a b d, (offer_others t s b).admitted a d)
    ];
    returns = λ a. ap (λ l. get_or l a 0) (offer_others t s b).returning;
    turns = λ i. record {
      last = ap (λ l. get_or l i 0) (offer_others t s b).last;
      allowance = ap (λ l. get_or l i 0) (offer_others t s b).allowance;
    };
    slot = (offer_others t s b).slot;
    channel = (offer_others t s b).channel;
  }

  offer_does : (b : ℕ) → Does t s (offer b) (offered t s b).answer (offered t s b).state
  offer_does b = go (offered t s b) (offer_cases t s b) refl
    where
      go : (o : Outcome) → Offered t s b o → offered t s b ≡ o → Does t s (offer b) o.answer o.state
      go o (Offered.refuses w) e = declines w
      go o (Offered.admits l h m) e =
          subst (Does t s (offer b) admitted) (ap state_of e) (admits (admission b (ap answer_of e) l))

  -- the returns of a slot that serves: one more of the accelerator chosen, and each one slot older
  served_returns : 0 < inside 4 t (waiting_of s) 0 → (a : ℕ)
      → returns_of (tick t (serve t s)) a ≡ older (delay_of t) (returns_of s a + only a (chosen t s))
  unfolding tick
  served_returns w a =
      let S = sound_of t s k in
      let K = kept_of t s k in
      older_at (delay_of t) (serve t s).returning a
      ∙ ap (older (delay_of t)) (take_returns t S s K (chosen t s) (after 4 t s 0) (choice t S s K w) a
      ∙ ap (λ n. returns_of s a + n) (only_either (chosen t s) a))

  idle_returns : (a : ℕ) → returns_of (tick t s) a ≡ older (delay_of t) (returns_of s a)
  unfolding tick
  idle_returns a = older_at (delay_of t) s.returning a

  serving : (b : ℕ) → (slotted t s).answer ≡ served b
      → ((a : ℕ) → returns_of (slotted t s).state a ≡ older (delay_of t) (returns_of s a + only a b))
      → Service t s b (slotted t s).state
  serving b e h = record {
    acc = v.acc;
    waited = v.waited;
    waiting = λ a. elim (ℕ_discrete a b) [
      | yes q ↦ subst (λ x. waiting_of s x ≡ waiting_of (slotted t s).state x + only x b) (sym q)
          (omega (arith, only_same b b refl, v.own))
      | no d ↦ omega (arith, only_other a b d, v.others a d)
    ];
    returns = h;
    on = slot_on_path t s k b e;
    off = slot_off_path t s k b e;
    ticked = slot_windows t s (λ n f. clash cc);
    channel = step_channel t s slot;
  }
    where
      v : Served t s b (slotted t s).state
      v = slot_serves t s k b e

  idling : (slotted t s).answer ≡ idle → ((a : ℕ) → waiting_of s a ≡ 0)
      → ((a : ℕ) → returns_of (slotted t s).state a ≡ older (delay_of t) (returns_of s a)) → Idle t s (slotted t s).state
  idling e z g =
      let h = slot_idle_turns t s e in
      record {
        none = z;
        waiting = λ a. ap (λ l. get_or l a 0) h.0;
        returns = g;
        turns = λ i. record { last = ap (λ l. get_or l i 0) h.1; allowance = ap (λ l. get_or l i 0) h.2 };
        ticked = slot_windows t s (λ n f. clash cc);
        channel = step_channel t s slot;
      }

  slot_does : Does t s slot (slotted t s).answer (slotted t s).state
  slot_does = go (slotted t s) (slot_cases t s) refl
    where
      go : (o : Outcome) → Slotted t s o → slotted t s ≡ o → Does t s slot o.answer o.state
      go o (Slotted.stops w) e = halts (slot_only_last t s k _ (ap answer_of e)).0
      go o (Slotted.idles _ d z) e =
          subst (Does t s slot idle) (ap state_of e)
          (idles (idling (ap answer_of e) z (λ a. ap (λ x. returns_of x a) (ap state_of e) ∙ idle_returns a)))
      go o (Slotted.serves _ d w) e =
          subst (Does t s slot (served (chosen t s))) (ap state_of e)
          (serves (serving (chosen t s) (ap answer_of e) (λ a. ap (λ x. returns_of x a) (ap state_of e) ∙ served_returns w a)))

  does : (c : Call) → Does t s c (step t s c).answer (step t s c).state
  does (offer b) = offer_does b
  does slot = slot_does

-- no call changes the channel
pub does_channel : {t : Tree} {s m : State} {c : Call} {x : Answer} → Does t s c x m → m.channel ≡ s.channel
does_channel (admits A) = A.channel
does_channel (declines w) = refl
does_channel (serves v) = v.channel
does_channel (idles i) = i.channel
does_channel (halts e) = refl

pub data Leads (t : Tree) : State → List Event → State → Type 0 where
  stay : {s : State} → keeps t s ≡ true → Leads t s [] s
  go : {s m r : State} {e : Event} {es : List Event} → keeps t s ≡ true → Does t s e.call e.answer m → Leads t m es r
      → Leads t s (e ∷ es) r

pub calls_lead : (t : Tree) (s : State) (cs : List Call) → keeps t s ≡ true
    → Leads t s (events_of t s cs) (state_after t s cs)
unfolding events_of state_after
calls_lead t s [] k = stay k
calls_lead t s (c ∷ cs) k = go k (does t s k c) (calls_lead t (step t s c).state cs (step_keeps t s c k))

pub leads_start : {t : Tree} {s r : State} {es : List Event} → Leads t s es r → keeps t s ≡ true
leads_start (stay k) = k
leads_start (go k d w) = k

-- the slot count is the starting one and the unrefused slots
pub does_slot : {t : Tree} {s m : State} {c : Call} {x : Answer} → Does t s c x m → m.slot ≡ s.slot + slot_counts x c
does_slot (admits A) = omega (arith, A.slot)
does_slot (declines w) = omega arith
does_slot (serves v) = v.ticked.slot
does_slot (idles i) = i.ticked.slot
does_slot (halts e) = omega arith

pub leads_slot : {t : Tree} {s r : State} {es : List Event} → Leads t s es r → r.slot ≡ s.slot + slots_in es
unfolding slots_in
leads_slot (stay k) = omega arith
leads_slot (go k d w) = omega (arith, does_slot d, leads_slot w)

pub leads_end : {t : Tree} {s r : State} {es : List Event} → Leads t s es r → keeps t r ≡ true
leads_end (stay k) = k
leads_end (go k d w) = leads_end w

pub leads_channel : {t : Tree} {s r : State} {es : List Event} → Leads t s es r → r.channel ≡ s.channel
leads_channel (stay k) = refl
leads_channel (go k d w) = leads_channel w ∙ does_channel d

-- two lists of events lead there, one after the other
pub record Parts (t : Tree) (s : State) (front back : List Event) (r : State) : Type 0 where
  pub state : State
  pub before : Leads t s front state
  pub after : Leads t state back r

pub parts : {t : Tree} {s r : State} (front back : List Event) → Leads t s (front ++ back) r → Parts t s front back r
parts [] back w = record { state = _; before = stay (leads_start w); after = w }
parts (e ∷ front) back (go k d w) =
    let h = parts front back w in
    record { state = h.state; before = go k d h.before; after = h.after }
