-- The laws of the machine. Each follows from what the call does, by its cases.
use Prim.Native.Nat.{ℕ, ◌+◌, ◌%◌, ◌≤◌, ◌<◌, min}
use mathlib.Core.Bool.{true, false, not}
use mathlib.Core.Logic.{◌↔◌}
use mathlib.Core.Path.{◌≡◌, refl, sym, ◌∙◌, ap, ap₂, subst}
use native.Mathlib.Decide.{dec_lt}
use native.Mathlib.Omega.{arith}
use lib.ListN.{get_or}
use lib.Seq.{get_or-set_other}
use lib.Dec.{leb, eqb}
use borrow.Author.Tests.{eq-eqb, ne_eqb, le-leb, lt-leb}
use Rattle.model.specs.declared.Tree.{Tree}
use Rattle.model.specs.declared.State.{State}
use Rattle.model.specs.declared.Channel.{Channel}
use Rattle.folds.specs.Fold.{pick}
use Rattle.model.specs.Tree.{granularity_of, job_of, phi_of, limit_of, budget_of, window_of, path, waiting_of, outstanding_of, admitted_of, last_of, allowance_of}
use Rattle.model.specs.Beneath.{waits_under}
use Rattle.rules.specs.Rules.{tree_keeps, keeps}
use Rattle.folds.proofs.Folds.{joined, picked, passed, clash}
use Rattle.rules.proofs.Sound.{Sound, sound, Kept, keeping, sound_of, kept_of, way_of, keeps_of}
use Rattle.rules.proofs.Beneath.{On, only, only_same, only_other, root_zero}
use Rattle.turns.specs.Turns.{turn_port, after}
use Rattle.machine.specs.Machine.{Answer, admitted, served, idle, refused, Outcome, fresh_state, admit, limits_answer, verdict_of, offered, opens, last_slot, tick, chosen, take_one, slotted}
use Rattle.machine.specs.Calls.{Call, offer, slot, step}
use Rattle.turns.proofs.Descent.{Turned, Unturned, Choice, choice}
use Rattle.machine.proofs.Cases.{Offered, refuses, admits, offer_cases, Stops, stopped, Slotted, stops, idles, serves, slot_cases}
use Rattle.machine.proofs.Keeps.{zeros, fresh_kept, fresh_way, tick_kept, tick_way, admit_waiting, admit_admitted, admit_kept, admit_way, take_waiting, take_kept}
use Rattle.machine.proofs.Windows.{window_opens}

pub fresh_keeps : (t : Tree) (c : Channel) → tree_keeps t ≡ true → keeps t (fresh_state t c) ≡ true
fresh_keeps t c e = joined (tree_keeps t) _ e (keeping t (fresh_state t c) (fresh_kept t (sound t e) c) (fresh_way t (sound t e) c))

pub allowance_bounded : (t : Tree) (s : State) → keeps t s ≡ true → (j : ℕ) → j < t.ints
    → allowance_of s j ≤ min (granularity_of t j) (waits_under t s j (last_of s j))
allowance_bounded t s e j l = omega (arith, (kept_of t s e).allowance j l, (kept_of t s e).allowance_waits j l)

module _ (t : Tree) (s : State) (a : ℕ) where
  pub offer_keeps : keeps t s ≡ true → keeps t (offered t s a).state ≡ true
  offer_keeps e = go (offered t s a) (offer_cases t s a)
    where
      go : (o : Outcome) → Offered t s a o → keeps t o.state ≡ true
      go o (refuses w) = e
      go o (admits l h m) =
          let S = sound_of t s e in
          let K = kept_of t s e in
          keeps_of t s (admit s a) e (admit_kept t S s K a l h m) (admit_way t S s K a l (way_of t s e))

  pub offer_refused : (n : ℕ) → (offered t s a).answer ≡ refused n → (offered t s a).state ≡ s
  offer_refused n = go (offered t s a) (offer_cases t s a)
    where
      go : (o : Outcome) → Offered t s a o → o.answer ≡ refused n → o.state ≡ s
      go o (refuses w) e = refl
      go o (admits l h m) e = clash cc

  -- an admission counts one more waiting and one more admitted, for its own accelerator
  pub offer_admits : keeps t s ≡ true → (offered t s a).answer ≡ admitted
      → (waiting_of (offered t s a).state a ≡ waiting_of s a + 1)
      × (admitted_of (offered t s a).state a ≡ admitted_of s a + 1)
  offer_admits k = go (offered t s a) (offer_cases t s a)
    where
      go : (o : Outcome) → Offered t s a o → o.answer ≡ admitted
          → (waiting_of o.state a ≡ waiting_of s a + 1) × (admitted_of o.state a ≡ admitted_of s a + 1)
      go o (refuses w) e = clash cc
      go o (admits l h m) e =
          let S = sound_of t s k in
          let K = kept_of t s k in (
            omega (arith, admit_waiting t S s K a l a, only_same a a refl),
            omega (arith, admit_admitted t S s K a l a, only_same a a refl),
          )

-- what an offer leaves as it was
pub record Others (s r : State) (a : ℕ) : Type 0 where
  pub waiting : (b : ℕ) → (b ≡ a → ⊥) → waiting_of r b ≡ waiting_of s b
  pub admitted : (b : ℕ) → (b ≡ a → ⊥) → admitted_of r b ≡ admitted_of s b
  pub returning : r.returning ≡ s.returning
  pub last : r.last ≡ s.last
  pub allowance : r.allowance ≡ s.allowance
  pub slot : r.slot ≡ s.slot
  pub channel : r.channel ≡ s.channel

pub offer_others : (t : Tree) (s : State) (a : ℕ) → Others s (offered t s a).state a
offer_others t s a = go (offered t s a) (offer_cases t s a)
  where
    go : (o : Outcome) → Offered t s a o → Others s o.state a
    go o (refuses w) = record {
      waiting = λ b d. refl;
      admitted = λ b d. refl;
      returning = refl;
      last = refl;
      allowance = refl;
      slot = refl;
      channel = refl;
    }
    go o (admits l h m) = record {
      waiting = λ b d. get_or-set_other s.waiting a b _ 0 d;
      admitted = λ b d. get_or-set_other s.admitted a b _ 0 d;
      returning = refl;
      last = refl;
      allowance = refl;
      slot = refl;
      channel = refl;
    }

-- an offer's answer, once the state passes
pub offer_verdict : (t : Tree) (s : State) (a : ℕ) → keeps t s ≡ true → (offered t s a).answer ≡ verdict_of t s a
unfolding offered
offer_verdict t s a k = ap (λ (o : Outcome). o.answer) (passed _ _ _ (ap not k))

-- an accelerator is in the tree exactly if its phi is above 0
known : (t : Tree) → Sound t → (a : ℕ) → leb t.accs a ≡ leb (phi_of t a) 0
known t S a = elim (dec_lt a t.accs) [
  | yes l ↦ lt-leb t.accs a l ∙ sym (lt-leb (phi_of t a) 0 (S.phi a l).0)
  | no d ↦
      let e : t.accs ≤ a = omega arith in
      le-leb t.accs a e ∙ sym (le-leb (phi_of t a) 0 (omega (arith, S.no_phi a e)))
]

-- by its tests
abbrev verdict : ℕ → ℕ → ℕ → ℕ → ℕ → Answer
verdict phi job outstanding budget count =
    pick (leb phi 0) (refused 7)
    (pick (eqb job 0) (refused 14) (limits_answer (pick (eqb job 0) 0 phi) outstanding budget count))

-- the answer depends on the accelerator's own limits and record alone, in any two configurations and on any two channels
pub offer_own : (t u : Tree) (s r : State) (a : ℕ) → keeps t s ≡ true → keeps u r ≡ true
    → phi_of t a ≡ phi_of u a → job_of t s.channel a ≡ job_of u r.channel a → budget_of t a ≡ budget_of u a
    → outstanding_of s a ≡ outstanding_of r a → admitted_of s a ≡ admitted_of r a
    → (offered t s a).answer ≡ (offered u r a).answer
offer_own t u s r a k l e j f o n =
    tests t s k
    ∙ ap₂ (λ p q. verdict p q (outstanding_of s a) (budget_of t a) (admitted_of s a)) e j
    ∙ ap₂ (λ p q. verdict (phi_of u a) (job_of u r.channel a) p q (admitted_of s a)) o f
    ∙ ap (verdict (phi_of u a) (job_of u r.channel a) (outstanding_of r a) (budget_of u a)) n
    ∙ sym (tests u r l)
  where
    tests : (t : Tree) (s : State) → keeps t s ≡ true
        → (offered t s a).answer ≡ verdict (phi_of t a) (job_of t s.channel a) (outstanding_of s a) (budget_of t a) (admitted_of s a)
    tests t s k =
        offer_verdict t s a k
        ∙ ap (λ c. pick c (refused 7) (pick (eqb (job_of t s.channel a) 0) (refused 14) (limits_answer (limit_of t s.channel a) (outstanding_of s a) (budget_of t a) (admitted_of s a))))
        (known t (sound_of t s k) a)

-- a slot that served a: one of a's that waited waits no more, and nobody else's
pub record Served (t : Tree) (s : State) (a : ℕ) (r : State) : Type 0 where
  pub acc : a < t.accs
  pub waited : 0 < waiting_of s a
  pub own : waiting_of r a + 1 ≡ waiting_of s a
  pub others : (b : ℕ) → (b ≡ a → ⊥) → waiting_of r b ≡ waiting_of s b

-- the slot count rises by one, and where that opens a window all admitted counts become 0
pub record Ticked (t : Tree) (s r : State) : Type 0 where
  pub slot : r.slot ≡ s.slot + 1
  pub opened : (window_of t (s.slot + 1) ≡ window_of t s.slot → ⊥) → (a : ℕ) → admitted_of r a ≡ 0
  pub within : window_of t (s.slot + 1) ≡ window_of t s.slot → r.admitted ≡ s.admitted

ticked : (t : Tree) (s q : State) → q.slot ≡ s.slot → q.admitted ≡ s.admitted → Ticked t s (tick t q)
unfolding tick
ticked t s q e f = record {
  slot = ap (λ n. n + 1) e;
  opened = λ d a. ap (λ m. get_or m a 0) (picked _ _ _ (subst (λ n. opens t n ≡ true) (sym e) (ap not (ne_eqb _ _ d))))
      ∙ zeros 32 a;
  within = λ w. passed _ _ _ (subst (λ n. opens t n ≡ false) (sym e) (ap not (eq-eqb _ _ w))) ∙ f;
}

module _ (t : Tree) (s : State) where
  pub slot_keeps : keeps t s ≡ true → keeps t (slotted t s).state ≡ true
  slot_keeps e = go (slotted t s) (slot_cases t s)
    where
      S : Sound t
      S = sound_of t s e

      K : Kept t s
      K = kept_of t s e

      go : (o : Outcome) → Slotted t s o → keeps t o.state ≡ true
      go o (stops w) = e
      go o (idles k d z) = keeps_of t s (tick t s) e (tick_kept t S s K) (tick_way t S s)
      go o (serves k d w) =
          keeps_of t s _ e (tick_kept t S _ (take_kept t S s K _ _ (choice t S s K w) (way_of t s e))) (tick_way t S _)

  pub slot_refused : (n : ℕ) → (slotted t s).answer ≡ refused n → (slotted t s).state ≡ s
  slot_refused n = go (slotted t s) (slot_cases t s)
    where
      go : (o : Outcome) → Slotted t s o → o.answer ≡ refused n → o.state ≡ s
      go o (stops w) e = refl
      go o (idles k d z) e = clash cc
      go o (serves k d w) e = clash cc

  pub slot_only_last : keeps t s ≡ true → (n : ℕ) → (slotted t s).answer ≡ refused n → (n ≡ 10) × (s.slot ≡ last_slot)
  slot_only_last k n = go (slotted t s) (slot_cases t s)
    where
      why : {m : ℕ} → Stops t s m → (m ≡ 10) × (s.slot ≡ last_slot)
      why (Stops.broken f) = clash cc
      why (stopped h) = (refl, h)

      go : (o : Outcome) → Slotted t s o → o.answer ≡ refused n → (n ≡ 10) × (s.slot ≡ last_slot)
      go o (stops {n = m} w) e = let q : m ≡ n = cc in subst (λ x. (x ≡ 10) × (s.slot ≡ last_slot)) q (why w)
      go o (idles k d z) e = clash cc
      go o (serves k d w) e = clash cc

  -- a slot is idle exactly if nothing waits
  pub slot_idle : keeps t s ≡ true → (s.slot ≡ last_slot → ⊥)
      → ((slotted t s).answer ≡ idle) ↔ ((a : ℕ) → a < t.accs → waiting_of s a ≡ 0)
  slot_idle k d = go (slotted t s) (slot_cases t s)
    where
      stay : {n : ℕ} → Stops t s n → ⊥
      stay (Stops.broken f) = clash cc
      stay (stopped h) = d h

      go : (o : Outcome) → Slotted t s o → (o.answer ≡ idle) ↔ ((a : ℕ) → a < t.accs → waiting_of s a ≡ 0)
      go o (stops w) = absurd (stay w)
      go o (idles k d z) = (λ e a l. z a, λ h. refl)
      go o (serves k d w) = (
        λ e. clash cc,
        λ h. absurd (omega (arith, (root_zero t (sound_of t s k) (waiting_of s)).1 h)),
      )

  -- a slot that serves a: the choice comes to a, one is taken off, the slot count rises
  record Service (a : ℕ) (r : State) : Type 0 where
    turns : State
    choice : Choice t s a turns
    state : r ≡ tick t (take_one turns a)

  service : keeps t s ≡ true → (a : ℕ) → (slotted t s).answer ≡ served a → Service a (slotted t s).state
  service e a = go (slotted t s) (slot_cases t s)
    where
      go : (o : Outcome) → Slotted t s o → o.answer ≡ served a → Service a o.state
      go o (stops w) q = clash cc
      go o (idles k d z) q = clash cc
      go o (serves k d w) q =
          let c : chosen t s ≡ a = cc in
          subst (λ x. Service x (tick t (take_one (after 4 t s 0) (chosen t s)))) c
          (record { turns = after 4 t s 0; choice = choice t (sound_of t s e) s (kept_of t s e) w; state = refl })

  pub slot_serves : keeps t s ≡ true → (a : ℕ) → (slotted t s).answer ≡ served a → Served t s a (slotted t s).state
  unfolding tick
  slot_serves e a q = record {
    acc = v.choice.acc;
    waited = v.choice.waits;
    own = omega (arith, left a, only_same a a refl);
    others = λ b d. omega (arith, left b, only_other a b (λ x. d (sym x)));
  }
    where
      v : Service a (slotted t s).state
      v = service e a q

      left : (b : ℕ) → waiting_of s b ≡ waiting_of (slotted t s).state b + only a b
      left b = take_waiting t (sound_of t s e) s (kept_of t s e) a v.turns v.choice b
          ∙ ap (λ x. waiting_of x b + only a b) (sym v.state)

  -- the turns of the path are taken, and no other turn changes
  pub slot_on_path : keeps t s ≡ true → (a : ℕ) → (slotted t s).answer ≡ served a → (j p : ℕ) → On j p (path t a)
      → Turned t s (slotted t s).state j p
  unfolding tick
  slot_on_path e a q j p o =
      let v = service e a q in
      let u = v.choice.on j p o in
      record {
        turn = u.turn;
        port = u.port;
        last = ap (λ x. last_of x j) v.state ∙ u.last;
        allowance = ap (λ x. allowance_of x j) v.state ∙ u.allowance;
      }

  pub slot_off_path : keeps t s ≡ true → (a : ℕ) → (slotted t s).answer ≡ served a → (j : ℕ)
      → ((p : ℕ) → On j p (path t a) → ⊥) → Unturned s (slotted t s).state j
  unfolding tick
  slot_off_path e a q j d =
      let v = service e a q in
      let u = v.choice.off j (d (turn_port t s j)) in
      record {
        last = ap (λ x. last_of x j) v.state ∙ u.last;
        allowance = ap (λ x. allowance_of x j) v.state ∙ u.allowance;
      }

  -- an idle slot changes no turn and no queue
  pub slot_idle_turns : (slotted t s).answer ≡ idle
      → ((slotted t s).state.waiting ≡ s.waiting) × ((slotted t s).state.last ≡ s.last)
      × ((slotted t s).state.allowance ≡ s.allowance)
  unfolding tick
  slot_idle_turns = go (slotted t s) (slot_cases t s)
    where
      go : (o : Outcome) → Slotted t s o → o.answer ≡ idle
          → (o.state.waiting ≡ s.waiting) × (o.state.last ≡ s.last) × (o.state.allowance ≡ s.allowance)
      go o (stops w) q = clash cc
      go o (idles k d z) q = (refl, refl, refl)
      go o (serves k d w) q = clash cc

  pub slot_windows : ((n : ℕ) → (slotted t s).answer ≡ refused n → ⊥) → Ticked t s (slotted t s).state
  slot_windows = go (slotted t s) (slot_cases t s)
    where
      go : (o : Outcome) → Slotted t s o → ((n : ℕ) → o.answer ≡ refused n → ⊥) → Ticked t s o.state
      go o (stops w) f = absurd (f _ refl)
      go o (idles k d z) f = ticked t s s refl refl
      go o (serves k d w) f =
          let c = choice t (sound_of t s k) s (kept_of t s k) w in
          ticked t s _ c.frame.slot c.frame.admitted

-- no call changes the channel
pub step_channel : (t : Tree) (s : State) (c : Call) → (step t s c).state.channel ≡ s.channel
unfolding tick
step_channel t s (offer a) = (offer_others t s a).channel
step_channel t s slot = go (slotted t s) (slot_cases t s)
  where
    go : (o : Outcome) → Slotted t s o → o.state.channel ≡ s.channel
    go o (stops w) = refl
    go o (idles k d z) = refl
    go o (serves k d w) = (choice t (sound_of t s k) s (kept_of t s k) w).frame.channel

-- the next slot opens a window exactly if its number is a multiple of the window
pub slot_opens : (t : Tree) → tree_keeps t ≡ true → (n : ℕ)
    → (window_of t (n + 1) ≡ window_of t n → ⊥) ↔ ((n + 1) % t.bus.window ≡ 0)
slot_opens t e n = window_opens t.bus.window n (sound t e).window
