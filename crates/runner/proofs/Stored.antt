-- The arrays of a run are those of the state that the definitions give: after an accelerator's offers, by one offer at a time
-- and the laws of the kept counts; and after a slot, by the choice from these counts.
use Prim.Native.Nat.{ℕ, zero, suc, ◌+◌, ◌-◌, ◌≤◌, ◌<◌}
use mathlib.Core.Bool.{Bool, true, false}
use mathlib.Core.List.{List}
use mathlib.Core.Path.{◌≡◌, refl, sym, ◌∙◌, ap, ap₂, subst, subst₂}
use native.Mathlib.Decide.{dec_lt, ℕ_discrete}
use native.Mathlib.Omega.{arith}
use lib.Dec.{eqb}
use lib.ListN.{get_or, length, set, length-set}
use borrow.Author.Tests.{eq-eqb, ne_eqb, eqb-true}
use Rattle.model.specs.declared.Tree.{Tree}
use Rattle.model.specs.declared.State.{State}
use Rattle.model.specs.declared.Channel.{Channel}
use Rattle.folds.specs.Fold.{pick}
use Rattle.model.specs.Tree.{job_of, phi_of, budget_of, waiting_of, outstanding_of, admitted_of}
use Rattle.model.specs.Beneath.{inside}
use Rattle.rules.specs.Rules.{keeps}
use Rattle.folds.proofs.Folds.{picked, passed, at_all, all_at}
use Rattle.rules.proofs.Sound.{Sound, Kept, sound_of, kept_of, limit_none, limit_phi, limit_most}
use Rattle.rules.proofs.Beneath.{root_zero}
use Rattle.turns.specs.Turns.{who, after}
use Rattle.machine.specs.Machine.{admitted, refused, admit, limits_answer, offered, none_waits, serve}
use Rattle.machine.proofs.Cases.{zero_all}
use Rattle.machine.proofs.Laws.{offer_keeps, offer_verdict}
use Rattle.machine.proofs.Steps.{limits_8, verdict_14, verdict_known}
use Rattle.turns.proofs.Descent.{Choice as Choice-of, choice}
use Rattle.machine.proofs.Keeps.{stored, admit_waiting, take_waiting}
use Rattle.counts.specs.declared.Table.{Table}
use Rattle.counts.specs.Choice.{Choice}
use Rattle.counts.proofs.Entries.{TableOf, LimitsOf}
use Rattle.counts.proofs.Choosing.{Matches, Chosen, chooses, passes}
use Rattle.counts.proofs.Counted.{Counted, counted_more, none_live, weight_small}
use Rattle.runner.specs.Offers.{Offering, held_of, release, offering, offer_held, offer_all, offer_each}
use Rattle.admit.specs.declared.Arrays.{Arrays}
use Rattle.admit.specs.Admitting.{answer_on, offered_on, offers_for, offers_of, offers_in, offers_before}
use Rattle.admit.proofs.Offers.{on_admitted_lem, offers_known, offers_unknown, in_passes}
use Rattle.runner.specs.Arrays.{Slot, slot_on, chosen_on, with_ports, serve_on}
use Rattle.runner.proofs.Settled.{Idles, each_none}
use Rattle.runner.proofs.First.{admits_one_lem, idles_then, first_past}
use Rattle.runner.proofs.Held.{alike, unlike}
use Rattle.runner.proofs.Service.{served_from, byte_from}

-- d are the arrays of state s of channel c, which keeps its rules, and has what waits under each port there and the live ports
pub record Stored (t : Tree) (c : Channel) (s : State) (d : Arrays) : Type 0 where
  pub rules : keeps t s ≡ true
  pub channel : s.channel ≡ c
  pub size : length d.outstanding ≡ 32
  pub outstanding : (a : ℕ) → a < t.accs → get_or d.outstanding a 0 ≡ outstanding_of s a
  pub admitted : d.admitted ≡ s.admitted
  pub last : d.ports.last ≡ s.last
  pub allowance : d.ports.allowance ≡ s.allowance
  pub counts : Counted t (waiting_of s) d.ports.under d.ports.live

-- d are the arrays of the state and the held counts of x
pub record StoredOffering (t : Tree) (c : Channel) (x : Offering) (d : Arrays) : Type 0 where
  pub stored : Stored t c x.state d
  pub held : d.held ≡ x.held

-- the arrays' offers are those of the machine
module _ (t : Tree) (c : Channel) (g : Table) (W : TableOf t g) (L : LimitsOf t c g) where
  module _ (a : ℕ) (la : a < t.accs) where
    module _ (x : Offering) (d : Arrays) (O : StoredOffering t c x d) where
      S : Sound t
      S = sound_of t x.state O.stored.rules

      K : Kept t x.state
      K = kept_of t x.state O.stored.rules

      known : a < 32
      known = omega (arith, S.most_accs)

      counts : get_or d.admitted a 0 ≡ admitted_of x.state a
      counts = ap (λ (l : List ℕ). get_or l a 0) O.stored.admitted

      job : job_of t x.state.channel a ≡ job_of t c a
      job = ap (λ (k : Channel). job_of t k a) O.stored.channel

      -- without a job on the channel both refuse, the arrays since they allow none outstanding
      none_answer : job_of t c a ≡ 0 → ((offered t x.state a).answer ≡ refused 14) × (answer_on g a d ≡ refused 8)
      none_answer z = (
        offer_verdict t x.state a O.stored.rules ∙ sym (verdict_14 t x.state a la (job ∙ z)),
        sym (limits_8 (get_or g.limit a 0) (get_or d.outstanding a 0) (get_or g.budget a 0) (get_or d.admitted a 0) (omega (arith, L a known, limit_none t c a z))),
      )

      -- else they answer the same
      same_answer : (job_of t c a ≡ 0 → ⊥) → answer_on g a d ≡ (offered t x.state a).answer
      same_answer z =
          ap₂ (λ (l m : ℕ). limits_answer l (get_or d.outstanding a 0) m (get_or d.admitted a 0)) (L a known ∙ limit_phi t c a z) (W.budget a known)
          ∙ ap₂ (λ (o m : ℕ). limits_answer (phi_of t a) o (budget_of t a) m) (O.stored.outstanding a la) counts
          ∙ verdict_known t x.state a la (λ e. z (sym job ∙ e)) ∙ sym (offer_verdict t x.state a O.stored.rules)

      next_offered : (job_of t c a ≡ 0 → ⊥) → answer_on g a d ≡ admitted
          → StoredOffering t c (offering (offered t x.state a).state (release x.held a)) (offered_on g a d)
      next_offered z e =
          let f = admits_one_lem t x.state a (sym (same_answer z) ∙ e) in
          let k : keeps t (admit x.state a) ≡ true = subst (λ (s : State). keeps t s ≡ true) f (offer_keeps t x.state a O.stored.rules) in
          subst₂ (λ (s : State) (b : Arrays). StoredOffering t c (offering s (release x.held a)) b) (sym f) (sym (on_admitted_lem g a d e))
          (record {
            stored = record {
              rules = k;
              channel = O.stored.channel;
              size = length-set d.outstanding a _ ∙ O.stored.size;
              outstanding = λ b lb. omega (
                arith,
                stored (λ new old n. new ≡ old + n) d.outstanding a (get_or d.outstanding a 0 + 1)
                    (omega (arith, O.stored.size, known)) refl (λ y. omega arith) b,
                O.stored.outstanding b lb,
                admit_waiting t S x.state K a la b,
              );
              admitted = ap (λ (l : List ℕ). set l a (get_or l a 0 + 1)) O.stored.admitted;
              last = O.stored.last;
              allowance = O.stored.allowance;
              counts = counted_more t S g W a la (waiting_of x.state) (waiting_of (admit x.state a))
                  (admit_waiting t S x.state K a la)
                  (weight_small t S (waiting_of (admit x.state a)) (λ i li. omega (arith, (kept_of t (admit x.state a) k).waiting i li, limit_most t x.state.channel i, S.phi i li)))
                  d.ports.under d.ports.live O.stored.counts;
            };
            held = ap (λ (l : List ℕ). set l a (get_or l a 0 - 1)) O.held;
          })

    for_offered : (k : ℕ) (x : Offering) (d : Arrays) → StoredOffering t c x d → StoredOffering t c (offer_held k t x a) (offers_for k g a d)
    unfolding offer_held offers_for
    for_offered zero x d O = O
    for_offered (suc k) x d O =
        let x₂ = offering (offered t x.state a).state (release x.held a) in
        elim (ℕ_discrete (job_of t c a) 0) [
          | yes z ↦ unlike (StoredOffering t c) _ _ _ x _ d 14 8 (none_answer x d O z).0 (none_answer x d O z).1 O
          | no z ↦ alike (StoredOffering t c) (offered t x.state a).answer (answer_on g a d) _ x _ d (same_answer x d O z)
              (λ e. for_offered k x₂ (offered_on g a d) (next_offered x d O z e)) O
        ]

    -- accelerator a has offered
    one_offered : (x : Offering) (d : Arrays) → StoredOffering t c x d → StoredOffering t c (offer_all t x a) (offers_of g a d)
    one_offered x d O =
        subst (StoredOffering t c (offer_all t x a)) (sym (offers_known g a d (known x d O)))
        (subst (λ (h : List ℕ). StoredOffering t c (offer_all t x a) (offers_for (get_or h a 0) g a d)) (sym O.held) (for_offered (held_of x.held a) x d O))

  -- the accelerators below n have offered: those of which f does not hold would have none admitted
  module _ (x : Offering) (d : Arrays) (O : StoredOffering t c x d) (f : ℕ → Bool)
      (idle : (a : ℕ) → a < t.accs → f a ≡ false → Idles t x.state x.held a) where
    next_below : (n : ℕ) → n < t.accs → (b : Bool) → f n ≡ b → StoredOffering t c (offer_each n t x) (offers_in g f n d)
        → StoredOffering t c (offer_all t (offer_each n t x) n) (pick b (offers_of g n (offers_in g f n d)) (offers_in g f n d))
    next_below n l true e B = one_offered n l (offer_each n t x) (offers_in g f n d) B
    next_below n l false e B =
        subst (λ (o : Offering). StoredOffering t c o (offers_in g f n d))
        (sym (each_none t x.state x.held O.stored.rules n (idle n l e))) B

    below_offered : (n : ℕ) → n ≤ t.accs → StoredOffering t c (offer_each n t x) (offers_in g f n d)
    unfolding offer_each offers_in
    below_offered zero z = O
    below_offered (suc n) z = next_below n (omega arith) (f n) refl (below_offered n (omega arith))

    all_offered : ((a : ℕ) → t.accs ≤ a → f a ≡ false) → StoredOffering t c (offer_each t.accs t x) (offers_in g f 32 d)
    all_offered past =
        subst (StoredOffering t c (offer_each t.accs t x))
        (sym (in_passes g f d t.accs 32 (sound_of t x.state O.stored.rules).most_accs (λ a l _. past a l)))
        (below_offered t.accs (omega arith))

  -- the offers before a slot: accelerator y first, or nobody where it is 255, and then those of which f holds
  module _ (x : Offering) (d : Arrays) (O : StoredOffering t c x d) (y : ℕ) (k : (y ≡ 255 → ⊥) → y < t.accs) (f : ℕ → Bool)
      (idle : (a : ℕ) → a < t.accs → f a ≡ false → (a ≡ y → ⊥) → Idles t x.state x.held a)
      (past : (a : ℕ) → t.accs ≤ a → f a ≡ false) where
    pub before_offered : StoredOffering t c (offer_each t.accs t x) (offers_before g y f d)
    before_offered = elim (ℕ_discrete y 255) [
      | yes e ↦
          subst (λ (b : Arrays). StoredOffering t c (offer_each t.accs t x) (offers_in g f 32 b)) (sym (offers_unknown g y d (omega arith)))
          (all_offered x d O f (λ a l q. idle a l q (λ i. omega (arith, (sound_of t x.state O.stored.rules).most_accs))) past)
      | no n ↦
          subst (λ (o : Offering). StoredOffering t c o (offers_before g y f d)) (first_past t x y O.stored.rules t.accs (k n))
          (all_offered (offer_all t x y) (offers_of g y d) (one_offered y (k n) x d O) f
          (λ a l q. idles_then t x y O.stored.rules a (idle a l q)) past)
    ]

-- nothing waits exactly if no port of the root is live
module _ (t : Tree) (s : State) (k : keeps t s ≡ true) (c v : List ℕ) (C : Counted t (waiting_of s) c v) where
  live_root : (get_or v 0 0 ≡ 0 → none_waits s ≡ true) × (none_waits s ≡ true → get_or v 0 0 ≡ 0)
  live_root =
      let S = sound_of t s k in
      let r = none_live t S (waiting_of s) c v C in (
        λ e. at_all 32 _ (λ a _. eq-eqb _ _ (zero_all t s (kept_of t s k) (r.0 e) a)),
        λ e. r.1 (λ a l. eqb-true _ _ (all_at 32 _ e a (omega (arith, S.most_accs)))),
      )

  some_live : (get_or v 0 0 ≡ 0 → ⊥) → none_waits s ≡ false
  some_live d = go (none_waits s) refl
    where
      go : (b : Bool) → none_waits s ≡ b → b ≡ false
      go true e = absurd (d (live_root.1 e))
      go false e = refl

  pub live_none : eqb (get_or v 0 0) 0 ≡ none_waits s
  live_none = elim (ℕ_discrete (get_or v 0 0) 0) [
    | yes e ↦ eq-eqb _ _ e ∙ sym (live_root.0 e)
    | no d ↦ ne_eqb _ _ d ∙ sym (some_live d)
  ]

  some_inside : (get_or v 0 0 ≡ 0 → ⊥) → 0 < inside 4 t (waiting_of s) 0
  some_inside d = elim (dec_lt 0 (inside 4 t (waiting_of s) 0)) [
    | yes h ↦ h
    | no f ↦ absurd (d ((none_live t S (waiting_of s) c v C).1 ((root_zero t S (waiting_of s)).0 (omega arith))))
  ]
    where
      S : Sound t
      S = sound_of t s k

-- the service on any arrays, by its tests
module _ (w : Table) (d : Arrays) where
  pub serve_none : get_or d.ports.live 0 0 ≡ 0 → slot_on 255 d ≡ serve_on w d
  unfolding serve_on
  serve_none e = sym (picked _ _ _ (eq-eqb _ _ e))

  pub serve_some : (get_or d.ports.live 0 0 ≡ 0 → ⊥) → (x : Choice) → x ≡ chosen_on w d → slot_on x.served (with_ports x.ports d) ≡ serve_on w d
  unfolding serve_on
  serve_some e x f = ap (λ (z : Choice). slot_on z.served (with_ports z.ports d)) f ∙ sym (passed _ _ _ (ne_eqb _ _ e))

-- x is what the slot comes to from state s and its arrays d
pub record StoredSlot (t : Tree) (s : State) (d : Arrays) (x : Slot) : Type 0 where
  pub byte : x.byte ≡ byte_from t s
  pub outstanding : x.arrays.outstanding ≡ d.outstanding
  pub admitted : x.arrays.admitted ≡ d.admitted
  pub held : x.arrays.held ≡ d.held
  pub last : x.arrays.ports.last ≡ (served_from t s).last
  pub allowance : x.arrays.ports.allowance ≡ (served_from t s).allowance
  pub counts : Counted t (waiting_of (served_from t s)) x.arrays.ports.under x.arrays.ports.live

module _ (t : Tree) (c : Channel) (g : Table) (W : TableOf t g) (s : State) (d : Arrays) (R : Stored t c s d) where
  served_none : get_or d.ports.live 0 0 ≡ 0 → StoredSlot t s d (slot_on 255 d)
  served_none e =
      let z = (live_root t s R.rules d.ports.under d.ports.live R.counts).0 e in
      let same : served_from t s ≡ s = picked _ _ _ z in
      record {
        byte = sym (picked _ _ _ z);
        outstanding = refl;
        admitted = refl;
        held = refl;
        last = R.last ∙ sym (ap (λ (x : State). x.last) same);
        allowance = R.allowance ∙ sym (ap (λ (x : State). x.allowance) same);
        counts = subst (λ (x : State). Counted t (waiting_of x) d.ports.under d.ports.live) (sym same) R.counts;
      }

  module _ (e : get_or d.ports.live 0 0 ≡ 0 → ⊥) where
    inner : 0 < inside 4 t (waiting_of s) 0
    inner = some_inside t s R.rules d.ports.under d.ports.live R.counts e

    turn : Choice-of t s (who 4 t s 0) (after 4 t s 0)
    turn = choice t (sound_of t s R.rules) s (kept_of t s R.rules) inner

    matches : Matches t s g d.ports
    matches = record { rules = R.rules; table = W; counts = R.counts; last = R.last; allowance = R.allowance }

    chosen : Chosen t s 4 0 (chosen_on g d)
    chosen = chooses t s g d.ports matches 4 0 (sound_of t s R.rules).some_ints inner

    served_one_lem : StoredSlot t s d (slot_on (chosen_on g d).served (with_ports (chosen_on g d).ports d))
    served_one_lem =
        let z = some_live t s R.rules d.ports.under d.ports.live R.counts e in
        let same : served_from t s ≡ serve t s = passed _ _ _ z in
        record {
          byte = chosen.served ∙ sym (passed _ _ _ z);
          outstanding = refl;
          admitted = refl;
          held = refl;
          last = chosen.last ∙ sym (ap (λ (x : State). x.last) same);
          allowance = chosen.allowance ∙ sym (ap (λ (x : State). x.allowance) same);
          counts = subst (λ (x : State). Counted t (waiting_of x) (chosen_on g d).ports.under (chosen_on g d).ports.live) (sym same)
              (passes t s g d.ports matches inner (waiting_of (serve t s))
              (take_waiting t (sound_of t s R.rules) s (kept_of t s R.rules) (who 4 t s 0) (after 4 t s 0) turn) turn.acc);
        }

  -- the service on the arrays of a state is that of the definition
  pub serves : StoredSlot t s d (serve_on g d)
  serves = elim (ℕ_discrete (get_or d.ports.live 0 0) 0) [
    | yes e ↦ subst (StoredSlot t s d) (serve_none g d e) (served_none e)
    | no e ↦ subst (StoredSlot t s d) (serve_some g d e (chosen_on g d) refl) (served_one_lem e)
  ]
