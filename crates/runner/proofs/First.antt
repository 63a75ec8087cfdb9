-- An accelerator that offers before its turn changes nothing in the end. The offers of two accelerators touch records of their own, so
-- they may be made in either order, and one that has offered all that it holds idles when its turn comes.
use Prim.Native.Nat.{ℕ, zero, suc, ◌+◌, ◌-◌, ◌≤◌, ◌<◌}
use mathlib.Core.Bool.{true}
use mathlib.Core.List.{List}
use mathlib.Core.Path.{◌≡◌, refl, sym, ◌∙◌, ap, ap₂, subst}
use native.Mathlib.Decide.{ℕ_discrete}
use native.Mathlib.Omega.{arith}
use lib.Count.{ones}
use lib.ListN.{get_or, set}
use lib.Seq.{get_or-set_other, set_comm}
use Rattle.folds.proofs.Folds.{clash}
use Rattle.model.specs.declared.Tree.{Tree}
use Rattle.model.specs.declared.State.{State}
use Rattle.model.specs.Tree.{job_of}
use Rattle.model.specs.Builders.{with_counts}
use Rattle.rules.specs.Rules.{keeps}
use Rattle.machine.specs.Machine.{Outcome, admitted, admit, offered}
use Rattle.machine.proofs.Cases.{Offered, refuses, admits, offer_cases}
use Rattle.machine.proofs.Laws.{offer_keeps, offer_own, offer_others}
use Rattle.runner.specs.Offers.{Offering, held_of, release, offering, offer_held, offer_all, offer_each}
use Rattle.runner.proofs.Held.{alike, held_kept, each_kept}
use Rattle.runner.proofs.Settled.{Idles, Leaves, idles_still, for_others, for_idles, for_none}

pub admits_one_lem : (t : Tree) (s : State) (a : ℕ) → (offered t s a).answer ≡ admitted → (offered t s a).state ≡ admit s a
admits_one_lem t s a = go (offered t s a) (offer_cases t s a)
  where
    go : (o : Outcome) → Offered t s a o → o.answer ≡ admitted → o.state ≡ admit s a
    go o (refuses w) e = clash cc
    go o (admits l h m) e = refl

-- two entries of a list, each stored by what it was
store_twice : (g : ℕ → ℕ) (l : List ℕ) (a b : ℕ) → (a ≡ b → ⊥)
    → set (set l a (g (get_or l a 0))) b (g (get_or (set l a (g (get_or l a 0))) b 0)) ≡ set (set l b (g (get_or l b 0))) a (g (get_or (set l b (g (get_or l b 0))) a 0))
store_twice g l a b d =
    ap (λ (n : ℕ). set (set l a (g (get_or l a 0))) b (g n)) (get_or-set_other l a b (g (get_or l a 0)) 0 (λ e. d (sym e)))
    ∙ set_comm l a b (g (get_or l a 0)) (g (get_or l b 0)) d
    ∙ sym (ap (λ (n : ℕ). set (set l b (g (get_or l b 0))) a (g n)) (get_or-set_other l b a (g (get_or l b 0)) 0 d))

admit_twice : (s : State) (a b : ℕ) → (a ≡ b → ⊥) → admit (admit s a) b ≡ admit (admit s b) a
admit_twice s a b d = ap₂ (with_counts s) (store_twice (λ n. n + 1) s.waiting a b d) (store_twice (λ n. n + 1) s.admitted a b d)

module _ (t : Tree) where
  -- once an offer of accelerator a is admitted
  abbrev step : Offering → ℕ → Offering
  step o a = offering (offered t o.state a).state (release o.held a)

  step_leaves : (o : Offering) (a b : ℕ) → (b ≡ a → ⊥) → Leaves o (step o a) b
  step_leaves o a b d =
      let N = offer_others t o.state a in
      record {
        outstanding = ap₂ (λ w (x : List ℕ). w + ones (get_or x b 0)) (N.waiting b d) N.returning;
        admitted = N.admitted b d;
        held = get_or-set_other o.held a b _ 0 d;
        channel = N.channel;
      }

  -- an accelerator whose record is left is answered the same
  same_answer : (o p : Offering) (a : ℕ) → keeps t o.state ≡ true → keeps t p.state ≡ true → Leaves o p a
      → (offered t p.state a).answer ≡ (offered t o.state a).answer
  same_answer o p a k l L = offer_own t t p.state o.state a l k refl (ap (λ c. job_of t c a) L.channel) refl L.outstanding L.admitted

  module _ (a b : ℕ) (d : a ≡ b → ⊥) where
    other : b ≡ a → ⊥
    other e = d (sym e)

    step_twice : (o : Offering) → keeps t o.state ≡ true → (offered t o.state a).answer ≡ admitted
        → (offered t o.state b).answer ≡ admitted → step (step o a) b ≡ step (step o b) a
    step_twice o k ea eb =
        let s = o.state in
        let fa = admits_one_lem t (step o b).state a (same_answer o (step o b) a k (offer_keeps t s b k) (step_leaves o b a d) ∙ ea) in
        let fb = admits_one_lem t (step o a).state b (same_answer o (step o a) b k (offer_keeps t s a k) (step_leaves o a b other) ∙ eb) in
        ap₂ offering
        (fb ∙ ap (λ (r : State). admit r b) (admits_one_lem t s a ea) ∙ admit_twice s a b d
        ∙ sym (fa ∙ ap (λ (r : State). admit r a) (admits_one_lem t s b eb)))
        (store_twice (λ n. n - 1) o.held a b d)

    -- an offer of a that is admitted may be made after those of b
    held_step : (k : ℕ) (o : Offering) → keeps t o.state ≡ true → (offered t o.state a).answer ≡ admitted
        → offer_held k t (step o a) b ≡ step (offer_held k t o b) a
    unfolding offer_held
    held_step zero o r e = refl
    held_step (suc k) o r e =
        let s = o.state in
        let q = same_answer o (step o a) b r (offer_keeps t s a r) (step_leaves o a b other) in
        alike (λ (u v : Offering). v ≡ step u a) (offered t s b).answer (offered t (step o a).state b).answer
        (offer_held k t (step o b) b) o (offer_held k t (step (step o a) b) b) (step o a) q
        (λ f. ap (λ (p : Offering). offer_held k t p b) (step_twice o r e (sym q ∙ f))
        ∙ held_step k (step o b) (offer_keeps t s b r) (same_answer o (step o b) a r (offer_keeps t s b r) (step_leaves o b a d) ∙ e))
        refl

    held_twice : (m k : ℕ) (o : Offering) → keeps t o.state ≡ true
        → offer_held m t (offer_held k t o b) a ≡ offer_held k t (offer_held m t o a) b
    unfolding offer_held
    held_twice zero k o r = refl
    held_twice (suc m) k o r =
        let p = offer_held k t o b in
        let q = same_answer o p a r (held_kept k t o b r) (for_others t k o b a d) in
        alike (λ (u v : Offering). v ≡ offer_held k t u b) (offered t o.state a).answer (offered t p.state a).answer
        (offer_held m t (step o a) a) o (offer_held m t (step p a) a) p q
        (λ f. ap (λ (i : Offering). offer_held m t i a) (sym (held_step k o r (sym q ∙ f))) ∙ held_twice m k (step o a) (offer_keeps t o.state a r))
        refl

    all_twice : (o : Offering) → keeps t o.state ≡ true → offer_all t (offer_all t o b) a ≡ offer_all t (offer_all t o a) b
    all_twice o r =
        let m : ℕ = held_of o.held a in
        let k : ℕ = held_of o.held b in
        ap (λ (n : ℕ). offer_held n t (offer_all t o b) a) (for_others t k o b a d).held ∙ held_twice m k o r
        ∙ sym (ap (λ (n : ℕ). offer_held n t (offer_all t o a) b) (for_others t m o a b other).held)

  -- accelerator y offers first
  module _ (o : Offering) (y : ℕ) (r : keeps t o.state ≡ true) where
    -- whoever would have had none admitted has none admitted then; and y has none
    pub idles_then : (a : ℕ) → ((a ≡ y → ⊥) → Idles t o.state o.held a) → Idles t (offer_all t o y).state (offer_all t o y).held a
    idles_then a f = elim (ℕ_discrete a y) [
      | yes e ↦ subst (λ b. Idles t (offer_all t o y).state (offer_all t o y).held b) (sym e) (for_idles t (held_of o.held y) o y refl)
      | no d ↦ idles_still t o (offer_all t o y) a r (held_kept (held_of o.held y) t o y r) (for_others t (held_of o.held y) o y a d) (f d)
    ]

    first_before : (n : ℕ) → n ≤ y → offer_each n t (offer_all t o y) ≡ offer_all t (offer_each n t o) y
    unfolding offer_each
    first_before zero l = refl
    first_before (suc n) l =
        ap (λ (i : Offering). offer_all t i n) (first_before n (omega arith)) ∙ all_twice n y (λ e. omega arith) (offer_each n t o) (each_kept n t o r)

    -- it has offered all when its turn comes
    twice_same : (i : Offering) → offer_all t (offer_all t i y) y ≡ offer_all t i y
    twice_same i = for_none t (held_of (offer_all t i y).held y) (offer_all t i y) y refl (for_idles t (held_of i.held y) i y refl)

    pub first_past : (n : ℕ) → y < n → offer_each n t (offer_all t o y) ≡ offer_each n t o
    unfolding offer_each
    first_past zero l = absurd (omega arith)
    first_past (suc n) l = elim (ℕ_discrete y n) [
      | yes e ↦
          ap (λ (i : Offering). offer_all t i n) (first_before n (omega arith))
          ∙ subst (λ m. offer_all t (offer_all t (offer_each m t o) y) m ≡ offer_all t (offer_each m t o) m) e (twice_same (offer_each y t o))
      | no d ↦ ap (λ (i : Offering). offer_all t i n) (first_past n (omega arith))
    ]
