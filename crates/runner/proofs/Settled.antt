-- Which accelerators would have a held transaction admitted. Each offers until one is refused, and an offer's answer depends
-- on its own accelerator's record alone: so one that idles goes on idling while others offer, and offers nothing.
use Prim.Native.Nat.{ℕ, zero, suc, ◌+◌, ◌≤◌, ◌<◌}
use mathlib.Core.Bool.{true}
use mathlib.Core.List.{List}
use mathlib.Core.Path.{◌≡◌, refl, sym, ◌∙◌, ap, ap₂, subst}
use native.Mathlib.Decide.{dec_lt, ℕ_discrete}
use native.Mathlib.Omega.{arith}
use lib.ListN.{get_or, length, get_or-eq_default}
use lib.Seq.{get_or-set_other}
use Rattle.model.specs.declared.Tree.{Tree}
use Rattle.model.specs.declared.State.{State}
use lib.Count.{ones}
use Rattle.model.specs.Tree.{job_of, outstanding_of, admitted_of}
use Rattle.rules.specs.Rules.{keeps}
use Rattle.machine.specs.Machine.{admitted, offered}
use Rattle.machine.proofs.Laws.{offer_own, offer_others}
use Rattle.runner.specs.Offers.{Offering, held_of, release, offering, offer_held, offer_all, offer_each}
use Rattle.runner.proofs.Held.{release_own, by_answer, either, held_kept, each_kept}

-- no transaction that accelerator a holds would be admitted
abbrev pub Idles : Tree → State → List ℕ → ℕ → Type 0
Idles t s h a = 0 < held_of h a → (offered t s a).answer ≡ admitted → ⊥

-- no accelerator but x would have a held transaction admitted
abbrev pub Settled : Tree → State → List ℕ → ℕ → Type 0
Settled t s h x = (a : ℕ) → a < t.accs → (a ≡ x → ⊥) → Idles t s h a

-- where a list has more than 0, it does not end before
not_past : (l : List ℕ) (i : ℕ) → 0 < get_or l i 0 → i < length l
not_past l i h = elim (dec_lt i (length l)) [ yes b ↦ b | no d ↦ absurd (omega (arith, get_or-eq_default l 0 {n = i} (omega arith))) ]

-- accelerator a has the same record and held count in p as in o
pub record Leaves (o p : Offering) (a : ℕ) : Type 0 where
  pub outstanding : outstanding_of p.state a ≡ outstanding_of o.state a
  pub admitted : admitted_of p.state a ≡ admitted_of o.state a
  pub held : held_of p.held a ≡ held_of o.held a
  pub channel : p.state.channel ≡ o.state.channel

module _ (t : Tree) where
  pub idles_still : (o p : Offering) (a : ℕ) → keeps t o.state ≡ true → keeps t p.state ≡ true → Leaves o p a
      → Idles t o.state o.held a → Idles t p.state p.held a
  idles_still o p a k l L e h f =
      e (omega (arith, L.held)) (offer_own t t o.state p.state a k l refl (ap (λ c. job_of t c a) (sym L.channel)) refl (sym L.outstanding) (sym L.admitted) ∙ f)

  -- the offers of a leave the record of any other
  pub for_others : (k : ℕ) (o : Offering) (a b : ℕ) → (b ≡ a → ⊥) → Leaves o (offer_held k t o a) b
  unfolding offer_held
  for_others zero o a b d = record { outstanding = refl; admitted = refl; held = refl; channel = refl }
  for_others (suc k) o a b d =
      let x = offered t o.state a in
      let L = for_others k (offering x.state (release o.held a)) a b d in
      let N = offer_others t o.state a in
      either (λ p. Leaves o p b) x.answer _ o
      (record {
        outstanding = L.outstanding ∙ ap₂ (λ w (x : List ℕ). w + ones (get_or x b 0)) (N.waiting b d) N.returning;
        admitted = L.admitted ∙ N.admitted b d;
        held = L.held ∙ get_or-set_other o.held a b _ 0 d;
        channel = L.channel ∙ N.channel;
      })
      (record { outstanding = refl; admitted = refl; held = refl; channel = refl })

  -- and after all of them it idles
  pub for_idles : (k : ℕ) (o : Offering) (a : ℕ) → held_of o.held a ≡ k → Idles t (offer_held k t o a).state (offer_held k t o a).held a
  unfolding offer_held
  for_idles zero o a e = λ h. absurd (omega arith)
  for_idles (suc k) o a e =
      let x = offered t o.state a in
      by_answer (λ (p : Offering). Idles t p.state p.held a) x.answer _ o
      (λ _. for_idles k (offering x.state (release o.held a)) a (omega (arith, release_own o.held a (not_past o.held a (omega arith)))))
      (λ d _. d)

  -- one that idles offers nothing
  pub for_none : (k : ℕ) (o : Offering) (a : ℕ) → held_of o.held a ≡ k → Idles t o.state o.held a → offer_held k t o a ≡ o
  unfolding offer_held
  for_none zero o a e i = refl
  for_none (suc k) o a e i =
      by_answer (λ (p : Offering). p ≡ o) (offered t o.state a).answer _ o (λ q. absurd (i (omega arith) q)) (λ _. refl)

  module _ (s : State) (h : List ℕ) (k : keeps t s ≡ true) where
    each_idles : (n : ℕ) → n ≤ t.accs → (a : ℕ) → a < n
        → Idles t (offer_each n t (offering s h)).state (offer_each n t (offering s h)).held a
    unfolding offer_each
    each_idles zero l a la = absurd (omega arith)
    each_idles (suc n) l a la =
        let o = offer_each n t (offering s h) in
        let ko = each_kept n t (offering s h) k in
        elim (ℕ_discrete a n) [
          | yes e ↦
              subst (λ b. Idles t (offer_all t o n).state (offer_all t o n).held b) (sym e) (for_idles (held_of o.held n) o n refl)
          | no d ↦
              idles_still o (offer_all t o n) a ko (held_kept (held_of o.held n) t o n ko) (for_others (held_of o.held n) o n a d)
              (each_idles n (omega arith) a (omega arith))
        ]

    -- the offers of those below leave the record of the next
    each_leaves : (n a : ℕ) → n ≤ a → Leaves (offering s h) (offer_each n t (offering s h)) a
    unfolding offer_each
    each_leaves zero a l = record { outstanding = refl; admitted = refl; held = refl; channel = refl }
    each_leaves (suc n) a l =
        let o = offer_each n t (offering s h) in
        let L = each_leaves n a (omega arith) in
        let M = for_others (held_of o.held n) o n a (λ e. omega arith) in
        record {
          outstanding = M.outstanding ∙ L.outstanding;
          admitted = M.admitted ∙ L.admitted;
          held = M.held ∙ L.held;
          channel = M.channel ∙ L.channel;
        }

    -- so one that idles offers nothing in its turn
    pub each_none : (n : ℕ) → Idles t s h n → offer_all t (offer_each n t (offering s h)) n ≡ offer_each n t (offering s h)
    each_none n i =
        let o = offer_each n t (offering s h) in
        for_none (held_of o.held n) o n refl
        (idles_still (offering s h) o n k (each_kept n t (offering s h) k) (each_leaves n n (omega arith)) i)

-- once each has offered, no held transaction would be admitted
pub settled_each : (t : Tree) (s : State) (h : List ℕ) → keeps t s ≡ true → (a : ℕ) → a < t.accs
    → Idles t (offer_each t.accs t (offering s h)).state (offer_each t.accs t (offering s h)).held a
settled_each t s h k = each_idles t s h k t.accs (omega arith)

-- a slot lets only the accelerator whose answer comes home offer more, unless a window opens
pub settled_home : (t : Tree) (s r : State) (h : List ℕ) (x : ℕ) → keeps t s ≡ true → keeps t r ≡ true
    → ((a : ℕ) → a < t.accs → Idles t s h a)
    → ((a : ℕ) → a < t.accs → (a ≡ x → ⊥) → outstanding_of r a ≡ outstanding_of s a) → ((a : ℕ) → admitted_of r a ≡ admitted_of s a)
    → r.channel ≡ s.channel → Settled t r h x
settled_home t s r h x k kr I w m c a l d =
    idles_still t (offering s h) (offering r h) a k kr (record { outstanding = w a l d; admitted = m a; held = refl; channel = c }) (I a l)
