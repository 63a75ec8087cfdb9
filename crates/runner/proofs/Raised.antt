-- What waits of an accelerator before and after the offers of a slot: its own offers never lower it, those of others leave it, and where it
-- idles it stays.
use Prim.Native.Nat.{ℕ, zero, suc, ◌+◌, ◌≤◌}
use mathlib.Core.Bool.{true}
use mathlib.Core.List.{List}
use mathlib.Core.Path.{◌≡◌, refl, sym, ◌∙◌, ap, subst}
use native.Mathlib.Decide.{dec_lt, ℕ_discrete}
use native.Mathlib.Omega.{arith}
use lib.ListN.{get_or, length}
use lib.Seq.{set_out, get_or-set_same}
use Rattle.model.specs.declared.Tree.{Tree}
use Rattle.model.specs.declared.State.{State}
use Rattle.model.specs.Tree.{waiting_of}
use Rattle.rules.specs.Rules.{keeps}
use Rattle.machine.specs.Machine.{admit, offered}
use Rattle.machine.proofs.Laws.{offer_others}
use Rattle.runner.specs.Offers.{Offering, held_of, release, offering, offer_held, offer_each}
use Rattle.runner.proofs.Held.{by_answer, either}
use Rattle.runner.proofs.Settled.{Idles, each_none}
use Rattle.runner.proofs.First.{admits_one_lem}

admit_raises : (s : State) (a : ℕ) → waiting_of s a ≤ waiting_of (admit s a) a
admit_raises s a = elim (dec_lt a (length s.waiting)) [
  | yes l ↦ omega (arith, get_or-set_same s.waiting a (waiting_of s a + 1) 0 l)
  | no d ↦ omega (arith, ap (λ (x : List ℕ). get_or x a 0) (set_out s.waiting a (waiting_of s a + 1) (omega arith)))
]

module _ (t : Tree) where
  others_leave : (k : ℕ) (o : Offering) (a b : ℕ) → (b ≡ a → ⊥) → waiting_of (offer_held k t o a).state b ≡ waiting_of o.state b
  unfolding offer_held
  others_leave zero o a b d = refl
  others_leave (suc k) o a b d =
      either (λ (p : Offering). waiting_of p.state b ≡ waiting_of o.state b) (offered t o.state a).answer _ o
      (others_leave k (offering (offered t o.state a).state (release o.held a)) a b d ∙ (offer_others t o.state a).waiting b d) refl

  own_raises : (k : ℕ) (o : Offering) (a : ℕ) → waiting_of o.state a ≤ waiting_of (offer_held k t o a).state a
  unfolding offer_held
  own_raises zero o a = omega arith
  own_raises (suc k) o a =
      by_answer (λ (p : Offering). waiting_of o.state a ≤ waiting_of p.state a) (offered t o.state a).answer _ o
      (λ e. omega (
        arith,
        own_raises k (offering (offered t o.state a).state (release o.held a)) a,
        admit_raises o.state a,
        ap (λ (s : State). waiting_of s a) (admits_one_lem t o.state a e),
      ))
      (λ _. omega arith)

  pub each_raises : (n : ℕ) (o : Offering) (a : ℕ) → waiting_of o.state a ≤ waiting_of (offer_each n t o).state a
  unfolding offer_each
  each_raises zero o a = omega arith
  each_raises (suc n) o a =
      let p = offer_each n t o in
      let k = held_of p.held n in
      elim (ℕ_discrete a n) [
        | yes e ↦ omega (
          arith,
          each_raises n o a,
          subst (λ (b : ℕ). waiting_of p.state b ≤ waiting_of (offer_held k t p n).state b) (sym e) (own_raises k p n),
        )
        | no d ↦ omega (arith, each_raises n o a, others_leave k p n a d)
      ]

  pub idle_stays : (s : State) (h : List ℕ) (a : ℕ) → keeps t s ≡ true → Idles t s h a → (n : ℕ)
      → waiting_of (offer_each n t (offering s h)).state a ≡ waiting_of s a
  unfolding offer_each
  idle_stays s h a k i zero = refl
  idle_stays s h a k i (suc n) =
      let p = offer_each n t (offering s h) in
      elim (ℕ_discrete a n) [
        | yes e ↦ ap (λ (o : Offering). waiting_of o.state a) (each_none t s h k n (subst (Idles t s h) e i)) ∙ idle_stays s h a k i n
        | no d ↦ others_leave (held_of p.held n) p n a d ∙ idle_stays s h a k i n
      ]
