-- One interconnect. Before port p comes on, its other ports are served at most what their turns allow, D in all; a turn of
-- another port takes one off, and a turn of p leaves at most D before its next.
--
-- ahead_in c l n p      what may be served before port p comes on, with last port l, n left of its turn and the costs c
-- ahead_of t φ s i p    the same at interconnect i in state s, where a port costs what it counts for in D with limits φ
-- WaitsWithin t φ s     in state s no accelerator has more waiting than φ allows it
-- layer x d w           the slots until the w-th service beneath a port, x served ahead of it and d between two of them
use Prim.Native.Nat.{ℕ, zero, suc, ◌+◌, ◌-◌, ◌*◌, ◌≤◌, ◌<◌, min}
use mathlib.Core.Bool.{Bool, true, false}
use mathlib.Core.Path.{◌≡◌, refl, ◌∙◌, ap, ap₂, subst}
use native.Mathlib.Decide.{dec_lt, ℕ_discrete}
use native.Mathlib.Nat.{add-mul, one-mul, mul-le-mul_right, le-mul_of_pos_right}
use native.Mathlib.Omega.{arith}
use lib.Dec.{eqb, ltb}
use borrow.Author.Tests.{eq-eqb, ne_eqb, lt-ltb, le-ltb, ltb-true, ltb-false}
use Rattle.model.specs.declared.Tree.{Tree}
use Rattle.model.specs.declared.State.{State}
use Rattle.folds.specs.Fold.{pick, sum}
use Rattle.model.specs.Tree.{granularity_of, waiting_of, last_of, allowance_of}
use Rattle.model.specs.Beneath.{waits_under}
use Rattle.folds.proofs.Folds.{picked, passed}
use Rattle.rules.proofs.Sound.{Sound, Kept}
use Rattle.rules.proofs.Beneath.{weight_mono}
use Rattle.turns.specs.Turns.{has_port, live_set, next_port, goes_on, turn_port, turn_allowance}
use Rattle.turns.proofs.Next.{bit_of}
use Rattle.turns.proofs.Descent.{Turn, Turned, Unturned}
use Rattle.shares.specs.Shares.{capacity_of, counted, others_at}
use Rattle.guarantee.proofs.Circle.{between, between_all, next_sooner, last_with}

unfoldable pub ahead_in : (ℕ → ℕ) → ℕ → ℕ → ℕ → ℕ
ahead_in c last n p =
    pick (eqb last p) (pick (ltb 0 n) 0 (between c p 8 (suc last))) (n + between c p 8 (suc last))

module _ (c : ℕ → ℕ) (last n p : ℕ) where
  ahead_own : last ≡ p → 0 < n → ahead_in c last n p ≡ 0
  unfolding ahead_in
  ahead_own e h = picked _ _ _ (eq-eqb _ _ e) ∙ picked _ _ _ (lt-ltb _ _ h)

  ahead_other : (last ≡ p → ⊥) → ahead_in c last n p ≡ n + between c p 8 (suc last)
  unfolding ahead_in
  ahead_other d = passed _ _ _ (ne_eqb _ _ d)

  ahead_none : n ≡ 0 → ahead_in c last n p ≡ between c p 8 (suc last)
  unfolding ahead_in
  ahead_none z = elim (ℕ_discrete last p) [
    | yes e ↦ picked _ _ _ (eq-eqb _ _ e) ∙ passed _ _ _ (le-ltb 0 n (omega arith))
    | no d ↦ ahead_other d ∙ omega arith
  ]

  -- the turn that runs serves no more than its port's cost, so no more than the sum comes ahead
  ahead_bound : last < 8 → p < 8 → ((last ≡ p → ⊥) → n ≤ c last) → ahead_in c last n p ≤ sum 8 c
  ahead_bound h b within = elim (ℕ_discrete last p) [
    | yes e ↦ elim (dec_lt 0 n) [
      | yes l ↦ omega (arith, ahead_own e l)
      | no f ↦ omega (arith, ahead_none (omega arith), between_all c p (suc last))
    ]
    | no d ↦ omega (arith, ahead_other d, within d, last_with c p last h b d)
  ]

-- a turn of another port takes one off: it goes on, or it is the next live port's
module _ (c : ℕ → ℕ) (p : ℕ) where
  ahead_going : (last n : ℕ) → (last ≡ p → ⊥) → 0 < n → ahead_in c last (n - 1) p + 1 ≤ ahead_in c last n p
  ahead_going last n d h = omega (arith, ahead_other c last n p d, ahead_other c last (n - 1) p d)

  ahead_passing : (set last n : ℕ) → has_port set p ≡ true → last < 8 → p < 8 → (next_port set last ≡ p → ⊥)
      → 0 < n → n ≤ c (next_port set last) → ahead_in c (next_port set last) (n - 1) p + 1 ≤ ahead_in c last 0 p
  ahead_passing set last n live h b d z m = omega (
    arith,
    ahead_other c (next_port set last) (n - 1) p d,
    ahead_none c last 0 p refl,
    next_sooner c p set last live h b d,
  )

unfoldable pub layer : ℕ → ℕ → ℕ → ℕ
layer x d w = (x + w * (1 + d)) - d

module _ (x d : ℕ) where
  -- e services more take at most e times 1 + d slots more
  pub layer_grows : (v w e : ℕ) → v ≤ w + e → layer x d v ≤ layer x d w + e * (1 + d)
  unfolding layer
  layer_grows v w e h = omega (arith, mul-le-mul_right (1 + d) h, add-mul w e (1 + d))

  pub layer_most : (w : ℕ) → x ≤ d → layer x d w ≤ w * (1 + d)
  unfolding layer
  layer_most w h = omega arith

  least : (w : ℕ) → 0 < w → 1 + d ≤ w * (1 + d)
  least w h = omega (arith, mul-le-mul_right (1 + d) h, one-mul (1 + d))

  pub layer_least : (w : ℕ) → w ≤ layer x d w
  unfolding layer
  layer_least zero = omega arith
  layer_least (suc w) =
      omega (arith, add-mul w 1 (1 + d), one-mul (1 + d), le-mul_of_pos_right {m = 1 + d} w (omega arith))

  -- a service beneath the port, after which at most d come ahead
  pub layer_own : (y v w : ℕ) → y ≤ d → v + 1 ≤ w → layer y d v + 1 ≤ layer x d w
  unfolding layer
  layer_own y v w h l = omega (arith, mul-le-mul_right (1 + d) l, add-mul v 1 (1 + d), one-mul (1 + d))

  -- a service elsewhere, which takes one off what comes ahead
  pub layer_other : (y w : ℕ) → y + 1 ≤ x → 0 < w → layer y d w + 1 ≤ layer x d w
  unfolding layer
  layer_other y w h z = omega (arith, least w z)

abbrev pub ahead_of : Tree → (ℕ → ℕ) → State → ℕ → ℕ → ℕ
ahead_of t φ s i p = ahead_in (counted t φ i p) (last_of s i) (allowance_of s i) p

pub ahead_same : (t : Tree) (φ : ℕ → ℕ) (s r : State) (i p : ℕ) → Unturned s r i → ahead_of t φ r i p ≡ ahead_of t φ s i p
ahead_same t φ s r i p u = ap₂ (λ l n. ahead_in (counted t φ i p) l n p) u.last u.allowance

abbrev pub WaitsWithin : Tree → (ℕ → ℕ) → State → Type 0
WaitsWithin t φ s = (a : ℕ) → a < t.accs → waiting_of s a ≤ φ a

module _ (t : Tree) (φ : ℕ → ℕ) (S : Sound t) (s : State) (K : Kept t s) (F : WaitsWithin t φ s)
    (i p : ℕ) (l : i < t.ints) (b : p < 8) where
  -- what waits under a port is at most its capacity, so a turn within both limits is within the port's cost
  within_cost : (n q : ℕ) → q < 8 → (q ≡ p → ⊥) → n ≤ granularity_of t i → n ≤ waits_under t s i q → n ≤ counted t φ i p q
  within_cost n q c d g h = omega (
    arith,
    passed (eqb q p) 0 (min (granularity_of t i) (capacity_of t φ i q)) (ne_eqb q p d),
    weight_mono t S (waiting_of s) φ F i q l c,
  )

  pub ahead_most : ahead_of t φ s i p ≤ others_at t φ i p
  unfolding others_at
  ahead_most = ahead_bound (counted t φ i p) (last_of s i) (allowance_of s i) p (K.last i l) b
      (λ d. within_cost (allowance_of s i) (last_of s i) (K.last i l) d (K.allowance i l) (K.allowance_waits i l))

  -- the turn is another port's, while something waits under p
  module _ (u : Turn t s i) (d : turn_port t s i ≡ p → ⊥) (w : 0 < waits_under t s i p) where
    going : goes_on s i ≡ true
        → ahead_in (counted t φ i p) (turn_port t s i) (turn_allowance t s i - 1) p + 1 ≤ ahead_of t φ s i p
    unfolding turn_port turn_allowance
    going e =
        let q : turn_port t s i ≡ last_of s i = picked _ _ _ e in
        let m : turn_allowance t s i ≡ allowance_of s i = picked _ _ _ e in
        omega (
          arith,
          ap₂ (λ x y. ahead_in (counted t φ i p) x (y - 1) p) q m,
          ahead_going (counted t φ i p) p (last_of s i) (allowance_of s i) (λ f. d (q ∙ f)) (ltb-true _ _ e),
        )

    passing : goes_on s i ≡ false
        → ahead_in (counted t φ i p) (turn_port t s i) (turn_allowance t s i - 1) p + 1 ≤ ahead_of t φ s i p
    unfolding turn_port
    passing e =
        let q : turn_port t s i ≡ next_port (live_set t s i) (last_of s i) = passed _ _ _ e in
        let z : allowance_of s i ≡ 0 = omega (arith, ltb-false 0 (allowance_of s i) e) in
        let live = bit_of 8 (λ x. ltb 0 (waits_under t s i x)) p b ∙ lt-ltb _ _ w in
        let m = within_cost (turn_allowance t s i) (turn_port t s i) u.port d u.granted u.covered in
        omega (
          arith,
          ap (λ x. ahead_in (counted t φ i p) x (turn_allowance t s i - 1) p) q,
          ap (λ y. ahead_in (counted t φ i p) (last_of s i) y p) z,
          ahead_passing (counted t φ i p) p (live_set t s i) (last_of s i) (turn_allowance t s i) live (K.last i l) b
              (λ f. d (q ∙ f)) u.some (subst (λ x. turn_allowance t s i ≤ counted t φ i p x) q m),
        )

    pub ahead_turn : (r : State) (x : ℕ) → Turned t s r i x → ahead_of t φ r i p + 1 ≤ ahead_of t φ s i p
    ahead_turn r x v = omega (
      arith,
      ap₂ (λ x y. ahead_in (counted t φ i p) x y p) v.last v.allowance,
      go (goes_on s i) refl,
    )
      where
        go : (c : Bool) → goes_on s i ≡ c
            → ahead_in (counted t φ i p) (turn_port t s i) (turn_allowance t s i - 1) p + 1 ≤ ahead_of t φ s i p
        go true e = going e
        go false e = passing e
