-- The turn circle. On the way from a port round to port p each other port comes by at most once, so what they cost adds up
-- to at most the sum over all ports; and the next live port comes no later than p, if p is live.
--
-- between c p n k       what the ports k, k + 1, .. cost by c, 7 followed by 0, up to port p and without it, n at most
use Prim.Native.Nat.{ℕ, zero, suc, ◌+◌, ◌-◌, ◌%◌, ◌≤◌, ◌<◌}
use mathlib.Core.Bool.{Bool, true, false}
use mathlib.Core.Path.{◌≡◌, refl, sym, ap, subst}
use native.Mathlib.Decide.{dec_lt, ℕ_discrete}
use native.Mathlib.Omega.{arith}
use lib.Dec.{eqb}
use borrow.Author.Tests.{eq-eqb, ne_eqb}
use Rattle.folds.specs.Fold.{pick, sum}
use Rattle.folds.proofs.Folds.{picked, passed, sum_suc, clash}
use Rattle.turns.specs.Turns.{has_port, seek, next_port}

-- a sum taken from its first term on, and round the circle
sum_first : (n : ℕ) (f : ℕ → ℕ) → sum (suc n) f ≡ f 0 + sum n (λ i. f (suc i))
unfolding sum
sum_first zero f = omega arith
sum_first (suc n) f = omega (arith, sum_first n f)

module _ (c : ℕ → ℕ) where
  abbrev round : ℕ → ℕ → ℕ
  round k i = c ((k + i) % 8)

  round_zero : (n k : ℕ) → k ≡ 0 → n ≤ 8 → sum n (round k) ≡ sum n c
  unfolding sum
  round_zero zero k e h = refl
  round_zero (suc n) k e h = omega (arith, round_zero n k e (omega arith), ap c {x = (k + n) % 8} {y = n} (omega arith))

  round_next : (n k : ℕ) → sum n (round (suc k)) ≡ sum n (λ i. round k (suc i))
  unfolding sum
  round_next zero k = refl
  round_next (suc n) k =
      omega (arith, round_next n k, ap c {x = (suc k + n) % 8} {y = (k + suc n) % 8} (omega arith))

  rotated : (k : ℕ) → sum 8 (round k) ≡ sum 8 c
  rotated zero = round_zero 8 0 refl (omega arith)
  rotated (suc k) = omega (
    arith,
    rotated k,
    round_next 8 k,
    sum_first 8 (round k),
    sum_suc 8 (round k),
    ap c {x = (k + 8) % 8} {y = (k + 0) % 8} (omega arith),
  )

  module _ (p : ℕ) where
    unfoldable pub between : ℕ → ℕ → ℕ
    between zero k = 0
    between (suc n) k = pick (eqb (k % 8) p) 0 (c (k % 8) + between n (suc k))

    between_here : (n k : ℕ) → k % 8 ≡ p → between n k ≡ 0
    unfolding between
    between_here zero k e = refl
    between_here (suc n) k e = picked _ _ _ (eq-eqb _ _ e)

    between_on : (n k : ℕ) → (k % 8 ≡ p → ⊥) → between (suc n) k ≡ c (k % 8) + between n (suc k)
    unfolding between
    between_on n k d = passed _ _ _ (ne_eqb _ _ d)

    -- each port comes by at most once
    between_round : (n k : ℕ) → between n k ≤ sum n (round k)
    unfolding between
    between_round zero k = omega arith
    between_round (suc n) k = elim (ℕ_discrete (k % 8) p) [
      | yes e ↦ omega (arith, between_here (suc n) k e)
      | no d ↦ omega (
        arith,
        between_on n k d,
        between_round n (suc k),
        round_next n k,
        sum_first n (round k),
        ap c {x = (k + 0) % 8} {y = k % 8} (omega arith),
      )
    ]

    pub between_all : (k : ℕ) → between 8 k ≤ sum 8 c
    between_all k = omega (arith, between_round 8 k, rotated k)

    -- where port p is met within n steps from k, no more steps from the same port cost more
    between_met : (m n k l i : ℕ) → k % 8 ≡ l % 8 → i < n → (k + i) % 8 ≡ p → between m l ≤ between n k
    unfolding between
    between_met zero n k l i e h f = omega arith
    between_met (suc m) zero k l i e h f = absurd (omega arith)
    between_met (suc m) (suc n) k l zero e h f = omega (arith, between_here (suc m) l (omega arith))
    between_met (suc m) (suc n) k l (suc i) e h f = elim (ℕ_discrete (k % 8) p) [
      | yes g ↦ omega (arith, between_here (suc m) l (omega arith))
      | no d ↦ omega (
        arith,
        between_on m l (λ g. d (omega arith)),
        between_on n k d,
        between_met m n (suc k) (suc l) i (omega arith) (omega arith) (omega arith),
        ap c e,
      )
    ]

    -- the first live port from k on comes before p, if it is another, and costs its part of the way to p
    module _ (set : ℕ) (live : has_port set p ≡ true) where
      abbrev Sooner : ℕ → ℕ → ℕ → Type 0
      Sooner n k r = (r ≡ p → ⊥) → c r + between 8 (suc r) ≤ between n k

      sooner_step : (n k i r : ℕ) (b : Bool) → has_port set (k % 8) ≡ b → i < suc n → (k + i) % 8 ≡ p
          → ((k % 8 ≡ p → ⊥) → Sooner n (suc k) r) → Sooner (suc n) k (pick b (k % 8) r)
      sooner_step n k i r true q h f later d =
          omega (
            arith,
            between_on n k d,
            between_met 8 n (suc k) (suc (k % 8)) (i - 1) (omega arith) (omega arith) (omega arith),
          )
      sooner_step n k i r false q h f later d = omega (arith, between_on n k off, later off d)
        where
          off : k % 8 ≡ p → ⊥
          off e = let o : has_port set (k % 8) ≡ true = subst (λ x. has_port set x ≡ true) (sym e) live in
              clash cc

      sooner : (n k i : ℕ) → i < n → (k + i) % 8 ≡ p → Sooner n k (seek n set k)
      unfolding seek
      sooner zero k i h f = absurd (omega arith)
      sooner (suc n) k i h f =
          sooner_step n k i (seek n set (suc k)) _ refl h f
          (λ d. sooner n (suc k) (i - 1) (omega arith) (omega arith))

    -- how far port p is after the last one
    distance : (last : ℕ) → last < 8 → p < 8 → (i : ℕ) × (i < 8) × ((suc last + i) % 8 ≡ p)
    distance last h b = elim (dec_lt last p) [
      | yes l ↦ (p - suc last, omega arith, omega arith)
      | no d ↦ (p + 7 - last, omega arith, omega arith)
    ]

    -- passing to the next live port, another than p
    pub next_sooner : (set last : ℕ) → has_port set p ≡ true → last < 8 → p < 8 → (next_port set last ≡ p → ⊥)
        → c (next_port set last) + between 8 (suc (next_port set last)) ≤ between 8 (suc last)
    next_sooner set last live h b d =
        let e : last % 8 ≡ last = omega arith in
        let g = distance last h b in
        subst (λ x. Sooner set live 8 (suc last) (seek 8 set (suc x))) (sym e)
        (sooner set live 8 (suc last) g.0 g.1 g.2) d

    -- the last port, another than p, with the ports from there to p
    pub last_with : (last : ℕ) → last < 8 → p < 8 → (last ≡ p → ⊥) → c last + between 8 (suc last) ≤ sum 8 c
    last_with last h b d =
        let g = distance last h b in
        omega (
          arith,
          between_all last,
          between_on 7 last (λ e. d (omega arith)),
          between_met 8 7 (suc last) (suc last) g.0 refl (omega arith) g.2,
          ap c {x = last % 8} {y = last} (omega arith),
        )
