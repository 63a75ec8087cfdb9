-- The share on a channel is 1 exactly if no other accelerator of the tree has a job there. The root is on every path, so the path of another
-- accelerator leaves this one's at some interconnect, by another port, which counts there; and only accelerators make a
-- port count.
use Prim.Native.Nat.{ℕ, zero, suc, ◌+◌, ◌*◌, ◌≤◌, ◌<◌}
use mathlib.Core.Bool.{true}
use mathlib.Core.List.{List, [], ◌∷◌}
use mathlib.Core.Logic.{◌↔◌}
use mathlib.Core.Path.{◌≡◌, refl, sym, ap₂, subst, subst₂}
use native.Mathlib.Decide.{dec_lt, ℕ_discrete}
use native.Mathlib.Nat.{le_trans, le-mul_of_pos_right, mul-le-mul_right}
use native.Mathlib.Omega.{arith}
use Rattle.model.specs.declared.Tree.{Tree}
use Rattle.model.specs.declared.Channel.{Channel}
use Rattle.model.specs.declared.Port.{Port}
use Rattle.model.specs.Tree.{Crossing, port_of, parent_of, parent_port_of, home_of, home_port_of, job_of, limit_of, path}
use Rattle.model.specs.Beneath.{under, inside, weight_under}
use Rattle.rules.specs.Rules.{tree_keeps}
use Rattle.folds.proofs.Folds.{sum_zero, term_le}
use Rattle.rules.proofs.Sound.{Sound, sound, limit_none, limit_phi, above_step}
use Rattle.rules.proofs.Beneath.{only, only_same, only_other, some_port, On, here, there, lane, at_port, path_bounds, path_unique, path_root, path_holds, beneath_on, beneath_once}
use Rattle.shares.specs.Shares.{capacity_of, counted, others_at, share_along, share_of}
use Rattle.shares.proofs.Shares.{counted_own, counted_other, share_least}

factors_one : (d s : ℕ) → 1 ≤ s → (1 + d) * s ≡ 1 → (d ≡ 0) × (s ≡ 1)
factors_one d s l e =
    let f : 1 ≤ 1 + d = omega arith in
    (omega (arith, le-mul_of_pos_right (1 + d) l), omega (arith, mul-le-mul_right s f))

module _ (t : Tree) (φ : ℕ → ℕ) where
  along_one : (xs : List Crossing) → ((i p : ℕ) → On i p xs → others_at t φ i p ≡ 0) → share_along t φ xs ≡ 1
  unfolding share_along
  along_one [] h = refl
  along_one (x ∷ xs) h = ap₂ (λ d s. (1 + d) * s) (h x.interconnect x.port (here refl refl)) (along_one xs (λ i p o. h i p (there o)))

  one_along : (xs : List Crossing) → share_along t φ xs ≡ 1 → (i p : ℕ) → On i p xs → others_at t φ i p ≡ 0
  unfolding share_along
  one_along [] e i p o = elim o [ ]
  one_along (x ∷ xs) e i p (here f g) = subst₂ (λ j q. others_at t φ j q ≡ 0) f g (factors_one _ _ (share_least t φ xs) e).0
  one_along (x ∷ xs) e i p (there o) = one_along xs (factors_one _ _ (share_least t φ xs) e).1 i p o

module _ (t : Tree) (S : Sound t) where
  -- how often accelerator b is beneath a port that carries x
  abbrev beneath : ℕ → Port → ℕ
  beneath b x = under (only b) (inside 3 t (only b)) x

  port_positive : (n : ℕ) (v w : ℕ → ℕ) → ((a : ℕ) → a < t.accs → 0 < v a → 0 < w a)
      → ((k : ℕ) → k < t.ints → 0 < inside n t v k → 0 < inside n t w k)
      → (j p : ℕ) → j < t.ints → p < 8 → 0 < under v (inside n t v) (port_of t j p) → 0 < under w (inside n t w) (port_of t j p)
  port_positive n v w h g j p l b =
      at_port t S (λ P. 0 < under v (inside n t v) P → 0 < under w (inside n t w) P) j p l b (λ k. k) (λ a la _ _. h a la) (λ k _ lk _ _. g k lk)

  inside_positive : (n : ℕ) (v w : ℕ → ℕ) → ((a : ℕ) → a < t.accs → 0 < v a → 0 < w a) → (j : ℕ) → j < t.ints → 0 < inside n t v j → 0 < inside n t w j
  unfolding inside
  inside_positive zero v w h j l k = k
  inside_positive (suc n) v w h j l k =
      let m = some_port n t v j k in
      le_trans (port_positive n v w h (inside_positive n v w h) j m.at l m.below m.positive)
      (term_le 8 (λ p. under w (inside n t w) (port_of t j p)) m.at m.below)

  -- what counts beneath a port by one weight counts by another that is positive where the first is
  weight_positive : (v w : ℕ → ℕ) → ((a : ℕ) → a < t.accs → 0 < v a → 0 < w a) → (j p : ℕ) → j < t.ints → p < 8
      → 0 < weight_under t v j p → 0 < weight_under t w j p
  weight_positive v w h = port_positive 3 v w h (inside_positive 3 v w h)

  module _ (φ : ℕ → ℕ) (b : ℕ) (lb : b < t.accs) (some : 0 < φ b) where
    -- an accelerator with a limit above 0 counts at the interconnects of its path, for every other port
    others_some : (i p r : ℕ) → On i r (path t b) → (r ≡ p → ⊥) → 0 < others_at t φ i p
    unfolding others_at
    others_some i p r o d =
        let h = path_bounds t S b lb i r o in
        let c : 0 < capacity_of t φ i r = omega (arith, path_holds t S b lb φ i r o) in
        omega (arith, counted_other t φ i p r d, S.granularity i h.0, term_le 8 (counted t φ i p) r h.1)

    leaves : (k q r : ℕ) → others_at t φ k q ≡ 0 → On k r (path t b) → On k q (path t b)
    leaves k q r z o = elim (ℕ_discrete r q) [
      | yes e ↦ subst (λ y. On k y (path t b)) e o
      | no d ↦ absurd (omega (arith, others_some k q r o d))
    ]

    -- where nothing counts along a lane, the accelerator is beneath its first crossing
    follows : (n k q : ℕ) → k < n → k < t.ints → ((i p : ℕ) → On i p (lane t k q) → others_at t φ i p ≡ 0) → On k q (path t b)
    follows zero k q c l z = absurd (omega arith)
    follows (suc n) k q c l z = elim (dec_lt 0 k) [
      | yes g ↦
          let d : parent_of t k < k = S.parent k g l in
          let y = parent_of t k in
          let r = parent_port_of t k in
          let u : On y r (path t b) =
          follows n y r (omega arith) (omega arith) (λ i p o. z i p (there (subst (On i p) (sym (above_step t S k g l)) o))) in
          let e = beneath_once t S b lb y r u 3 (omega arith) in
          let w : 0 < inside 3 t (only b) k = subst (λ X. 0 < beneath b X) (S.parent_carries k g l) (omega arith) in
          let m = some_port 2 t (only b) k w in
          leaves k q m.at (z k q (here refl refl)) (beneath_on t S b lb 2 k m.at l m.below m.positive)
      | no d ↦
          let e : 0 ≡ k = omega arith in
          let r = path_root t S b lb in
          leaves k q r.0 (z k q (here refl refl)) (subst (λ i. On i r.0 (path t b)) e r.1)
    ]

  module _ (φ : ℕ → ℕ) (a : ℕ) (la : a < t.accs) where
    alone_if : share_along t φ (path t a) ≡ 1 → (b : ℕ) → b < t.accs → 0 < φ b → b ≡ a
    alone_if e b lb z = elim (ℕ_discrete b a) [
      | yes q ↦ q
      | no d ↦
          let o = follows φ b lb z (suc (home_of t a)) (home_of t a) (home_port_of t a) (omega arith) (S.home a la) (one_along t φ (path t a) e) in
          let e = beneath_once t S b lb (home_of t a) (home_port_of t a) o 3 (omega arith) in
          let w : only b a ≡ 1 = subst (λ X. beneath b X ≡ 1) (S.home_carries a la) e in
          absurd (omega (arith, only_other b a d))
    ]

    none_counts : ((b : ℕ) → b < t.accs → 0 < φ b → b ≡ a) → (i p : ℕ) → On i p (path t a) → others_at t φ i p ≡ 0
    unfolding others_at
    none_counts h i p o = sum_zero 8 (counted t φ i p) (λ q l. elim (ℕ_discrete q p) [
      | yes e ↦ subst (λ y. counted t φ i p y ≡ 0) (sym e) (counted_own t φ i p)
      | no d ↦ elim (dec_lt 0 (capacity_of t φ i q)) [
        | yes c ↦
            let b = path_bounds t S a la i p o in
            let k = weight_positive φ (only a) (λ x lx z. omega (arith, only_same a x (sym (h x lx z)))) i q b.0 l c in
            absurd (d (path_unique t S a la i q p (beneath_on t S a la 3 i q b.0 l k) o))
        | no c ↦ omega (arith, counted_other t φ i p q d)
      ]
    ])

-- the share with limits φ is 1 exactly if no other accelerator has a limit above 0
pub sole_within : (t : Tree) → tree_keeps t ≡ true → (φ : ℕ → ℕ) (a : ℕ) → a < t.accs
    → (share_along t φ (path t a) ≡ 1) ↔ ((b : ℕ) → b < t.accs → 0 < φ b → b ≡ a)
sole_within t e φ a la =
    (alone_if t (sound t e) φ a la, λ h. along_one t φ (path t a) (none_counts t (sound t e) φ a la h))

-- on a channel: exactly if no other accelerator has a job there
pub sole : (t : Tree) → tree_keeps t ≡ true → (c : Channel) (a : ℕ) → a < t.accs
    → (share_of t c a ≡ 1) ↔ ((b : ℕ) → b < t.accs → 0 < job_of t c b → b ≡ a)
sole t e c a la =
    let w = sole_within t e (limit_of t c) a la in
    (λ h b lb j. w.0 h b lb (some b lb j), λ h. w.1 (λ b lb l. h b lb (job b l)))
  where
    some : (b : ℕ) → b < t.accs → 0 < job_of t c b → 0 < limit_of t c b
    some b lb j = omega (arith, limit_phi t c b (λ z. omega arith), (sound t e).phi b lb)

    job : (b : ℕ) → 0 < limit_of t c b → 0 < job_of t c b
    job b l = elim (ℕ_discrete (job_of t c b) 0) [ yes z ↦ absurd (omega (arith, limit_none t c b z)) | no d ↦ omega arith ]
