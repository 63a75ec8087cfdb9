-- The share is at least 1 and at most 163,047,361: seven other ports count for at most 16 each, and a path crosses at most
-- four interconnects, so that its own crossing and three parents are the whole path. By induction on the number of ports and on the
-- path.
use Prim.Native.Nat.{ℕ, zero, suc, ◌+◌, ◌*◌, ◌^◌, ◌≤◌, ◌<◌, min}
use mathlib.Core.Bool.{true}
use mathlib.Core.List.{List, [], ◌∷◌}
use mathlib.Core.Path.{◌≡◌, refl, sym, ◌∙◌, ap}
use native.Mathlib.Decide.{ℕ_discrete}
use native.Mathlib.Nat.{suc-mul, mul-le-mul, one-le-mul, pow-zero, pow-succ', pow-le-pow_right, le_trans}
use native.Mathlib.Omega.{arith}
use lib.Dec.{eqb, lit<, lit≤}
use lib.ListN.{length}
use borrow.Author.Tests.{eq-eqb, ne_eqb}
use Rattle.model.specs.declared.Tree.{Tree}
use Rattle.model.specs.declared.Channel.{Channel}
use Rattle.folds.specs.Fold.{pick, sum}
use Rattle.model.specs.Tree.{Crossing, granularity_of, limit_of, home_of, home_port_of, parent_of, parent_port_of, above, path}
use Rattle.rules.specs.Rules.{tree_keeps}
use Rattle.folds.proofs.Folds.{picked, passed}
use Rattle.rules.proofs.Sound.{Sound, sound}
use Rattle.rules.proofs.Beneath.{On, here, there, path_bounds}
use Rattle.shares.specs.Shares.{capacity_of, counted, others_at, share_along, share_of, share_within}

-- n terms of at most b
pub sum_most : (n b : ℕ) (f : ℕ → ℕ) → ((i : ℕ) → i < n → f i ≤ b) → sum n f ≤ n * b
unfolding sum
sum_most zero b f h = omega arith
sum_most (suc n) b f h = omega (arith, sum_most n b f (λ i l. h i (omega arith)), h n (omega arith), suc-mul n b)

-- n terms of at most b, of which one is zero
pub sum_without : (n b p : ℕ) (f : ℕ → ℕ) → p < n → f p ≡ 0 → ((i : ℕ) → i < n → f i ≤ b) → sum n f + b ≤ n * b
unfolding sum
sum_without zero b p f l z h = absurd (omega arith)
sum_without (suc n) b p f l z h = elim (ℕ_discrete n p) [
  | yes e ↦ let w : f n ≡ 0 = ap f e ∙ z in omega (arith, sum_most n b f (λ i k. h i (omega arith)), suc-mul n b)
  | no d ↦ omega (arith, sum_without n b p f (omega arith) z (λ i k. h i (omega arith)), h n (omega arith), suc-mul n b)
]

module _ (t : Tree) (φ : ℕ → ℕ) where
  pub counted_own : (j p : ℕ) → counted t φ j p p ≡ 0
  counted_own j p = picked _ _ _ (eq-eqb p p refl)

  pub counted_other : (j p q : ℕ) → (q ≡ p → ⊥) → counted t φ j p q ≡ min (granularity_of t j) (capacity_of t φ j q)
  counted_other j p q d = passed _ _ _ (ne_eqb q p d)

  pub counted_most : (j p q : ℕ) → counted t φ j p q ≤ granularity_of t j
  counted_most j p q = elim (ℕ_discrete q p) [
    | yes e ↦ omega (arith, picked _ 0 (min (granularity_of t j) (capacity_of t φ j q)) (eq-eqb q p e))
    | no d ↦ omega (arith, counted_other j p q d)
  ]

  pub along_most : (b : ℕ) (xs : List Crossing) → ((i p : ℕ) → On i p xs → others_at t φ i p ≤ b) → share_along t φ xs ≤ (1 + b) ^ length xs
  unfolding share_along
  along_most b [] h = omega (arith, pow-zero (1 + b))
  along_most b (x ∷ xs) h =
      let f : 1 + others_at t φ x.interconnect x.port ≤ 1 + b = omega (arith, h x.interconnect x.port (here refl refl)) in
      omega (arith, mul-le-mul f (along_most b xs (λ i p o. h i p (there o))), pow-succ' (1 + b) (length xs))

  pub share_least : (xs : List Crossing) → 1 ≤ share_along t φ xs
  unfolding share_along
  share_least [] = omega arith
  share_least (x ∷ xs) = one-le-mul (omega arith) (share_least xs)

module _ (t : Tree) where
  abbrev crossing : ℕ → Crossing
  crossing j = record { interconnect = parent_of t j; port = parent_port_of t j }

  -- the crossings above, where they are not cut short
  pub above_enough : (n m j : ℕ) → n ≤ m → length (above m t j) ≤ n → above n t j ≡ above m t j
  unfolding above
  above_enough zero zero j a l = refl
  above_enough zero (suc m) j a l = elim (ℕ_discrete j 0) [
    | yes e ↦ sym (picked _ _ _ (eq-eqb j 0 e))
    | no d ↦ absurd (omega (arith, ap length (passed (eqb j 0) [] (crossing j ∷ above m t (parent_of t j)) (ne_eqb j 0 d))))
  ]
  above_enough (suc n) zero j a l = absurd (omega arith)
  above_enough (suc n) (suc m) j a l = elim (ℕ_discrete j 0) [
    | yes e ↦ picked _ _ _ (eq-eqb j 0 e) ∙ sym (picked _ _ _ (eq-eqb j 0 e))
    | no d ↦
        let k : length (above m t (parent_of t j)) ≤ n = omega (arith, ap length (passed (eqb j 0) [] (crossing j ∷ above m t (parent_of t j)) (ne_eqb j 0 d))) in
        ap (λ r. pick (eqb j 0) [] (crossing j ∷ r)) (above_enough n m (parent_of t j) (omega arith) k)
  ]

module _ (t : Tree) (φ : ℕ → ℕ) (S : Sound t) where
  pub others_most : (j p : ℕ) → j < t.ints → p < 8 → others_at t φ j p ≤ 112
  unfolding others_at
  others_most j p l b =
      omega (arith, sum_without 8 16 p (counted t φ j p) b (counted_own t φ j p) (λ q _. omega (arith, counted_most t φ j p q, S.granularity j l)))

  pub share_most : (a : ℕ) → a < t.accs → share_along t φ (path t a) ≤ 163047361
  share_most a l =
      le_trans (along_most t φ 112 (path t a) (λ i p o. let h = path_bounds t S a l i p o in others_most i p h.0 h.1))
      (pow-le-pow_right (lit< tt) (S.level (home_of t a) (S.home a l)))

module _ (t : Tree) (S : Sound t) where
  pub share_within_lem : (c : Channel) (a : ℕ) → a < t.accs → share_within 3 t c a ≡ share_of t c a
  share_within_lem c a l =
      let k : length (above 15 t (home_of t a)) ≤ 3 = omega (arith, S.level (home_of t a) (S.home a l)) in
      ap (λ xs. share_along t (limit_of t c) (record { interconnect = home_of t a; port = home_port_of t a } ∷ xs)) (above_enough t 3 15 (home_of t a) (lit≤ tt) k)

-- "No share exceeds 163,047,361 (113 to the fourth power)", and none is below 1
pub share_bounds : (t : Tree) → tree_keeps t ≡ true → (c : Channel) (a : ℕ) → a < t.accs → (1 ≤ share_of t c a) × (share_of t c a ≤ 163047361)
share_bounds t e c a l = (share_least t (limit_of t c) (path t a), share_most t (limit_of t c) (sound t e) a l)
