-- Laws of the offers on a run's arrays, by their definitions.
use Prim.Native.Nat.{ℕ, zero, suc, ◌+◌, ◌*◌, ◌-◌, ◌^◌, ◌≤◌, ◌<◌}
use mathlib.Core.Bool.{Bool, true, false, ◌||◌, not}
use mathlib.Core.Path.{◌≡◌, refl, sym, ◌∙◌, ap, ap₂}
use native.Mathlib.Omega.{arith}
use native.Mathlib.Decide.{dec_lt, ℕ_discrete}
use lib.ListN.{get_or, length, get_or-eq_default}
use lib.Seq.{get_or-set_same}
use lib.Bits.{bit_and, and_zero_l}
use lib.Count.{count_trailing_zeros, trailing_of_zero}
use lib.Dec.{ltb, eqb}
use borrow.Author.Tests.{lt-ltb, le-ltb, ltb-false, eq-eqb, eqb-true}
use Rattle.folds.specs.Fold.{pick}
use Rattle.folds.proofs.Folds.{picked, passed, clash}
use Rattle.machine.specs.Machine.{admitted, refused, on_admitted}
use Rattle.counts.specs.declared.Table.{Table}
use Rattle.admit.specs.declared.Arrays.{Arrays}
use Rattle.admit.proofs.Sets.{in_none, lowest}
use Rattle.admit.specs.Admitting.{answer_on, admit_on, offered_on, offers_for, offers_of, is_in, offers_in}

-- one offer, by its answer
module _ (w : Table) (a : ℕ) (d : Arrays) where
  pub on_refused : (n : ℕ) → answer_on w a d ≡ refused n → offered_on w a d ≡ d
  on_refused n e = ap (λ x. on_admitted x (admit_on w a d) d) e

  pub on_admitted_lem : answer_on w a d ≡ admitted → offered_on w a d ≡ admit_on w a d
  on_admitted_lem e = ap (λ x. on_admitted x (admit_on w a d) d) e

  -- the offers of an accelerator: none past a refusal, none where none is held, else one and then the rest
  pub offers_refused : (k n : ℕ) → answer_on w a d ≡ refused n → offers_for k w a d ≡ d
  unfolding offers_for
  offers_refused zero n e = refl
  offers_refused (suc k) n e = ap (λ x. on_admitted x (offers_for k w a (offered_on w a d)) d) e

  pub offers_none : (k : ℕ) → k ≡ 0 → offers_for k w a d ≡ d
  unfolding offers_for
  offers_none k e = ap (λ i. offers_for i w a d) e

  module _ (e : answer_on w a d ≡ admitted) where
    offers_more : (k : ℕ) → offers_for (suc k) w a d ≡ offers_for k w a (offered_on w a d)
    unfolding offers_for
    offers_more k = ap (λ x. on_admitted x (offers_for k w a (offered_on w a d)) d) e

    module _ (b : Arrays) (f : b ≡ offered_on w a d) (h : 0 < get_or d.held a 0) where
      inside : a < length d.held
      inside = elim (dec_lt a (length d.held)) [
        | yes l ↦ l
        | no n ↦ absurd (omega (arith, get_or-eq_default d.held 0 {n = a} (omega arith)))
      ]

      pub held_less : get_or b.held a 0 ≡ get_or d.held a 0 - 1
      held_less =
          ap (λ (x : Arrays). get_or x.held a 0) (f ∙ on_admitted_lem e)
          ∙ get_or-set_same d.held a (get_or d.held a 0 - 1) 0 inside

      pub offers_turn : offers_for (get_or b.held a 0) w a b ≡ offers_for (get_or d.held a 0) w a d
      offers_turn =
          let i : suc (get_or d.held a 0 - 1) ≡ get_or d.held a 0 = omega arith in
          ap₂ (λ k x. offers_for k w a x) held_less f ∙ sym (offers_more (get_or d.held a 0 - 1)) ∙ ap (λ k. offers_for k w a d) i

  pub offers_unknown : 31 < a → offers_of w a d ≡ d
  offers_unknown h = picked _ _ _ (lt-ltb _ _ h)

  pub offers_known : a < 32 → offers_of w a d ≡ offers_for (get_or d.held a 0) w a d
  offers_known h = passed _ _ _ (le-ltb 31 a (omega arith))

-- the offers of those of which f holds
module _ (w : Table) (f : ℕ → Bool) (d : Arrays) where
  -- those of which it does not hold are passed over
  pub in_passes : (n m : ℕ) → n ≤ m → ((a : ℕ) → n ≤ a → a < m → f a ≡ false) → offers_in w f m d ≡ offers_in w f n d
  unfolding offers_in
  in_passes n m l h = elim (ℕ_discrete n m) [
    | yes e ↦ ap (λ k. offers_in w f k d) (sym e)
    | no e ↦ past m (omega arith) h
  ]
    where
      past : (m : ℕ) → n < m → ((a : ℕ) → n ≤ a → a < m → f a ≡ false) → offers_in w f m d ≡ offers_in w f n d
      past zero l h = absurd (omega arith)
      past (suc m) l h =
          passed _ _ _ (h m (omega arith) (omega arith)) ∙ elim (ℕ_discrete n m) [
            | yes e ↦ ap (λ k. offers_in w f k d) (sym e)
            | no e ↦ past m (omega arith) (λ a p q. h a p (omega arith))
          ]

  in_none_before : (n : ℕ) → ((a : ℕ) → a < n → f a ≡ false) → offers_in w f n d ≡ d
  unfolding offers_in
  in_none_before n h = in_passes 0 n (omega arith) (λ a _ l. h a l)

  -- and of those of which g holds, if it holds of the same
  pub in_same : (g : ℕ → Bool) → ((a : ℕ) → f a ≡ g a) → (n : ℕ) → offers_in w f n d ≡ offers_in w g n d
  unfolding offers_in
  in_same g e zero = refl
  in_same g e (suc n) = ap₂ (λ (b : Bool) (x : Arrays). pick b (offers_of w n x) x) (e n) (in_same g e n)

-- the first of those of which f holds, z, offers, and then those of which g holds: the others
module _ (w : Table) (f g : ℕ → Bool) (z : ℕ) (own : f z ≡ true) (before : (a : ℕ) → a < z → f a ≡ false) (cleared : g z ≡ false)
    (kept : (a : ℕ) → (a ≡ z → ⊥) → g a ≡ f a) (d : Arrays) where
  pub in_first : (n : ℕ) → z < n → offers_in w f n d ≡ offers_in w g n (offers_of w z d)
  unfolding offers_in
  in_first zero l = absurd (omega arith)
  in_first (suc n) l = elim (ℕ_discrete n z) [
    | yes e ↦
        let later : (a : ℕ) → a < n → g a ≡ false = λ a b. kept a (λ q. omega arith) ∙ before a (omega arith) in
        picked _ _ _ (ap f e ∙ own) ∙ ap₂ (offers_of w) e (in_none_before w f d n (λ a b. before a (omega arith)))
        ∙ sym (passed _ _ _ (ap g e ∙ cleared) ∙ in_none_before w g (offers_of w z d) n later)
    | no q ↦ ap₂ (λ (b : Bool) (x : Arrays). pick b (offers_of w n x) x) (sym (kept n q)) (in_first n (omega arith))
  ]

-- the lowest of a set of thirty-two offers, nobody where the set is empty, and then the others
module _ (w : Table) (x y : ℕ) (h : x < 2 ^ 32) (e : y ≡ x - 1) where
  pub in_lowest : (d : Arrays) → offers_in w (is_in (bit_and x y)) 32 (offers_of w (count_trailing_zeros 32 x) d) ≡ offers_in w (is_in x) 32 d
  in_lowest d = elim (ℕ_discrete x 0) [
    | yes q ↦
        let rest : bit_and x y ≡ x = ap (λ n. bit_and n y) q ∙ and_zero_l y ∙ sym q in
        ap₂ (λ (n : ℕ) (b : Arrays). offers_in w (is_in n) 32 b) rest
        (offers_unknown w (count_trailing_zeros 32 x) d (omega (arith, ap (count_trailing_zeros 32) q, trailing_of_zero 32)))
    | no q ↦
        let L = lowest 32 x (omega arith) h in
        let one : ℕ → Bool = λ n. eqb n 1 in
        ap (λ n. offers_in w (is_in (bit_and x n)) 32 (offers_of w (count_trailing_zeros 32 x) d)) e
        ∙ sym (in_first w (is_in x) (is_in (bit_and x (x - 1))) (count_trailing_zeros 32 x) (ap one L.own) (λ a b. ap one (L.before a b)) (ap one L.cleared)
        (λ a i. ap one (L.kept a i)) d 32 L.below)
  ]

  -- less is left then
  pub left_less : (a : ℕ) → (ltb a 32 || not (eqb x 0)) ≡ true
      → 2 * bit_and x y + pick (ltb (count_trailing_zeros 32 x) 32) 1 0 < 2 * x + pick (ltb a 32) 1 0
  left_less a f = elim (ℕ_discrete x 0) [
    | yes q ↦
        let first : ltb a 32 ≡ true = cases (ltb a 32) (eqb x 0) f (eq-eqb x 0 q) in
        omega (
          arith,
          ap (λ n. bit_and n y) q ∙ and_zero_l y,
          picked {A = ℕ} (ltb a 32) 1 0 first,
          passed {A = ℕ} (ltb (count_trailing_zeros 32 x) 32) 1 0 (le-ltb (count_trailing_zeros 32 x) 32 (omega (arith, ap (count_trailing_zeros 32) q, trailing_of_zero 32))),
        )
    | no q ↦
        let L = lowest 32 x (omega arith) h in
        omega (arith, ap (bit_and x) e, L.less, at_most (ltb (count_trailing_zeros 32 x) 32))
  ]
    where
      cases : (b c : Bool) → (b || not c) ≡ true → c ≡ true → b ≡ true
      cases true c f g = refl
      cases false true f g = f
      cases false false f g = g

      at_most : (b : Bool) → pick {A = ℕ} b 1 0 ≤ 1
      at_most true = omega arith
      at_most false = omega arith

-- nobody is left
pub in_empty : (w : Table) (x a : ℕ) (d : Arrays) → (ltb a 32 || not (eqb x 0)) ≡ false → offers_in w (is_in x) 32 (offers_of w a d) ≡ d
in_empty w x a d f =
    let q = neither (ltb a 32) (eqb x 0) f in
    ap (λ n. offers_in w (is_in n) 32 (offers_of w a d)) (eqb-true x 0 q.1) ∙ in_none_before w (is_in 0) (offers_of w a d) 32 (λ i _. in_none i)
    ∙ offers_unknown w a d (omega (arith, ltb-false a 32 q.0))
  where
    neither : (b c : Bool) → (b || not c) ≡ false → (b ≡ false) × (c ≡ true)
    neither true c f = clash cc
    neither false true f = (refl, refl)
    neither false false f = clash cc
