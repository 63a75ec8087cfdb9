-- The set of live ports has the ports that it was built from, bit by bit, and the next port is found in it: eight steps
-- round the circle come by every port.
use Prim.Native.Nat.{ℕ, zero, suc, ◌+◌, ◌*◌, ◌-◌, ◌/◌, ◌%◌, ◌^◌, ◌<◌}
use mathlib.Core.Bool.{Bool, true, false}
use mathlib.Core.Path.{◌≡◌, refl, sym, ◌∙◌, ap, subst}
use native.Mathlib.Decide.{dec_lt, ℕ_discrete}
use native.Mathlib.Nat.{pow-suc, one-le-pow, add-mul-div_right, add-mul-mod_self_right, add-div_right, div-eq_of_lt, mul_assoc, mul_comm}
use native.Mathlib.Omega.{arith}
use lib.Dec.{eqb}
use Rattle.folds.proofs.Folds.{clash}
use Rattle.folds.specs.Fold.{pick}
use Rattle.turns.specs.Turns.{bits_below, has_port, seek, next_port}

picked_bound : (x n : ℕ) (c : Bool) → x < 2 ^ n → x + pick c (2 ^ n) 0 < 2 ^ suc n
picked_bound x n true h = omega (arith, pow-suc 2 n)
picked_bound x n false h = omega (arith, pow-suc 2 n)

pub bits_bound : (n : ℕ) (f : ℕ → Bool) → bits_below n f < 2 ^ n
unfolding bits_below
bits_bound zero f = omega arith
bits_bound (suc n) f = picked_bound (bits_below n f) n (f n) (bits_bound n f)

-- a higher bit is a multiple of twice a lower one
higher : (n p : ℕ) → p < n → (m : ℕ) × (2 ^ n ≡ m * 2 * 2 ^ p)
higher zero p h = absurd (omega arith)
higher (suc n) p h = elim (ℕ_discrete p n) [
  | yes e ↦ (1, pow-suc 2 n ∙ mul_comm (2 ^ n) 2 ∙ ap (λ k. 2 * 2 ^ k) (sym e))
  | no d ↦ let r = higher n p (omega arith) in (
    r.0 * 2,
    pow-suc 2 n ∙ ap (λ k. k * 2) r.1 ∙ mul_assoc (r.0 * 2) (2 ^ p) 2
        ∙ ap (λ k. r.0 * 2 * k) (mul_comm (2 ^ p) 2) ∙ sym (mul_assoc (r.0 * 2) 2 (2 ^ p)),
  )
]

positive : (p : ℕ) → 0 < 2 ^ p
positive p = one-le-pow p 2 (omega arith)

own_bit : (x n : ℕ) (c : Bool) → x < 2 ^ n → has_port (x + pick c (2 ^ n) 0) n ≡ c
own_bit x n true h = ap (λ k. eqb (k % 2) 1) (add-div_right x (positive n) ∙ ap (λ k. k + 1) (div-eq_of_lt h))
own_bit x n false h = ap (λ k. eqb (k % 2) 1) (ap (λ k. k / 2 ^ n) {x = x + 0} {y = x} (omega arith) ∙ div-eq_of_lt h)

lower_bit : (x n p : ℕ) (c : Bool) → p < n → has_port (x + pick c (2 ^ n) 0) p ≡ has_port x p
lower_bit x n p true h =
    let r = higher n p h in
    ap (λ k. eqb k 1) (ap (λ k. (x + k) / 2 ^ p % 2) r.1
    ∙ ap (λ k. k % 2) (add-mul-div_right x (r.0 * 2) (positive p)) ∙ add-mul-mod_self_right (x / 2 ^ p) r.0 2)
lower_bit x n p false h = ap (λ k. has_port k p) {x = x + 0} {y = x} (omega arith)

pub bit_of : (n : ℕ) (f : ℕ → Bool) (p : ℕ) → p < n → has_port (bits_below n f) p ≡ f p
unfolding bits_below
bit_of zero f p h = absurd (omega arith)
bit_of (suc n) f p h = elim (ℕ_discrete n p) [
  | yes e ↦ subst (λ k. has_port (bits_below n f + pick (f n) (2 ^ n) 0) k ≡ f k) e
      (own_bit (bits_below n f) n (f n) (bits_bound n f))
  | no d ↦ lower_bit (bits_below n f) n p (f n) (omega arith) ∙ bit_of n f p (omega arith)
]

-- where the search ends: at a port of the set, or past every port that it came by
module _ (set : ℕ) where
  abbrev Found : ℕ → Type 0
  Found r = (r < 8) × (has_port set r ≡ true)

  step : (k r : ℕ) (c : Bool) → has_port set (k % 8) ≡ c → (c ≡ false → Found r) → Found (pick c (k % 8) r)
  step k r true q h = (omega arith, q)
  step k r false q h = h refl

  sought : (n k i : ℕ) → i < n → has_port set ((k + i) % 8) ≡ true → Found (seek n set k)
  unfolding seek
  sought zero k i h e = absurd (omega arith)
  sought (suc n) k zero h e =
      let e' : has_port set (k % 8) ≡ true = subst (λ x. has_port set (x % 8) ≡ true) {x = k + 0} (omega arith) e in
      step k (seek n set (suc k)) _ refl (λ f. clash cc)
  sought (suc n) k (suc i) h e =
      step k (seek n set (suc k)) _ refl
      (λ f. sought n (suc k) i (omega arith)
      (subst (λ x. has_port set (x % 8) ≡ true) {x = k + suc i} (omega arith) e))

  pub next_found : (last p : ℕ) → p < 8 → has_port set p ≡ true → Found (next_port set last)
  next_found last p b e = elim (dec_lt (last % 8) p) [
    | yes l ↦ sought 8 (suc (last % 8)) (p - suc (last % 8)) (omega arith)
        (subst (λ k. has_port set k ≡ true) {x = p} (omega arith) e)
    | no d ↦ sought 8 (suc (last % 8)) (p + 7 - last % 8) (omega arith)
        (subst (λ k. has_port set k ≡ true) {x = p} (omega arith) e)
  ]

  unsought : (n k : ℕ) → ((p : ℕ) → p < 8 → has_port set p ≡ false) → seek n set k ≡ 8
  unfolding seek
  unsought zero k h = refl
  unsought (suc n) k h = ap (λ c. pick c (k % 8) (seek n set (suc k))) (h (k % 8) (omega arith)) ∙ unsought n (suc k) h

  pub next_none : (last : ℕ) → ((p : ℕ) → p < 8 → has_port set p ≡ false) → next_port set last ≡ 8
  next_none last h = unsought 8 (suc (last % 8)) h
