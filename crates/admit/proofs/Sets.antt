-- Sets of accelerators as numbers, bit by bit: of two sets, of one accelerator, of those below a number; and the lowest one of a
-- set. By the digits of a number.
use Prim.Native.Nat.{ℕ, zero, suc, ◌+◌, ◌*◌, ◌-◌, ◌/◌, ◌%◌, ◌^◌, ◌<◌, min, max}
use mathlib.Core.Bool.{Bool, true, false, ◌&&◌, ◌||◌}
use mathlib.Core.Path.{◌≡◌, refl, sym, ◌∙◌, ap, ap₂, subst}
use native.Mathlib.Decide.{dec_lt, ℕ_discrete}
use native.Mathlib.Nat.{pow-suc, div-one, zero-div, div-eq_of_lt}
use native.Mathlib.Omega.{arith}
use lib.Bits.{bit_and, bit_or, and_step, or_step, and_self, and_shr, or_shr}
use lib.Count.{count_trailing_zeros, under}
use lib.Dec.{eqb, ltb}
use lib.Pow.{pow_pos, pow_mono, shr-shr}
use borrow.Author.Tests.{lt-ltb, le-ltb, eq-eqb, ne_eqb}
use Rattle.folds.proofs.Folds.{clash}
use Rattle.model.specs.Tree.{bit}
use Rattle.admit.specs.Admitting.{is_in}

bit_first : (x : ℕ) → bit 0 x ≡ x % 2
bit_first x = ap (λ y. y % 2) (div-one x)

bit_next : (a x : ℕ) → bit (suc a) x ≡ bit a (x / 2)
bit_next a x =
    let e : suc a ≡ 1 + a = omega arith in
    ap (λ n. x / 2 ^ n % 2) e ∙ ap (λ y. y % 2) (sym (shr-shr x 1 a))

bit_none : (a x : ℕ) → x < 2 ^ a → bit a x ≡ 0
bit_none a x h = ap (λ y. y % 2) (div-eq_of_lt h)

-- two sets
or_digit : (p q : ℕ) → p < 2 → q < 2 → eqb (max p q) 1 ≡ (eqb p 1 || eqb q 1)
or_digit zero zero h k = refl
or_digit zero (suc zero) h k = refl
or_digit (suc zero) zero h k = refl
or_digit (suc zero) (suc zero) h k = refl
or_digit (suc (suc p)) q h k = absurd (omega arith)
or_digit zero (suc (suc q)) h k = absurd (omega arith)
or_digit (suc zero) (suc (suc q)) h k = absurd (omega arith)

and_digit : (p q : ℕ) → p < 2 → q < 2 → eqb (min p q) 1 ≡ (eqb p 1 && eqb q 1)
and_digit zero zero h k = refl
and_digit zero (suc zero) h k = refl
and_digit (suc zero) zero h k = refl
and_digit (suc zero) (suc zero) h k = refl
and_digit (suc (suc p)) q h k = absurd (omega arith)
and_digit zero (suc (suc q)) h k = absurd (omega arith)
and_digit (suc zero) (suc (suc q)) h k = absurd (omega arith)

module _ (x y a : ℕ) where
  pub in_or : is_in (bit_or x y) a ≡ (is_in x a || is_in y a)
  in_or =
      let u = x / 2 ^ a in
      let v = y / 2 ^ a in
      let e : bit_or u v % 2 ≡ max (u % 2) (v % 2) = omega (arith, or_step u v) in
      ap (λ n. eqb (n % 2) 1) (or_shr x y a) ∙ ap (λ n. eqb n 1) e ∙ or_digit (u % 2) (v % 2) (omega arith) (omega arith)

  pub in_and : is_in (bit_and x y) a ≡ (is_in x a && is_in y a)
  in_and =
      let u = x / 2 ^ a in
      let v = y / 2 ^ a in
      let e : bit_and u v % 2 ≡ min (u % 2) (v % 2) = omega (arith, and_step u v) in
      ap (λ n. eqb (n % 2) 1) (and_shr x y a) ∙ ap (λ n. eqb n 1) e ∙ and_digit (u % 2) (v % 2) (omega arith) (omega arith)

-- neither of two tests holds
pub none_of : (x y : Bool) → (x || y) ≡ false → (x ≡ false) × (y ≡ false)
none_of false false e = (refl, refl)
none_of true y e = clash cc
none_of false true e = clash cc

-- no accelerator
pub in_none : (a : ℕ) → is_in 0 a ≡ false
in_none a = ap (λ n. eqb (n % 2) 1) (zero-div (2 ^ a))

-- one accelerator
one_bit : (h a : ℕ) → a ≡ h → bit a (2 ^ h) ≡ 1
one_bit h zero e = ap (λ n. bit 0 (2 ^ n)) (sym e)
one_bit zero (suc a) e = absurd (omega arith)
one_bit (suc h) (suc a) e =
    let s : 2 ^ suc h / 2 ≡ 2 ^ h = omega (arith, pow-suc 2 h) in
    bit_next a (2 ^ suc h) ∙ ap (bit a) s ∙ one_bit h a (omega arith)

other_bit : (h a : ℕ) → (a ≡ h → ⊥) → bit a (2 ^ h) ≡ 0
other_bit zero zero d = absurd (d refl)
other_bit (suc h) zero d = bit_first (2 ^ suc h) ∙ omega (arith, pow-suc 2 h)
other_bit zero (suc a) d = bit_none (suc a) 1 (omega (arith, pow-suc 2 a, pow_pos a))
other_bit (suc h) (suc a) d =
    let s : 2 ^ suc h / 2 ≡ 2 ^ h = omega (arith, pow-suc 2 h) in
    bit_next a (2 ^ suc h) ∙ ap (bit a) s ∙ other_bit h a (λ e. d (omega arith))

pub in_one : (h a : ℕ) → is_in (2 ^ h) a ≡ eqb a h
in_one h a = elim (ℕ_discrete a h) [
  | yes e ↦ ap (λ n. eqb n 1) (one_bit h a e) ∙ sym (eq-eqb a h e)
  | no d ↦ ap (λ n. eqb n 1) (other_bit h a d) ∙ sym (ne_eqb a h d)
]

-- those below n
below_bit : (n a : ℕ) → a < n → bit a (2 ^ n - 1) ≡ 1
below_bit zero a h = absurd (omega arith)
below_bit (suc n) zero h = bit_first (2 ^ suc n - 1) ∙ omega (arith, pow-suc 2 n, pow_pos n)
below_bit (suc n) (suc a) h =
    let s : (2 ^ suc n - 1) / 2 ≡ 2 ^ n - 1 = omega (arith, pow-suc 2 n, pow_pos n) in
    bit_next a (2 ^ suc n - 1) ∙ ap (bit a) s ∙ below_bit n a (omega arith)

pub in_below : (n a : ℕ) → is_in (2 ^ n - 1) a ≡ ltb a n
in_below n a = elim (dec_lt a n) [
  | yes h ↦ ap (λ x. eqb x 1) (below_bit n a h) ∙ sym (lt-ltb a n h)
  | no d ↦
      let m = pow_mono {i = n} {j = a} (omega arith) in
      ap (λ x. eqb x 1) (bit_none a (2 ^ n - 1) (omega (arith, m, pow_pos n))) ∙ sym (le-ltb a n (omega arith))
]

-- the lowest bit of a number x of k bits is bit z, and y is the number without it
pub record Lowest (k x z y : ℕ) : Type 0 where
  pub below : z < k
  pub own : bit z x ≡ 1
  pub before : (i : ℕ) → i < z → bit i x ≡ 0
  pub cleared : bit z y ≡ 0
  pub kept : (i : ℕ) → (i ≡ z → ⊥) → bit i y ≡ bit i x
  pub less : y < x

-- one digit more, below the others
even_lowest : (k x z y : ℕ) → x % 2 ≡ 0 → 0 < x → Lowest k (x / 2) z y → Lowest (suc k) x (suc z) (y * 2)
even_lowest k x z y e h L = record {
  below = omega (arith, L.below);
  own = bit_next z x ∙ L.own;
  before = before;
  cleared = bit_next z (y * 2) ∙ ap (bit z) half ∙ L.cleared;
  kept = kept;
  less = omega (arith, L.less);
}
  where
    half : y * 2 / 2 ≡ y
    half = omega arith

    before : (i : ℕ) → i < suc z → bit i x ≡ 0
    before zero b = bit_first x ∙ e
    before (suc i) b = bit_next i x ∙ L.before i (omega arith)

    kept : (i : ℕ) → (i ≡ suc z → ⊥) → bit i (y * 2) ≡ bit i x
    kept zero d = bit_first (y * 2) ∙ omega (arith, bit_first x)
    kept (suc i) d = bit_next i (y * 2) ∙ ap (bit i) half ∙ L.kept i (λ q. d (ap suc q)) ∙ sym (bit_next i x)

even_without : (x : ℕ) → x % 2 ≡ 0 → 0 < x → bit_and (x / 2) (x / 2 - 1) * 2 ≡ bit_and x (x - 1)
even_without x e h =
    let half : x / 2 - 1 ≡ (x - 1) / 2 = omega arith in
    let low : 0 ≡ min (x % 2) ((x - 1) % 2) = omega arith in
    let sum : bit_and (x / 2) (x / 2 - 1) * 2 ≡ bit_and (x / 2) (x / 2 - 1) * 2 + 0 = omega arith in
    sum ∙ ap₂ (λ n m. bit_and (x / 2) n * 2 + m) half low ∙ sym (and_step x (x - 1))

odd_lowest : (k x : ℕ) → x % 2 ≡ 1 → Lowest (suc k) x 0 (bit_and x (x - 1))
odd_lowest k x e = subst (Lowest (suc k) x 0) (sym twice) (record {
  below = omega arith;
  own = bit_first x ∙ e;
  before = λ i b. absurd (omega arith);
  cleared = bit_first (x / 2 * 2) ∙ omega arith;
  kept = kept;
  less = omega arith;
})
  where
    twice : bit_and x (x - 1) ≡ x / 2 * 2
    twice =
        let h : (x - 1) / 2 ≡ x / 2 = omega arith in
        let low : min (x % 2) ((x - 1) % 2) ≡ 0 = omega arith in
        and_step x (x - 1) ∙ ap₂ (λ n m. bit_and (x / 2) n * 2 + m) h low ∙ omega (arith, and_self (x / 2))

    kept : (i : ℕ) → (i ≡ 0 → ⊥) → bit i (x / 2 * 2) ≡ bit i x
    kept zero d = absurd (d refl)
    kept (suc i) d = let h : x / 2 * 2 / 2 ≡ x / 2 = omega arith in bit_next i (x / 2 * 2) ∙ ap (bit i) h ∙ sym (bit_next i x)

by_digit : (k x z d : ℕ) → x % 2 ≡ d → 0 < x → (d ≡ 0 → Lowest k (x / 2) z (bit_and (x / 2) (x / 2 - 1)))
    → Lowest (suc k) x (under d z) (bit_and x (x - 1))
by_digit k x z zero e h L = subst (Lowest (suc k) x (suc z)) (even_without x e h) (even_lowest k x z _ e h (L refl))
by_digit k x z (suc zero) e h L = odd_lowest k x e
by_digit k x z (suc (suc d)) e h L = absurd (omega arith)

pub lowest : (k x : ℕ) → 0 < x → x < 2 ^ k → Lowest k x (count_trailing_zeros k x) (bit_and x (x - 1))
unfolding count_trailing_zeros
lowest zero x h l = absurd (omega arith)
lowest (suc k) x h l =
    by_digit k x (count_trailing_zeros k (x / 2)) (x % 2) refl h (λ e. lowest k (x / 2) (omega arith) (omega (arith, pow-suc 2 k)))
