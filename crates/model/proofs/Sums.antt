-- One more turn of a loop that adds up, and the bound of a weight beneath a port: eight ports a level, 255 at most at
-- each accelerator. By the clauses of the definitions, and by linear arithmetic over products taken as atoms.
use Prim.Native.Nat.{ℕ, zero, suc, ◌+◌, ◌-◌, ◌*◌, ◌^◌, ◌≤◌, ◌<◌}
use mathlib.Core.Path.{◌≡◌, refl, ap, sym, ◌∙◌}
use mathlib.Core.Bool.{Bool, true, ◌&&◌}
use native.Mathlib.Nat.{add-mul, one-mul, mul_comm, mul_left_comm, pow-suc, pow-le-pow_right, mul-le-mul_left, mul-le-mul_right, le_trans, le-mul_of_pos_right, one-le-pow, le_antisymm}
use native.Mathlib.Numerals.{add-one, sub-one}
use native.Mathlib.Omega.{arith}
use lib.Dec.{lit<}
use lib.ListN.{length}
use borrow.Author.Tests.{eq-eqb, ne_eqb}
use Rattle.model.proofs.Lists.{and_cong}
use Rattle.model.specs.declared.Tree.{Tree}
use Rattle.folds.specs.Fold.{sum, all}
use Rattle.model.specs.Tree.{port_of, parent_of, above}
use Rattle.model.specs.Beneath.{under, inside}

pub sum_none : (f : ℕ → ℕ) → sum 0 f ≡ 0
unfolding sum
sum_none f = refl

pub sum_more : (n : ℕ) (f : ℕ → ℕ) → sum (n + 1) f ≡ sum n f + f n
unfolding sum
sum_more n f = rw add-one

pub all_none : (f : ℕ → Bool) → all 0 f ≡ true
unfolding all
all_none f = refl

pub all_more : (n : ℕ) (f : ℕ → Bool) → all (n + 1) f ≡ (all n f && f n)
unfolding all
all_more n f = rw add-one

pub inside_at_none : (n : ℕ) (t : Tree) (w : ℕ → ℕ) (j : ℕ) → n ≡ 0 → inside n t w j ≡ 0
unfolding inside
inside_at_none n t w j e = rw e

pub inside_step : (n : ℕ) (t : Tree) (w : ℕ → ℕ) (j : ℕ) → (n ≡ 0 → ⊥) → inside n t w j ≡ sum 8 (λ p. under w (inside (n - 1) t w) (port_of t j p))
unfolding inside
inside_step zero t w j h = absurd (h refl)
inside_step (suc n) t w j h = rw sub-one

pub add_port : (p b s r : ℕ) → s ≤ p * b → r ≤ b → s + r ≤ (p + 1) * b
add_port p b s r h k = omega (arith, add-mul p 1 b, one-mul b)

pub eight_ports : (n : ℕ) → (n ≡ 0 → ⊥) → 8 * (255 * 8 ^ (n - 1)) ≡ 255 * 8 ^ n
eight_ports zero h = absurd (h refl)
eight_ports (suc n) h = rw (sub-one, pow-suc) (omega (arith, mul_left_comm 8 255 (8 ^ n), mul_comm (8 ^ n) 8))

pub four_levels : (n : ℕ) → n ≤ 4 → 255 * 8 ^ n ≤ 1044480
four_levels n h = mul-le-mul_left 255 (pow-le-pow_right (lit< tt) h)

pub parents_none : (n : ℕ) (t : Tree) (j : ℕ) → n ≡ 0 → 0 ≡ length (above n t j)
unfolding above
parents_none n t j e = rw e

pub parents_root : (n : ℕ) (t : Tree) (j : ℕ) → j ≡ 0 → 0 ≡ length (above n t j)
unfolding above
parents_root zero t j e = refl
parents_root (suc n) t j e = simp (eq-eqb j 0 e)

pub parents_step : (n : ℕ) (t : Tree) (j : ℕ) → (n ≡ 0 → ⊥) → (j ≡ 0 → ⊥) → length (above (n - 1) t (parent_of t j)) + 1 ≡ length (above n t j)
unfolding above
parents_step zero t j h k = absurd (h refl)
parents_step (suc n) t j h k = simp (sub-one, ne_eqb j 0 k, add-one)

pub sum_turn : (p : ℕ) (f : ℕ → ℕ) (s r : ℕ) → s ≡ sum p f → r ≡ f p → s + r ≡ sum (p + 1) f
sum_turn p f s r e d = cc (sum_more p f)

pub sum_end : (p n : ℕ) (f : ℕ → ℕ) (s : ℕ) → s ≡ sum p f → p ≡ n → s ≡ sum n f
sum_end p n f s e d = cc

-- no more than eight ports' worth has been added
pub eight_at_most : (p b s n : ℕ) → s ≤ p * b → p ≤ n → s ≤ n * b
eight_at_most p b s n h k = le_trans h (mul-le-mul_right b k)

pub room : (p n s r : ℕ) → p < 8 → n ≤ 4 → (n ≡ 0 → ⊥) → s ≤ p * (255 * 8 ^ (n - 1)) → r ≤ 255 * 8 ^ (n - 1) → s + r < 2 ^ 32
room p n s r h k z a b =
    omega (arith, eight_at_most (p + 1) (255 * 8 ^ (n - 1)) (s + r) 8 (add_port p (255 * 8 ^ (n - 1)) s r a b) (omega arith), eight_ports n z, four_levels n k)

pub byte_beneath : (n r : ℕ) → r < 256 → r ≤ 255 * 8 ^ n
byte_beneath n r h = le_trans (omega arith) (le-mul_of_pos_right 255 (one-le-pow n 8 (lit< tt)))

pub all_turn : (p : ℕ) (f : ℕ → Bool) (a b : Bool) → a ≡ all p f → b ≡ f p → (a && b) ≡ all (p + 1) f
all_turn p f a b e d = and_cong e d ∙ sym (all_more p f)

pub all_end : (p n : ℕ) (f : ℕ → Bool) (a : Bool) → a ≡ all p f → p ≤ n → n ≤ p → a ≡ all n f
all_end p n f a e h k = e ∙ ap (λ (m : ℕ). all m f) (le_antisymm h k)
