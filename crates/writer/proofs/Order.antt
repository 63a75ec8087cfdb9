-- Each accelerator stands once in the order of the ports: its own port carries it, and no other port does. So a sum over that order is
-- the sum over the numbers of the accelerators.
use Prim.Native.Nat.{ℕ, zero, suc, ◌+◌, ◌*◌, ◌≤◌, ◌<◌}
use mathlib.Core.List.{List, [], ◌∷◌, ◌++◌}
use mathlib.Core.Path.{◌≡◌, refl, sym, ◌∙◌, ap, ap₂}
use native.Mathlib.Decide.{dec_lt, ℕ_discrete}
use native.Mathlib.Nat.{zero-mul, one-mul, add-mul}
use native.Mathlib.Omega.{arith}
use lib.Dec.{ltb}
use borrow.Author.Tests.{lt-ltb, le-ltb}
use Rattle.model.specs.declared.Tree.{Tree}
use Rattle.folds.specs.Fold.{pick, sum}
use Rattle.folds.proofs.Folds.{picked, passed, sum_cong, sum_add, sum_zero, sum_single}
use Rattle.model.specs.Tree.{port_of, home_of, home_port_of}
use Rattle.rules.proofs.Sound.{Sound}
use Rattle.rules.proofs.Beneath.{only, only_same, only_other, at_port}
use Rattle.put.specs.Page.{joined}
use Rattle.writer.specs.Writer.{carried_by, carried_in, port_order, times}

pub times_append : (a : ℕ) (xs ys : List ℕ) → times a (xs ++ ys) ≡ times a xs + times a ys
unfolding times
times_append a [] ys = omega arith
times_append a (x ∷ xs) ys = omega (arith, times_append a xs ys)

times_joined : (a n : ℕ) (f : ℕ → List ℕ) → times a (joined n f) ≡ sum n (λ i. times a (f i))
unfolding joined sum times
times_joined a zero f = refl
times_joined a (suc n) f = omega (arith, times_append a (joined n f) (f n), times_joined a n f)

module _ (t : Tree) (S : Sound t) where
  -- a port that is not its own does not carry an accelerator
  elsewhere : (a j p : ℕ) → j < t.ints → p < 8 → (a < t.accs → home_of t a ≡ j → home_port_of t a ≡ p → ⊥)
      → times a (carried_by (port_of t j p)) ≡ 0
  unfolding times
  elsewhere a j p h k d =
      at_port t S (λ x. times a (carried_by x) ≡ 0) j p h k refl
      (λ c l f g. elim (ℕ_discrete a c) [
        | yes e ↦ absurd (d (omega arith) (ap (home_of t) e ∙ f) (ap (home_port_of t) e ∙ g))
        | no e ↦ omega (arith, only_other a c e)
      ])
      (λ _ _ _ _ _. refl)

  by_ports : (a : ℕ) → times a (port_order t) ≡ sum t.ints (λ j. sum 8 (λ p. times a (carried_by (port_of t j p))))
  by_ports a = times_joined a t.ints (carried_in t) ∙ sum_cong t.ints _ _ (λ j h. times_joined a 8 (λ p. carried_by (port_of t j p)))

  known : (a : ℕ) → a < t.accs → times a (port_order t) ≡ 1
  unfolding times
  known a l =
      let at : ℕ → ℕ → ℕ = λ j p. times a (carried_by (port_of t j p)) in
      by_ports a
      ∙ sum_single t.ints (λ j. sum 8 (at j)) (home_of t a) (S.home a l)
      (λ j h d. sum_zero 8 (at j) (λ p k. elsewhere a j p h k (λ _ f g. d (sym f))))
      ∙ sum_single 8 (at (home_of t a)) (home_port_of t a) (S.home_port a l)
      (λ p k d. elsewhere a (home_of t a) p (S.home a l) k (λ _ f g. d (sym g)))
      ∙ ap (λ x. times a (carried_by x)) (S.home_carries a l)
      ∙ omega (arith, only_same a a refl)

  pub unknown : (a : ℕ) → t.accs ≤ a → times a (port_order t) ≡ 0
  unknown a h =
      by_ports a
      ∙ sum_zero t.ints _ (λ j l. sum_zero 8 (λ p. times a (carried_by (port_of t j p))) (λ p k. elsewhere a j p l k (λ b _ _. omega arith)))

  -- "numbers 0 to n - 1 each once"
  pub order_once : (a : ℕ) → times a (port_order t) ≡ pick (ltb a t.accs) 1 0
  order_once a = elim (dec_lt a t.accs) [
    | yes l ↦ known a l ∙ sym (picked _ _ _ (lt-ltb a t.accs l))
    | no h ↦ unknown a (omega arith) ∙ sym (passed _ _ _ (le-ltb a t.accs (omega arith)))
  ]

-- the sum of f over a list of numbers
unfoldable pub over : (ℕ → ℕ) → List ℕ → ℕ
over f [] = 0
over f (x ∷ l) = f x + over f l

one_term : (n : ℕ) (f : ℕ → ℕ) (x : ℕ) → x < n → sum n (λ a. only a x * f a) ≡ f x
one_term n f x h =
    sum_single n (λ a. only a x * f a) x h (λ a _ d. ap (λ k. k * f a) (only_other a x d) ∙ zero-mul (f a))
    ∙ ap (λ k. k * f x) (only_same x x refl) ∙ one-mul (f x)

over_times : (n : ℕ) (f : ℕ → ℕ) (l : List ℕ) → ((a : ℕ) → n ≤ a → times a l ≡ 0) → over f l ≡ sum n (λ a. times a l * f a)
unfolding over times
over_times n f [] z = sym (sum_zero n _ (λ a _. zero-mul (f a)))
over_times n f (x ∷ l) z =
    let h : x < n = elim (dec_lt x n) [ yes k ↦ k | no k ↦ absurd (omega (arith, z x (omega arith), only_same x x refl)) ] in
    ap₂ ◌+◌ (sym (one_term n f x h)) (over_times n f l (λ a k. omega (arith, z a k)))
    ∙ sym (sum_add n (λ a. only a x * f a) (λ a. times a l * f a))
    ∙ sum_cong n _ _ (λ a _. sym (add-mul (only a x) (times a l) (f a)))

-- a sum over the order of the ports
pub over_order : (t : Tree) → Sound t → (f : ℕ → ℕ) → over f (port_order t) ≡ sum t.accs f
over_order t S f =
    over_times t.accs f (port_order t) (unknown t S)
    ∙ sum_cong t.accs _ _ (λ a l. ap (λ k. k * f a) (known t S a l) ∙ one-mul (f a))
