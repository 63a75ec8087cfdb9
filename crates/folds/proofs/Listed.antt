-- The folds over the numbers below n, said of the list of these numbers, as a chain of iterators says them: by induction on n.
use Prim.Native.Nat.{ℕ, zero, suc, ◌+◌}
use mathlib.Core.Bool.{Bool, true, false, ◌&&◌}
use mathlib.Core.Path.{◌≡◌, refl, ap, ◌∙◌}
use mathlib.Core.List.{[], ◌∷◌, ◌++◌}
use native.Mathlib.Omega.{arith}
use Rattle.std.specs.List.{list_all, range_with_len, sum_by}
use Rattle.std.proofs.lemmas.List.Folds.{list_all-append}
use Rattle.std.proofs.lemmas.List.Sums.{sum_by-append}
use Rattle.folds.specs.Fold.{all, sum}

-- the numbers below n + 1 are those below n, and n
pub range_more : (a n : ℕ) → range_with_len a (suc n) ≡ range_with_len a n ++ (a + n) ∷ []
range_more a zero = ap (λ k. k ∷ []) (omega arith)
range_more a (suc n) = ap (λ l. a ∷ l) (range_more (a + 1) n ∙ ap (λ k. range_with_len (a + 1) n ++ k ∷ []) (omega arith))

range_next : (n : ℕ) → range_with_len 0 (suc n) ≡ range_with_len 0 n ++ n ∷ []
range_next n = range_more 0 n ∙ ap (λ k. range_with_len 0 n ++ k ∷ []) (omega arith)

and_true : (b : Bool) → (b && true) ≡ b
and_true true = refl
and_true false = refl

pub all_listed : (n : ℕ) (f : ℕ → Bool) → list_all f (range_with_len 0 n) ≡ all n f
unfolding all
all_listed zero f = refl
all_listed (suc n) f =
    ap (list_all f) (range_next n)
    ∙ list_all-append f (range_with_len 0 n) (n ∷ [])
    ∙ ap (λ b. b && (f n && true)) (all_listed n f)
    ∙ ap (λ b. all n f && b) (and_true (f n))

pub sum_listed : (n : ℕ) (f : ℕ → ℕ) → sum_by f (range_with_len 0 n) ≡ sum n f
unfolding sum
sum_listed zero f = refl
sum_listed (suc n) f =
    ap (sum_by f) (range_next n) ∙ sum_by-append f (range_with_len 0 n) (n ∷ []) ∙ omega (arith, sum_listed n f)

-- the same as a chain's answer is told: each is a `using` of the function
pub all_by_list : (n : ℕ) (f : ℕ → Bool) (b : Bool) → b ≡ list_all f (range_with_len 0 n) → b ≡ all n f
all_by_list n f b e = e ∙ all_listed n f

pub sum_by_list : (n : ℕ) (f : ℕ → ℕ) (s : ℕ) → s ≡ sum_by f (range_with_len 0 n) → s ≡ sum n f
sum_by_list n f s e = e ∙ sum_listed n f
