-- A list of entries by its places: induction on their count.
use Prim.Native.Nat.{ℕ, zero, suc, ◌+◌, ◌≤◌, ◌<◌}
use mathlib.Core.List.{List, [], ◌∷◌, ◌++◌}
use mathlib.Core.Path.{◌≡◌, refl, sym, ◌∙◌, ap, ap₂}
use native.Mathlib.Decide.{dec_lt}
use native.Mathlib.Omega.{arith}
use native.Mathlib.Numerals.{add-one}
use lib.ListN.{get_or, set, take, length, length-append, length-set, get_or-append}
use lib.Seq.{get_or_at, take_all, take-suc-set}
use Rattle.folds.specs.Fold.{entries}

module _ {A : Type 0} where
  pub entries_size : (n : ℕ) (f : ℕ → A) → length (entries n f) ≡ n
  unfolding entries
  entries_size zero f = refl
  entries_size (suc n) f = length-append (entries n f) (f n ∷ []) ∙ omega (arith, entries_size n f)

  pub entries_or : (n : ℕ) (f : ℕ → A) (i : ℕ) (d : A) → i < n → get_or (entries n f) i d ≡ f i
  unfolding entries
  entries_or zero f i d h = absurd (omega arith)
  entries_or (suc n) f i d h = elim (dec_lt i n) [
    | yes l ↦ get_or-append (entries n f) (f n ∷ []) d i (omega (arith, entries_size n f)) ∙ entries_or n f i d l
    | no k ↦
        let e : i ≡ n = omega arith in
        get_or_at (entries n f) (f n) [] d i (entries_size n f ∙ sym e) ∙ ap f (sym e)
  ]

  -- an array of n entries that is filled in order: those below i are
  abbrev pub Filled : ℕ → (ℕ → A) → List A → ℕ → Type 0
  Filled n f l i = (i ≤ n) × (length l ≡ n) × (take i l ≡ entries i f)

  pub filled_none : (n : ℕ) (f : ℕ → A) (l : List A) → length l ≡ n → Filled n f l 0
  unfolding entries
  filled_none n f l e = (omega arith, e, refl)

  pub filled_more : (n : ℕ) (f : ℕ → A) (l : List A) (i : ℕ) (x : A) → i < n → x ≡ f i → Filled n f l i → Filled n f (set l i x) (i + 1)
  unfolding entries
  filled_more n f l i x h e d = (
    omega arith,
    length-set l i x ∙ d.1,
    ap (λ (k : ℕ). take k (set l i x)) (add-one i)
        ∙ take-suc-set l i x (omega (arith, d.1))
        ∙ ap₂ (λ (k : List A) (y : A). k ++ y ∷ []) d.2 e
        ∙ ap (λ (k : ℕ). entries k f) (sym (add-one i)),
  )

  pub filled_all : (n : ℕ) (f : ℕ → A) (l : List A) (i : ℕ) → n ≤ i → Filled n f l i → l ≡ entries n f
  filled_all n f l i h d =
      sym (take_all i l (omega (arith, d.1))) ∙ d.2 ∙ ap (λ (k : ℕ). entries k f) {x = i} {y = n} (omega (arith, d.0))

pub entries_at : (n : ℕ) (f : ℕ → ℕ) (i : ℕ) → i < n → get_or (entries n f) i 0 ≡ f i
entries_at n f i h = entries_or n f i 0 h
