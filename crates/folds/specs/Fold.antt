-- Choice and folds that the other definitions are written with.
--
-- pick c a b     a if the test c holds, else b
-- sum n f        f 0 + f 1 + .. + f (n - 1)
-- all n f        f holds of every number below n
-- within l x h   x is at least l and at most h
-- ceiling n p    n / p, rounded up
-- entries n f    f 0, f 1, .. f (n - 1) as a list
use Rattle.std.specs.Prelude.{ℕ, zero, suc, ◌+◌, ◌-◌, ◌/◌, Bool, true, false, ◌&&◌, List, [], ◌∷◌, ◌++◌, leb}

abbrev pub pick : {A : Type 0} → Bool → A → A → A
pick true a b = a
pick false a b = b

unfoldable pub sum : ℕ → (ℕ → ℕ) → ℕ
sum zero f = 0
sum (suc n) f = sum n f + f n

unfoldable pub all : ℕ → (ℕ → Bool) → Bool
all zero f = true
all (suc n) f = all n f && f n

abbrev pub within : ℕ → ℕ → ℕ → Bool
within low x high = leb low x && leb x high

abbrev pub ceiling : ℕ → ℕ → ℕ
ceiling n p = (n + (p - 1)) / p

unfoldable pub entries : {A : Type 0} → ℕ → (ℕ → A) → List A
entries zero f = []
entries (suc n) f = entries n f ++ f n ∷ []
