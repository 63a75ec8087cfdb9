-- Laws of lists that reading an array by a total accessor needs. By induction on the list.
use Prim.Native.Nat.{ℕ, zero, suc, ◌≤◌, ◌<◌}
use mathlib.Core.List.{List, [], ◌∷◌, map}
use mathlib.Core.Path.{◌≡◌, refl, sym, ◌∙◌, ap₂}
use mathlib.Core.Bool.{Bool, ◌&&◌}
use native.Mathlib.Nat.{le_of_suc-le-suc, not-suc-le-zero}
use native.Mathlib.Omega.{arith}
use lib.ListN.{get_or, length, length-map, get_or-eq_default}

-- an array of structs is as long as what it is mapped to
pub long : {A B : Type 0} (f : A → B) (l : List A) (n : ℕ) → length (map f l) ≡ n → length l ≡ n
long f l n e = sym (length-map l f) ∙ e

-- past the end stands the default
pub beyond : {A : Type 0} (l : List A) (d : A) (i n : ℕ) → length l ≡ n → n ≤ i → d ≡ get_or l i d
beyond l d i n e h = sym (get_or-eq_default l d (omega arith))

-- before the end the default does not matter
pub any_default : {A : Type 0} (l : List A) (c d : A) (i : ℕ) → i < length l → get_or l i c ≡ get_or l i d
any_default [] c d i h = absurd (not-suc-le-zero h)
any_default (x ∷ l) c d zero h = refl
any_default (x ∷ l) c d (suc i) h = any_default l c d i (le_of_suc-le-suc h)

-- a conjunction of equal tests is equal
pub and_cong : {a b x y : Bool} → a ≡ x → b ≡ y → (a && b) ≡ (x && y)
and_cong e d = ap₂ (λ (p q : Bool). p && q) e d
