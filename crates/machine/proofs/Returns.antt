-- The returns of an accelerator as a number: one slot older, one more, and how many there are; and a list of such numbers mapped in a
-- loop. By the digits of a number.
use Prim.Native.Nat.{ℕ, zero, suc, ◌+◌, ◌*◌, ◌/◌, ◌%◌, ◌^◌, ◌≤◌, ◌<◌}
use mathlib.Core.List.{List, [], ◌∷◌, map}
use mathlib.Core.Path.{◌≡◌, refl, sym, ap, ap₂, subst, ◌∙◌}
use native.Mathlib.Nat.{pow-suc, mod-lt, not-suc-le-zero, le_of_suc-le-suc, zero-mod, mul_assoc, one-le-pow, div-add-mod'}
use native.Mathlib.Numerals.{add-one}
use native.Mathlib.Omega.{arith}
use lib.Count.{ones, ones_cat}
use lib.Dec.{lit<}
use lib.ListN.{get_or, set, length, get_or-map}
use lib.Pow.{split, low, shl_exact, pow_mono}
use Rattle.rules.proofs.Returns.{double}
use Rattle.machine.specs.Machine.{older}

pub no_ones : (x : ℕ) → x ≡ 0 → ones x ≡ 0
unfolding ones
no_ones x e = rw e

pub one_one : ones 1 ≡ 1
unfolding ones
one_one = refl

pub older_zero : (r : ℕ) → older r 0 ≡ 0
older_zero r = zero-mod (2 ^ (r + 1))

pub older_at : (r : ℕ) (l : List ℕ) (a : ℕ) → get_or (map (older r) l) a 0 ≡ older r (get_or l a 0)
older_at r l a =
    subst (λ z. get_or (map (older r) l) a z ≡ older r (get_or l a 0)) (older_zero r) (get_or-map (older r) l a 0)

power : (r : ℕ) → 2 ^ (r + 1) ≡ 2 ^ r * 2
power r = ap (λ n. 2 ^ n) (add-one r) ∙ pow-suc 2 r

pub older_recent : (r x : ℕ) → older r x < 2 ^ (r + 1)
older_recent r x = mod-lt (x * 2) (one-le-pow (r + 1) 2 (lit< tt))

-- the top digit is dropped, and the rest moves up
pub parts : (r x : ℕ) → older r x ≡ x % 2 ^ r * 2
parts r x =
    ap (λ n. n % 2 ^ (r + 1)) {x = x * 2} {y = x / 2 ^ r * 2 ^ (r + 1) + x % 2 ^ r * 2}
    (omega (arith, split x r, ap (λ n. x / 2 ^ r * n) (power r), mul_assoc (x / 2 ^ r) (2 ^ r) 2))
    ∙ low (x / 2 ^ r) (r + 1) (omega (arith, power r, mod-lt x (one-le-pow r 2 (lit< tt))))

twos : (n : ℕ) → n * 2 % 2 ≡ 0
twos n = omega arith

pub older_even : (r x : ℕ) → older r x % 2 ≡ 0
older_even r x = ap (λ n. n % 2) (parts r x) ∙ twos (x % 2 ^ r)

twice : (x : ℕ) → ones (x * 2) ≡ ones x
twice x =
    ap ones {x = x * 2} {y = x * 2 ^ 1 + 0} (omega arith) ∙ ones_cat 1 x 0 (lit< tt) ∙ omega (arith, no_ones 0 refl)

-- whoever was r slots ago served comes home
pub older_home : (r x : ℕ) → ones x ≡ ones (older r x) + ones (x / 2 ^ r)
older_home r x =
    ap ones (sym (split x r)) ∙ ones_cat r (x / 2 ^ r) (x % 2 ^ r) (mod-lt x (one-le-pow r 2 (lit< tt)))
    ∙ omega (arith, ap ones (parts r x), twice (x % 2 ^ r))

pub older_fewer : (r x : ℕ) → ones (older r x) ≤ ones x
older_fewer r x = omega (arith, older_home r x)

pub one_more : (x : ℕ) → x % 2 ≡ 0 → ones (x + 1) ≡ ones x + 1
one_more x e =
    ap ones {x = x + 1} {y = x / 2 * 2 ^ 1 + 1} (omega (arith, div-add-mod' x 2)) ∙ ones_cat 1 (x / 2) 1 (lit< tt)
    ∙ omega (arith, one_one, twice (x / 2), ap ones {x = x} {y = x / 2 * 2} (omega (arith, div-add-mod' x 2)))

-- the first n of a list mapped: a loop that stores each anew
unfoldable pub map_to : (ℕ → ℕ) → ℕ → List ℕ → List ℕ
map_to f zero l = l
map_to f (suc n) [] = []
map_to f (suc n) (x ∷ l) = f x ∷ map_to f n l

pub map_none : (f : ℕ → ℕ) (l : List ℕ) → l ≡ map_to f 0 l
unfolding map_to
map_none f l = refl

map_read : (f : ℕ → ℕ) (n : ℕ) (l : List ℕ) → get_or (map_to f n l) n 0 ≡ get_or l n 0
unfolding map_to
map_read f zero l = refl
map_read f (suc n) [] = refl
map_read f (suc n) (x ∷ l) = map_read f n l

map_more : (f : ℕ → ℕ) (n : ℕ) (l : List ℕ) → set (map_to f n l) n (f (get_or l n 0)) ≡ map_to f (suc n) l
unfolding map_to
map_more f zero [] = refl
map_more f zero (x ∷ l) = refl
map_more f (suc n) [] = refl
map_more f (suc n) (x ∷ l) = ap (λ (t : List ℕ). f x ∷ t) (map_more f n l)

pub map_turn : (f : ℕ → ℕ) (n y : ℕ) (l m : List ℕ) → m ≡ map_to f n l → y ≡ f (get_or m n 0)
    → set m n y ≡ map_to f (n + 1) l
map_turn f n y l m e q =
    ap₂ (λ (p : List ℕ) (z : ℕ). set p n z) e (q ∙ ap (λ (p : List ℕ). f (get_or p n 0)) e ∙ ap f (map_read f n l))
    ∙ map_more f n l ∙ ap (λ (i : ℕ). map_to f i l) (sym (add-one n))

pub map_end : (f : ℕ → ℕ) (n : ℕ) (l : List ℕ) → length l ≤ n → map_to f n l ≡ map f l
unfolding map_to
map_end f zero [] h = refl
map_end f zero (x ∷ l) h = absurd (not-suc-le-zero h)
map_end f (suc n) [] h = refl
map_end f (suc n) (x ∷ l) h = ap (λ (t : List ℕ). f x ∷ t) (map_end f n l (le_of_suc-le-suc h))

-- the shift of the code is the power of the definition
pub shifted : (d : ℕ) → d ≤ 15 → 2 * 2 ^ d % 2 ^ 64 ≡ 2 ^ (d + 1)
shifted d h = shl_exact {a = 2} 2 d 64 (lit< tt) (omega arith) ∙ double d

pub power_most : (d : ℕ) → d ≤ 15 → 2 ^ (d + 1) ≤ 65536
power_most d h = pow_mono {i = d + 1} {j = 16} (omega arith)
