-- What the second machine's look at the returning transactions says of the definitions: by the place of a ticket in its ring, and by the
-- step of `due_below`.
use Rattle.std.proofs.Common.{◌≡◌, ℕ, ◌+◌, ◌*◌, ◌%◌, ◌^◌, ◌≤◌, min, Bool, false, ◌||◌, eqb, List, refl, ap, ◌∙◌, add-one, arith}
use Rattle.store.specs.Store.{number_at}
use Rattle.second.specs.Machine.{returning_of, due_of, due_below, is_due}

pub due_at :
    (d : List ℕ) (a k x y z : ℕ)
    → x ≡ number_at d 2240 a → y ≡ (x + k) % 2 ^ 64 → z ≡ number_at d 5120 (a % 32 * 32 + y % 32) → z ≡ due_of d a k
due_at d a k x y z e f g =
    g ∙ ap (λ (i : ℕ). number_at d 5120 (a % 32 * 32 + i % 32)) f ∙ ap (λ (i : ℕ). number_at d 5120 (a % 32 * 32 + (i + k) % 2 ^ 64 % 32)) e

pub due_none : (d : List ℕ) (a n : ℕ) → false ≡ due_below 0 d a n
unfolding due_below
due_none d a n = refl

pub due_turn : (d : List ℕ) (a n k x : ℕ) (b : Bool) → b ≡ due_below k d a n → x ≡ due_of d a k → (b || eqb x n) ≡ due_below (k + 1) d a n
unfolding due_below
due_turn d a n k x b e f = rw add-one (cc)

pub due_end :
    (d : List ℕ) (a n k many x : ℕ) (b : Bool)
    → b ≡ due_below k d a n → k ≤ many → many ≤ k → many ≡ min x 32 → x ≡ returning_of d a → b ≡ is_due d a n
due_end d a n k many x b e l m f g =
    e ∙ ap (λ (i : ℕ). due_below i d a n) (omega arith) ∙ ap (λ (i : ℕ). due_below i d a n) f ∙ ap (λ (i : ℕ). due_below (min i 32) d a n) g
