-- Lines one after the other: one more turn of a loop that writes a line a turn. By the clauses of the definitions.
use Prim.Native.Nat.{ℕ, zero, suc, ◌+◌, ◌*◌}
use mathlib.Core.List.{List, ◌++◌, append_assoc, append-nil}
use mathlib.Core.Path.{◌≡◌, ap, sym, ◌∙◌}
use native.Mathlib.Nat.{mul-add, mul-one, add-zero, add-suc}
use native.Mathlib.Numerals.{add-one}
use native.Mathlib.Omega.{arith}
use Rattle.put.specs.Page.{joined}
use Rattle.put.specs.declared.Text.{Text}
use Rattle.put.specs.Texts.{Puts}
use Rattle.put.proofs.Texts.{puts_none, puts_then, puts_as, puts_most}

pub joined_more : (n : ℕ) (f : ℕ → List ℕ) → joined (n + 1) f ≡ joined n f ++ f n
unfolding joined
joined_more n f = rw add-one

-- the lines of a page and those of the pages after it
pub joined_add : (m n : ℕ) (f : ℕ → List ℕ) → joined (m + n) f ≡ joined m f ++ joined n (λ i. f (m + i))
unfolding joined
joined_add m zero f = rw (add-zero, append-nil)
joined_add m (suc n) f = rw (add-suc) (ap (λ (l : List ℕ). l ++ f (m + n)) (joined_add m n f) ∙ append_assoc (joined m f) (joined n (λ i. f (m + i))) (f (m + n)))

-- no line is put before the first turn
pub lines_none : (k : ℕ) (f : ℕ → List ℕ) (a : Text) → Puts (k * 0) a (joined 0 f) a
unfolding joined
lines_none k f a = puts_most (omega arith) (puts_none a)

pub lines_turn : (k : ℕ) (f : ℕ → List ℕ) (i : ℕ) {a b c : Text} → Puts (k * i) a (joined i f) b → Puts k b (f i) c → Puts (k * (i + 1)) a (joined (i + 1) f) c
lines_turn k f i p q =
    puts_most (omega (arith, mul-add k i 1, mul-one k)) (puts_as (sym (joined_more i f)) (puts_then p q))
