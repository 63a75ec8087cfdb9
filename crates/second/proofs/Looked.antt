-- What the second reader's look at a row says of the definitions: by the tests, and by the step of `carried_below`.
use Rattle.std.proofs.Common.{◌≡◌, ℕ, ◌+◌, ◌%◌, ◌^◌, ◌<◌, ◌≤◌, Bool, true, false, ◌&&◌, eqb, ltb, List, sym, refl, ap, ◌∙◌, add-one, arith, le-ltb, lt-ltb, le-leb}
use borrow.Author.Tests.{lt-leb}
use Rattle.folds.proofs.Folds.{picked, passed}
use Rattle.second.specs.Rows.{cell_of, rows_of, ints_of, is_on, block_of, carried_below}

pub on_past : (d : List ℕ) (i p r n : ℕ) → n ≡ rows_of d → n ≤ r → false ≡ is_on d i p r
unfolding is_on
on_past d i p r n e h = let z : ltb r (rows_of d) ≡ false = le-ltb r (rows_of d) (omega arith) in rw z

pub on_row : (d : List ℕ) (i p r n x y : ℕ) → n ≡ rows_of d → r < n → x ≡ cell_of d r 1 → y ≡ cell_of d r 2 → (ltb 0 r && eqb x i && eqb y p) ≡ is_on d i p r
unfolding is_on
on_row d i p r n x y e h f g = let z : ltb r (rows_of d) ≡ true = lt-ltb r (rows_of d) (omega arith) in rw z (cc)

pub block_int : (d : List ℕ) (r n x y : ℕ) → n ≡ ints_of d → r ≤ n → x ≡ cell_of d r 0 → y ≡ (x + 32) % 2 ^ 64 → y ≡ block_of d r
unfolding block_of
block_int d r n x y e h f g =
    g ∙ ap (λ (z : ℕ). (z + 32) % 2 ^ 64) f ∙ sym (picked _ _ _ (le-leb r (ints_of d) (omega arith)))

pub block_acc : (d : List ℕ) (r n x : ℕ) → n ≡ ints_of d → n < r → x ≡ cell_of d r 0 → x ≡ block_of d r
unfolding block_of
block_acc d r n x e h f = f ∙ sym (passed _ _ _ (lt-leb r (ints_of d) (omega arith)))

pub carried_none : (d : List ℕ) (i p : ℕ) → 255 ≡ carried_below 0 d i p
unfolding carried_below
carried_none d i p = refl

pub carried_on : (d : List ℕ) (i p r x : ℕ) (b : Bool) → b ≡ is_on d i p r → b ≡ true → x ≡ block_of d r → x ≡ carried_below (r + 1) d i p
unfolding carried_below
carried_on d i p r x b e h f = rw add-one (f ∙ sym (picked _ _ _ (sym e ∙ h)))

pub carried_off : (d : List ℕ) (i p r x : ℕ) (b : Bool) → b ≡ is_on d i p r → b ≡ false → x ≡ carried_below r d i p → x ≡ carried_below (r + 1) d i p
unfolding carried_below
carried_off d i p r x b e h f = rw add-one (f ∙ sym (passed _ _ _ (sym e ∙ h)))
