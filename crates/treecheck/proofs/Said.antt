-- What the rows say of a block that is in the tree, and of one that is not: by the test of its number.
use Prim.Native.Nat.{ℕ, ◌≤◌, ◌<◌}
use mathlib.Core.List.{List}
use mathlib.Core.Path.{◌≡◌, ap, sym, ◌∙◌}
use native.Mathlib.Omega.{arith}
use lib.Dec.{ltb}
use borrow.Author.Tests.{le-ltb, lt-ltb}
use Rattle.folds.specs.Fold.{pick}
use Rattle.folds.proofs.Folds.{picked, passed}
use Rattle.second.specs.Rows.{cell_of}

pub said_here : (d : List ℕ) (i n k r row column x : ℕ) → n ≡ k → i < n → r ≡ row → x ≡ cell_of d r column → x ≡ pick (ltb i k) (cell_of d row column) 0
said_here d i n k r row column x e h f g =
    g ∙ ap (λ (z : ℕ). cell_of d z column) f ∙ sym (picked (ltb i k) (cell_of d row column) 0 (lt-ltb i k (omega arith)))

pub said_past : (i n k x : ℕ) → n ≡ k → n ≤ i → 0 ≡ pick (ltb i k) x 0
said_past i n k x e h = sym (passed (ltb i k) x 0 (le-ltb i k (omega arith)))
