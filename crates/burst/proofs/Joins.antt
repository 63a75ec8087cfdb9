-- The three answers of the joiner, by the tests of its definition.
use Prim.Native.Nat.{ℕ}
use mathlib.Core.Bool.{true, false, ◌&&◌, not}
use mathlib.Core.Path.{◌≡◌, sym, ◌∙◌, ap}
use borrow.Author.Tests.{eq-eqb, ne_eqb}
use Rattle.folds.proofs.Folds.{picked, passed}
use Rattle.burst.specs.declared.joiner.Joiner.{Joiner}
use Rattle.burst.specs.Joiner.{joiner_keeps, taken, done, not_joined, joined, in_turn, onward, join_of}

pub join_refused : (j : Joiner) (m : ℕ) → joiner_keeps j && in_turn j m ≡ false → joined (not_joined 11) j ≡ join_of j m
unfolding join_of
join_refused j m e = sym (picked _ _ _ (ap not e))

pub join_done : (j : Joiner) (m : ℕ) → joiner_keeps j && in_turn j m ≡ true → m ≡ j.pieces → joined done (onward j m) ≡ join_of j m
unfolding join_of
join_done j m e l = sym (passed _ _ _ (ap not e) ∙ picked _ _ _ (eq-eqb m j.pieces l))

pub join_taken : (j : Joiner) (m : ℕ) → joiner_keeps j && in_turn j m ≡ true → (m ≡ j.pieces → ⊥) → joined taken (onward j m) ≡ join_of j m
unfolding join_of
join_taken j m e d = sym (passed _ _ _ (ap not e) ∙ passed _ _ _ (ne_eqb m j.pieces d))
