-- One step of each walk: the clauses of the definitions, as the code takes them.
use Prim.Native.Nat.{ℕ, zero, suc, ◌-◌}
use mathlib.Core.Bool.{true, false, ◌||◌}
use mathlib.Core.List.{List, [], ◌∷◌}
use mathlib.Core.Path.{◌≡◌, refl, sym, ◌∙◌, ap}
use native.Mathlib.Omega.{arith}
use lib.Dec.{eqb}
use borrow.Author.Tests.{eq-eqb, ne_eqb}
use Rattle.model.specs.declared.Tree.{Tree}
use Rattle.model.specs.Tree.{Crossing, parent_of, parent_port_of, above}
use Rattle.folds.proofs.Folds.{picked, passed}
use Rattle.meeting.specs.Meeting.{crosses, meeting}

pub above_none : (n : ℕ) (t : Tree) (j : ℕ) → n ≡ 0 → above n t j ≡ []
unfolding above
above_none n t j e = rw e

pub above_root : (n : ℕ) (t : Tree) (j : ℕ) → j ≡ 0 → above n t j ≡ []
unfolding above
above_root zero t j e = refl
above_root (suc n) t j e = picked _ _ _ (eq-eqb j 0 e)

pub above_step : (n : ℕ) (t : Tree) (j : ℕ) → (n ≡ 0 → ⊥) → (j ≡ 0 → ⊥)
    → above n t j ≡ record { interconnect = parent_of t j; port = parent_port_of t j } ∷ above (n - 1) t (parent_of t j)
unfolding above
above_step zero t j h k = absurd (h refl)
above_step (suc n) t j h k =
    passed _ _ _ (ne_eqb j 0 k)
    ∙ ap (λ (m : ℕ). record { interconnect = parent_of t j; port = parent_port_of t j } ∷ above m t (parent_of t j)) {x = n} {y = suc n - 1} (omega arith)

pub crosses_none : (i : ℕ) (xs : List Crossing) → xs ≡ [] → false ≡ crosses i xs
unfolding crosses
crosses_none i xs e = sym (ap (crosses i) e)

pub crosses_step : (i : ℕ) (x : Crossing) (xs : List Crossing) → crosses i (x ∷ xs) ≡ (eqb i x.interconnect || crosses i xs)
unfolding crosses
crosses_step i x xs = refl

pub meeting_none : (xs ys : List Crossing) → xs ≡ [] → 0 ≡ (meeting xs ys).interconnect
unfolding meeting
meeting_none xs ys e = sym (ap (λ (l : List Crossing). (meeting l ys).interconnect) e)

pub meeting_here : (x : Crossing) (xs ys : List Crossing) → crosses x.interconnect ys ≡ true → meeting (x ∷ xs) ys ≡ x
unfolding meeting
meeting_here x xs ys e = picked _ _ _ e

pub meeting_above : (x : Crossing) (xs ys : List Crossing) → crosses x.interconnect ys ≡ false → meeting (x ∷ xs) ys ≡ meeting xs ys
unfolding meeting
meeting_above x xs ys e = passed _ _ _ e
