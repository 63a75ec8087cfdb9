-- The arrays of a configuration and of a state have the lengths of their type. By their lengths, which a program's value has.
use Prim.Native.Nat.{ℕ, zero, suc}
use mathlib.Core.Path.{◌≡◌, refl}
use mathlib.Core.Bool.{true}
use mathlib.Core.List.{List, [], ◌∷◌}
use mir.Val.{Val}
use denote.Array.{each}
use denote.Shadow.{shadow}
use borrow.Author.Rules.{rules}
use lib.ListN.{get_or, length}
use borrow.Author.Tests.{eq-eqb}
use Rattle.folds.proofs.Folds.{joined, at_all}
use Rattle.model.specs.declared.Tree.{Tree}
use Rattle.model.specs.declared.State.{State}
use Rattle.model.specs.declared.Interconnect.{Interconnect}
use Rattle.model.specs.Tree.{interconnect_of, no_interconnect}
use Rattle.model.specs.contracts.Interconnect.{the_row}
use Rattle.rules.specs.Rules.{sized_tree, sized}

-- an interconnect that a program holds in an array has eight ports
pub eight_cells : (l : List Interconnect) (us : List Val) → shadow (each the_row.Denot the_row.own_val l us)
    → (j : ℕ) → length (get_or l j no_interconnect).ports ≡ 8
eight_cells [] us p j = refl
eight_cells (x ∷ l) [] p j = absurd p
eight_cells (x ∷ l) (u ∷ us) p zero = search rules
eight_cells (x ∷ l) (u ∷ us) p (suc j) = eight_cells l us p.1 j

-- every configuration that a program holds has arrays of their lengths
pub sized_tree_yes : (t : Tree) → length t.interconnects ≡ 15 → length t.accelerators ≡ 32
    → ((j : ℕ) → length (interconnect_of t j).ports ≡ 8) → sized_tree t ≡ true
sized_tree_yes t i a p =
    joined _ _ (joined _ _ (eq-eqb _ _ i) (eq-eqb _ _ a)) (at_all 15 _ (λ j l. eq-eqb _ _ (p j)))

-- every state that a program holds has arrays of their lengths
pub sized_yes : (s : State) → length s.waiting ≡ 32 → length s.admitted ≡ 32 → length s.last ≡ 15 → length s.allowance ≡ 15 → length s.returning ≡ 32 → sized s ≡ true
unfolding sized
sized_yes s w a l o r = simp (eq-eqb _ _ w, eq-eqb _ _ a, eq-eqb _ _ l, eq-eqb _ _ o, eq-eqb _ _ r)
