-- Where two paths meet (document 02, item 1: "the deepest interconnect that both paths cross").
--
-- crosses i xs        interconnect i is one of the crossings xs
-- meeting xs ys       the first of the crossings xs, nearest first, whose interconnect ys cross too
-- meet_of t a b        where the path of accelerator a, from its own interconnect up, first crosses that of b: the interconnect,
--                     and the port of it by which a comes in
-- Deepest t a b i     both paths cross interconnect i, and none that both cross is deeper
use Rattle.std.specs.Prelude.{ℕ, ◌≤◌, Bool, true, false, ◌||◌, List, [], ◌∷◌, ◌≡◌, eqb}
use Rattle.model.specs.declared.Tree.{Tree}
use Rattle.folds.specs.Fold.{pick}
use Rattle.model.specs.Tree.{Crossing, path, level_of}

unfoldable pub crosses : ℕ → List Crossing → Bool
crosses i [] = false
crosses i (x ∷ xs) = eqb i x.interconnect || crosses i xs

unfoldable pub meeting : List Crossing → List Crossing → Crossing
meeting [] ys = record { interconnect = 0; port = 0 }
meeting (x ∷ xs) ys = pick (crosses x.interconnect ys) x (meeting xs ys)

abbrev pub meet_of : Tree → ℕ → ℕ → Crossing
meet_of t a b = meeting (path t a) (path t b)

pub record Deepest (t : Tree) (a b i : ℕ) : Type 0 where
  pub first : crosses i (path t a) ≡ true
  pub second : crosses i (path t b) ≡ true
  pub deepest : (j : ℕ) → crosses j (path t a) ≡ true → crosses j (path t b) ≡ true → level_of t j ≤ level_of t i
