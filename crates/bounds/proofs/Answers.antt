-- The three answers of a bound, each from the test that picks it. By the definition's own order of tests.
use Prim.Native.Nat.{ℕ, ◌≤◌, ◌<◌}
use mathlib.Core.Bool.{true, false, not}
use mathlib.Core.Path.{◌≡◌, ap, ◌∙◌}
use borrow.Author.Tests.{le-leb, lt-leb}
use Rattle.model.specs.declared.Tree.{Tree}
use Rattle.rules.specs.Rules.{tree_keeps}
use Rattle.folds.proofs.Folds.{picked, passed}
use Rattle.bounds.specs.Bounds.{refused, analysed, analysis_of, bound_of}

module _ (t : Tree) (a : ℕ) where
  pub bound_broken : tree_keeps t ≡ false → bound_of t a ≡ refused 11
  unfolding bound_of
  bound_broken e = picked (not (tree_keeps t)) _ _ (ap not e)

  pub bound_unknown : tree_keeps t ≡ true → t.accs ≤ a → bound_of t a ≡ refused 7
  unfolding bound_of
  bound_unknown e l = passed (not (tree_keeps t)) _ _ (ap not e) ∙ picked _ _ _ (le-leb _ _ l)

  pub bound_analysed : tree_keeps t ≡ true → a < t.accs → bound_of t a ≡ analysed (analysis_of t a)
  unfolding bound_of
  bound_analysed e l = passed (not (tree_keeps t)) _ _ (ap not e) ∙ passed _ _ _ (lt-leb _ _ l)
