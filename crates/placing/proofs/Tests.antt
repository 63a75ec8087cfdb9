-- The answer of each chain of tests at each return, over any values: the same order of tests in code and definition.
use Prim.Native.Nat.{ℕ, ◌≤◌, ◌<◌}
use mathlib.Core.Bool.{Bool, true, false, ◌&&◌}
use mathlib.Core.List.{List}
use mathlib.Core.Path.{◌≡◌, refl, ◌∙◌, ap}
use lib.Dec.{ltb, eqb}
use lib.ListN.{get_or}
use borrow.Author.Tests.{lt-ltb, le-ltb, le-leb, lt-leb, eq-eqb, ne_eqb, eqb-true}
use Rattle.model.specs.declared.Tree.{Tree}
use Rattle.model.specs.declared.Refusal.TheVariants.{Shape, Limit, Order, Taken, Level}
use Rattle.model.specs.Tree.{port_of, phi_of, level_of}
use Rattle.rules.specs.Rules.{is_empty}
use Rattle.folds.proofs.Folds.{picked, passed, both}
use Rattle.lines.specs.declared.Kind.{Kind}
use Rattle.lines.specs.declared.Line.{Line}
use Rattle.lines.specs.Lines.{bus_kind, limits_kept, value_at, shaped, in_tree}
use Rattle.lines.proofs.Limits.{yes_not, no_not}
use Rattle.records.specs.Records.{with_root, with_child, with_acc}
use Rattle.placing.specs.Placing.{refused_at, given, bus_line, int_in_order, root_rule, child_line, int_line, acc_line, record_line, tree_line}

module _ (n : ℕ) (t : Tree) (v : List ℕ) where
  pub child_taken : is_empty (port_of t (get_or v 1 0) (get_or v 2 0)) ≡ false → child_line n t v ≡ refused_at Taken n
  unfolding child_line
  child_taken f = picked _ _ _ (yes_not _ f)

  pub child_deep : is_empty (port_of t (get_or v 1 0) (get_or v 2 0)) ≡ true → 4 ≤ level_of t (get_or v 1 0) → child_line n t v ≡ refused_at Level n
  unfolding child_line
  child_deep f l = passed _ _ _ (no_not _ f) ∙ picked _ _ _ (le-leb _ _ l)

  pub child_given : is_empty (port_of t (get_or v 1 0) (get_or v 2 0)) ≡ true → level_of t (get_or v 1 0) < 4 → child_line n t v ≡ given (with_child t (get_or v 0 0) (get_or v 1 0) (get_or v 2 0) (get_or v 3 0))
  unfolding child_line
  child_given f l = passed _ _ _ (no_not _ f) ∙ passed _ _ _ (lt-leb _ _ l)

  pub acc_unknown : t.ints ≤ get_or v 1 0 → acc_line n t v ≡ refused_at Order n
  unfolding acc_line
  acc_unknown h = picked _ _ _ (le-leb _ _ h)

  pub acc_twice : get_or v 1 0 < t.ints → 0 < phi_of t (get_or v 0 0) → acc_line n t v ≡ refused_at Order n
  unfolding acc_line
  acc_twice h k = passed _ _ _ (lt-leb _ _ h) ∙ picked _ _ _ (lt-ltb _ _ k)

  pub acc_taken : get_or v 1 0 < t.ints → phi_of t (get_or v 0 0) ≤ 0 → is_empty (port_of t (get_or v 1 0) (get_or v 2 0)) ≡ false → acc_line n t v ≡ refused_at Taken n
  unfolding acc_line
  acc_taken h k f = passed _ _ _ (lt-leb _ _ h) ∙ passed _ _ _ (le-ltb _ _ k) ∙ picked _ _ _ (yes_not _ f)

  pub acc_given : get_or v 1 0 < t.ints → phi_of t (get_or v 0 0) ≤ 0 → is_empty (port_of t (get_or v 1 0) (get_or v 2 0)) ≡ true → acc_line n t v ≡ given (with_acc t v)
  unfolding acc_line
  acc_given h k f = passed _ _ _ (lt-leb _ _ h) ∙ passed _ _ _ (le-ltb _ _ k) ∙ passed _ _ _ (no_not _ f)

module _ (n : ℕ) (t : Tree) (l : Line) where
  -- a bus line under either name
  pub bus_record : (a : Bool) → record_line (bus_kind a) n t l ≡ bus_line n t a l.values
  bus_record true = refl
  bus_record false = refl

  pub int_order : int_in_order t l ≡ false → int_line n t l ≡ refused_at Order n
  unfolding int_line
  int_order e = picked _ _ _ (yes_not _ e)

  pub int_root : int_in_order t l ≡ true → value_at l 0 ≡ 0 → int_line n t l ≡ given (with_root t (value_at l 3))
  unfolding int_line
  int_root e z = passed _ _ _ (no_not _ e) ∙ picked _ _ _ (eq-eqb _ _ z)

  pub int_child : int_in_order t l ≡ true → (value_at l 0 ≡ 0 → ⊥) → int_line n t l ≡ child_line n t l.values
  unfolding int_line
  int_child e z = passed _ _ _ (no_not _ e) ∙ passed _ _ _ (ne_eqb _ _ z)

  -- an int line in order has the next number
  pub next_number : int_in_order t l ≡ true → value_at l 0 ≡ t.ints
  next_number e = eqb-true _ _ (both (ltb 0 t.bus.window && eqb t.accs 0) _ (both (ltb 0 t.bus.window && eqb t.accs 0 && eqb (value_at l 0) t.ints) (root_rule l) e).0).1

  pub line_shape : in_tree l.kind && shaped l ≡ false → tree_line n t l ≡ refused_at Shape n
  unfolding tree_line
  line_shape e = picked _ _ _ (yes_not _ e)

  pub line_limit : in_tree l.kind && shaped l ≡ true → limits_kept l.kind l.values ≡ false → tree_line n t l ≡ refused_at Limit n
  unfolding tree_line
  line_limit e f = passed _ _ _ (no_not _ e) ∙ picked _ _ _ (yes_not _ f)

  pub line_record : (k : Kind) → l.kind ≡ k → in_tree l.kind && shaped l ≡ true → limits_kept l.kind l.values ≡ true → tree_line n t l ≡ record_line k n t l
  unfolding tree_line
  line_record k q e f = passed _ _ _ (no_not _ e) ∙ passed _ _ _ (no_not _ f) ∙ ap (λ (x : Kind). record_line x n t l) q
