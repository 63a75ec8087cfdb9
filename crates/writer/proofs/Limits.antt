-- The limits of the bus line and of the acc lines, which `Sound` leaves out: they are clauses of the rules.
use Prim.Native.Nat.{ℕ, ◌≤◌, ◌<◌}
use mathlib.Core.Bool.{true}
use mathlib.Core.Path.{◌≡◌, sym, ◌∙◌}
use native.Mathlib.Omega.{arith}
use borrow.Author.Tests.{lt-ltb}
use Rattle.model.specs.declared.Tree.{Tree}
use Rattle.folds.proofs.Folds.{picked, tests}
use Rattle.model.specs.Tree.{accelerator_of}
use Rattle.rules.specs.Rules.{bus_keeps, accelerator_keeps, used_accelerator, tree_keeps}
use Rattle.rules.proofs.Sound.{sound}

module _ (t : Tree) (e : tree_keeps t ≡ true) where
  pub bus_limits : bus_keeps t.bus ≡ true
  unfolding tree_keeps
  bus_limits = (simp tests at e).0.0.0.0.1

  pub acc_rule : (a : ℕ) → a < 32 → accelerator_keeps t a ≡ true
  unfolding tree_keeps
  acc_rule a h = (simp tests at e).1 a h

  acc_used : (a : ℕ) → a < t.accs → used_accelerator t a ≡ true
  acc_used a l = sym (picked _ _ _ (lt-ltb a t.accs l)) ∙ acc_rule a (omega (arith, (sound t e).most_accs))

  -- the limits of an accelerator's fields
  pub acc_ranges : (a : ℕ) → a < t.accs
      → ((accelerator_of t a).reads ≤ 65535) × ((accelerator_of t a).writes ≤ 65535) × ((accelerator_of t a).computing ≤ 4294967295)
      × (1 ≤ (accelerator_of t a).period) × ((accelerator_of t a).period ≤ 4294967295)
  unfolding used_accelerator
  acc_ranges a l = let h = simp tests at (acc_used a l) in omega arith
