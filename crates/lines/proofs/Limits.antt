-- What passed tests say of a line: each field is in its limits. By the fold over the fields. And two facts of tests and parts that
-- the readers of files share.
use Prim.Native.Nat.{ℕ, ◌-◌, ◌≤◌, ◌<◌}
use mathlib.Core.Bool.{Bool, true, false, not}
use mathlib.Core.List.{List}
use mathlib.Core.Path.{◌≡◌, ap}
use native.Mathlib.Omega.{arith}
use lib.Dec.{leb}
use lib.ListN.{length, get_or, take, drop, length-take, length-drop}
use borrow.Author.Tests.{leb-true}
use Rattle.folds.proofs.Folds.{all_at, both}
use Rattle.lines.specs.declared.Kind.{Kind}
use Rattle.lines.specs.Lines.{form_of, limit_kept, limits_kept}

-- each field is in its limits
module _ (k : Kind) (v : List ℕ) (e : limits_kept k v ≡ true) (i : ℕ) (h : i < (form_of k).count) where
  in_limits : (leb (get_or (form_of k).lows i 0) (get_or v i 0) ≡ true) × (leb (get_or v i 0) (get_or (form_of k).highs i 0) ≡ true)
  in_limits = both _ _ (all_at (form_of k).count (limit_kept (form_of k) v) e i h)

  pub least : get_or (form_of k).lows i 0 ≤ get_or v i 0
  least = leb-true _ _ in_limits.0

  pub most : get_or v i 0 ≤ get_or (form_of k).highs i 0
  most = leb-true _ _ in_limits.1

-- the test of what is not so
pub yes_not : (b : Bool) → b ≡ false → not b ≡ true
yes_not b e = ap not e

pub no_not : (b : Bool) → b ≡ true → not b ≡ false
no_not b e = ap not e

-- the part of a line that is not empty
pub nonempty : (s : List ℕ) (at e : ℕ) → at < e → e ≤ length s → length (take (e - at) (drop at s)) ≡ 0 → ⊥
nonempty s at e h k z = omega (arith, length-take (e - at) (drop at s), length-drop at s)
