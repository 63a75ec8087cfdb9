-- `dashes_kept` meets its contract: the loop has tested each field before the next one.
use mathlib.Core.Path.{◌≡◌}
use Prim.Native.Nat.{◌≤◌}
use Rattle.folds.specs.Fold.{all}
use Rattle.lines.specs.Lines.{dash_kept}
use Rattle.lines.proofs.dashes_kept.Given as goal

abbrev pub invariant-loop-i : goal.invariant-loop-i
invariant-loop-i l = (l.f.count ≤ 11) × (l.ok ≡ all l.i (dash_kept l.f l.dashes))
