-- `put_report` meets its contract: before each turn the rows of the accelerators below a follow the head line, and it is known
-- whether all these meet their periods.
use mathlib.Core.Path.{◌≡◌}
use Prim.Native.Nat.{◌*◌}
use Rattle.folds.specs.Fold.{all}
use Rattle.bounds.specs.Bounds.{analysis_of}
use Rattle.put.specs.Page.{joined}
use Rattle.put.specs.Texts.{Puts}
use Rattle.listing.specs.Listing.{row_text}
use Rattle.listing.proofs.put_report.Given as goal

abbrev pub invariant-loop-a : goal.invariant-loop-a
invariant-loop-a l = Puts (174 * l.a) l.initial.text (joined l.a (λ i. row_text i (analysis_of l.t i))) l.text
    × (l.all_meet ≡ all l.a (λ i. (analysis_of l.t i).meets))
