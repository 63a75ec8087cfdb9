-- `put_report` meets its contract: before each turn the rows of the accelerators below a follow the head line, and it is known
-- whether all these meet their periods.
use mathlib.Core.Path.{ap, sym}
use native.Mathlib.Omega.{arith}
use Rattle.model.proofs.Sums.{all_none, all_turn}
use Rattle.bounds.specs.Bounds.{Analysis, analysis_of}
use Rattle.listing.specs.Listing.{row_text}
use Rattle.put.proofs.Texts.{puts_as}
use Rattle.put.proofs.Lines.{lines_none, lines_turn}
use Rattle.listing.proofs.Rows.{row_made, never_refused, report_end}
use Rattle.listing.proofs.put_report.Goals as goal

pub loop-a-init : goal.loop-a-init
loop-a-init c = (lines_none 174 (λ i. row_text i (analysis_of _ i)) _, sym (all_none _))

pub returns-in_default : goal.returns-in_default
returns-in_default c =
    absurd (never_refused _ _ _ c.requires c.loop-a-test.true c.bound.ensures _ c.in_default.is)

pub loop-a-preserved : goal.loop-a-preserved
loop-a-preserved c =
    let m = row_made _ _ _ c.requires c.loop-a-test.true c.bound.ensures _ c.in-Ok.is in (
      lines_turn 174 (λ i. row_text i (analysis_of c.args.t i)) _ c.loop-a.invariant.0 (puts_as (ap (row_text c.loop-a.a) m) c.put_row.ensures),
      all_turn _ (λ i. (analysis_of c.args.t i).meets) _ _ c.loop-a.invariant.1 (ap (λ (r : Analysis). r.meets) m),
    )

pub returns : goal.returns
returns c =
    report_end _ _ _ c.requires (omega arith) c.loop-a.invariant.1 c.put_head.ensures c.loop-a.invariant.0 c.put_all.ensures
