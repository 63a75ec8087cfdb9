-- `part` meets its contract: from where the part begins to where it ends.
use Rattle.reasons.proofs.Starts.{part_ends}
use Rattle.reasons.proofs.parts.part.Goals as goal

pub slice_bounds-result-end : goal.slice_bounds-result-end
slice_bounds-result-end c = part_ends _ c.args.s.now _ _ c.part_start-from.ensures.0 c.part_end-end.ensures
