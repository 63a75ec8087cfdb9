-- `put_cause` meets its contract: the line is that of the file.
use mathlib.Core.Path.{sym}
use lib.Seq.{length-take-le}
use Rattle.reasons.proofs.Said.{rest_most}
use Rattle.reasons.proofs.put_cause.Goals as goal

pub slice_bounds-put_found-end : goal.slice_bounds-put_found-end
slice_bounds-put_found-end c = sym (length-take-le _ _ (rest_most _ _ c.part_end-n.ensures))
