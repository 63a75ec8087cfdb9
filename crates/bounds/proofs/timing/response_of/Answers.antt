-- `response_of` meets its contract: the terms are those of the definition, and the largest response fits.
use native.Mathlib.Omega.{arith}
use Rattle.bounds.proofs.Fits.{fitting}
use Rattle.bounds.proofs.timing.response_of.Goals as goal

pub overflow_add-result : goal.overflow_add-result
overflow_add-result c =
    let p = c.requires in
    let f = fitting _ _ _ p.0 _ _ p.1 p.2 in
    record { fits = omega (arith, f.response, c.read_time-read.ensures) }

pub overflow_add-result-2 : goal.overflow_add-result-2
overflow_add-result-2 c =
    let p = c.requires in
    let f = fitting _ _ _ p.0 _ _ p.1 p.2 in
    record { fits = omega (arith, f.response, c.read_time-read.ensures, c.write_time-written.ensures) }
