-- `beats_entry` meets its contract: beats are left for a piece that is there, and the smaller of them and n is its count.
use mathlib.Core.Bool.{true}
use native.Mathlib.Omega.{arith}
use Rattle.burst.specs.Burst.{most_beats}
use Rattle.burst.proofs.Cut.{cut, before_it}
use Rattle.burst.proofs.beats_entry.Goals as goal

pub overflow_mul-left : goal.overflow_mul-left
overflow_mul-left c =
    let a = c.args in
    let p = c.requires in
    record {
      fits = omega (
        arith,
        before_it most_beats a.n a.b a.k a.i p.0 p.2 c.if-k-i.false,
        (cut most_beats true a.n a.b a.k p.2).burst.few,
      );
    }

pub overflow_sub-left : goal.overflow_sub-left
overflow_sub-left c =
    let a = c.args in
    let p = c.requires in
    omega (arith, before_it most_beats a.n a.b a.k a.i p.0 p.2 c.if-k-i.false)
