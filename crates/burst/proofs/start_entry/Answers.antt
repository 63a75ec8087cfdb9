-- `start_entry` meets its contract: the start address of a piece is one of 32 bits, since no burst that is split crosses a page.
use mathlib.Core.Path.{◌≡◌}
use mathlib.Core.Bool.{true}
use Prim.Native.Nat.{ℕ, ◌≤◌, ◌<◌, ◌+◌, ◌*◌}
use native.Mathlib.Nat.{mul-le-mul}
use native.Mathlib.Omega.{arith}
use borrow.Author.Rules.{rules}
use borrow.Author.Tests.{ne_eqb}
use Rattle.folds.proofs.Folds.{passed}
use Rattle.burst.specs.declared.Burst.{Burst}
use Rattle.burst.specs.Burst.{most_beats, low_of, pieces, split_of, start_of}
use Rattle.burst.proofs.Cut.{cut, splits, before_it}
use Rattle.burst.proofs.start_entry.Goals as goal

-- a later piece, of a burst that is split
module _ (n : ℕ) (b : Burst) (k i : ℕ) (N : 1 ≤ n) (e : split_of most_beats true n b ≡ pieces k) (l : i < k) where
  before-few : i * n ≤ 256
  before-few = omega (arith, before_it most_beats n b k i N e l, (cut most_beats true n b k e).burst.few)

  bytes-few : i * n * b.size ≤ 32768
  bytes-few = mul-le-mul before-few (cut most_beats true n b k e).burst.size.1

  later : (i ≡ 0 → ⊥) → start_of n b i ≡ low_of b + i * n * b.size
  later d = passed _ _ _ (ne_eqb i 0 d)

  within-32 : b.start ≤ 4294967295 → start_of n b i ≤ 4294967295
  within-32 h = omega (arith, (splits most_beats true n b k N e).addresses i l (omega arith))

pub low_of-requires : goal.low_of-requires
low_of-requires c =
    let a = c.args in
    (cut most_beats true a.n a.b a.k c.requires.2).burst.size.0

pub overflow_mul-result : goal.overflow_mul-result
overflow_mul-result c =
    let a = c.args in
    let p = c.requires in
    record { fits = omega (arith, bytes-few a.n a.b a.k a.i p.0 p.2 c.if-k-i.false) }

pub overflow_add-result : goal.overflow_add-result
overflow_add-result c =
    let a = c.args in
    let p = c.requires in
    let s : a.b.start ≤ 4294967295 = search rules in
    record {
      fits = omega (
        arith,
        c.low_of.ensures.1,
        bytes-few a.n a.b a.k a.i p.0 p.2 c.if-k-i.false,
      );
    }

pub overflow_cast-result-2 : goal.overflow_cast-result-2
overflow_cast-result-2 c =
    let a = c.args in
    let p = c.requires in
    let l = c.if-k-i.false in
    let s : a.b.start ≤ 4294967295 = search rules in
    record {
      fits = omega (
        arith,
        c.low_of.ensures.0,
        later a.n a.b a.k a.i p.0 p.2 l c.if-i-eq0.false,
        within-32 a.n a.b a.k a.i p.0 p.2 l s,
      );
    }
