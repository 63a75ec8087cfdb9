-- `why` meets its contract: a lent buffer in its limit leaves the tests to the run, and what the run told is explained.
use mathlib.Core.Path.{◌∙◌}
use Prim.Native.Nat.{ℕ}
use lib.ListN.{replicate, length-replicate}
use Rattle.waits.proofs.Told.{why_long, tells}
use Rattle.waits.proofs.why.Goals as goal

pub returns-then-out-gt65536 : goal.returns-then-out-gt65536
returns-then-out-gt65536 c =
    let x = c.args in
    let e = why_long x.t x.channel x.trace.now x.a x.k x.out.now c.if-out-gt65536.true in
    record { answer = c.over_limit.ensures ∙ e.0; bytes = e.1 }

pub tell-requires : goal.tell-requires
tell-requires c =
    let x = c.args in
    let r = c.run_wait-ran.ensures in
    let T = tells x.t x.channel x.trace.now x.a x.k (replicate {A = ℕ} 65536 0) (length-replicate {A = ℕ} 65536 0) _ r.answer
    x.out.now c.if-out-gt65536.false _ r.wait _ r.bytes in
    (T.service, c.if-out-gt65536.false)

pub returns : goal.returns
returns c =
    let x = c.args in
    let r = c.run_wait-ran.ensures in
    let T = tells x.t x.channel x.trace.now x.a x.k (replicate {A = ℕ} 65536 0) (length-replicate {A = ℕ} 65536 0) _ r.answer
    x.out.now c.if-out-gt65536.false _ r.wait _ r.bytes in
    let e = T.told _ c.tell.ensures.answer _ c.tell.ensures.list in
    record { answer = e.0; bytes = e.1 }
