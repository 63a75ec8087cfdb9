-- `put_list` meets its contract: each turn puts one pair.
use Prim.Native.Nat.{ℕ, ◌+◌, ◌-◌, ◌*◌}
use mathlib.Core.Path.{refl, subst}
use native.Mathlib.Omega.{arith}
use lib.ListN.{set, get_or}
use Rattle.waits.proofs.Pairs.{Putting, putting_start, putting_turn, putting_ended}
use Rattle.waits.proofs.put_list.Goals as goal

pub loop-i-init : goal.loop-i-init
loop-i-init c =
    let x = c.args in
    let q = c.requires in
    let start = putting_start x.t x.a x.bytes.now x.from x.until q.0 x.out.now in
    (q.0, subst (λ (p : ℕ). Putting x.t x.a x.bytes.now x.from x.until q.0 x.out.now x.out.now x.from p) (omega arith) start, q.1)

pub loop-i-preserved : goal.loop-i-preserved
loop-i-preserved c =
    let x = c.args in
    let l = c.loop-i in
    let p = (l.i - x.from) * 2 in
    let d = set (set l.out p (get_or x.bytes.now l.i 0)) (p + 1) c.met.result in
    let next = putting_turn x.t x.a x.bytes.now x.from x.until l.invariant.0 x.out.now l.out l.i p l.invariant.1
    c.loop-i-test.true (omega (arith, c.if-out-p.false)) _ _ refl c.met.ensures in
    let at = λ (k : ℕ). Putting x.t x.a x.bytes.now x.from x.until l.invariant.0 x.out.now d (l.i + 1) k in
    (l.invariant.0, subst at (omega (arith, l.invariant.1.since)) next, l.invariant.2)

pub returns-then-out-p : goal.returns-then-out-p
returns-then-out-p c =
    let x = c.args in
    let l = c.loop-i in
    putting_ended x.t x.a x.bytes.now x.from x.until l.invariant.0 x.out.now l.out l.i ((l.i - x.from) * 2) l.invariant.1
    (λ _. c.if-out-p.true)
