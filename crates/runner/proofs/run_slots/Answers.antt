-- `run_slots` meets its contract: what was written so far, with what is left of the run, is the run from the start, and what was told is
-- what its slots tell.
use mathlib.Core.Path.{◌≡◌, refl, sym, ◌∙◌, ap}
use Prim.Native.Nat.{ℕ, ◌≤◌, ◌<◌, ◌+◌, min}
use mathlib.Core.Bool.{true, false}
use native.Mathlib.Nat.{sub-zero}
use native.Mathlib.Numerals.{add-one}
use native.Mathlib.Omega.{arith}
use lib.Dec.{ltb}
use lib.ListN.{length, set, take}
use lib.Seq.{take-suc-set}
use Rattle.folds.proofs.Folds.{clash}
use Rattle.model.specs.declared.State.{State}
use Rattle.counts.proofs.Entries.{table_is, limits_are}
use Rattle.machine.specs.Machine.{fresh_state, last_slot}
use Rattle.admit.specs.Admitting.{is_in}
use Rattle.admit.proofs.Sets.{in_below}
use Rattle.rules.proofs.Sound.{sound}
use Rattle.model.specs.Tree.{delay_of}
use Rattle.runner.specs.Arrays.{arrays_from, home_in}
use Rattle.runner.proofs.Walk.{Step, walk_start, walk_done, walk_waiting, walk_next}
use Rattle.runner.specs.Answers.{wait_of}
use Rattle.runner.proofs.Telling.{Telling, telling_start, telling_slot, telling_few, telling_turn, telling_ended}
use Rattle.runner.proofs.run_slots.Goals as goal
use Rattle.runner.proofs.run_slots.Goals.{then-loop-used-test+else-not-is_done, else-loop-used-test}

pub loop-used-init : goal.loop-used-init
loop-used-init c =
    let x = c.args in
    let q = c.requires in
    let y = c.arrays_from-arrays.ensures in (
      record {
        rules = q.0;
        table = table_is x.t x.channel _ c.table_of-table.ensures;
        accelerators = λ i. ap (λ (n : ℕ). is_in n i) c.below-accs.ensures ∙ in_below (min 32 x.t.accs) i
            ∙ ap (ltb i) (omega (arith, (sound x.t q.0).most_accs));
      },
      λ ch L. walk_start x.t ch x.trace.now (fresh_state x.t ch) _ _ q.0 refl q.3 (y ∙ ap (λ (z : State). arrays_from z.last) q.1)
          (telling_start x.t _ x.a x.k x.out.now),
      q.2,
      q.4,
      refl,
    )

pub overflow_cast-used : goal.overflow_cast-used
overflow_cast-used c =
    let l = c.loop-used in
    let x = c.args in
    let T = (l.invariant.1 x.channel (limits_are x.t x.channel _ c.table_of-table.ensures)).holds in
    omega (arith, telling_slot _ _ _ _ _ _ _ _ _ T c.loop-used-test.true l.invariant.2)

pub overflow_cast-used-in-loop-used : goal.overflow_cast-used-in-loop-used
overflow_cast-used-in-loop-used c =
    let l = c.loop-used in
    let x = c.args in
    let T = (l.invariant.1 x.channel (limits_are x.t x.channel _ c.table_of-table.ensures)).holds in
    omega (arith, telling_slot _ _ _ _ _ _ _ _ _ T c.loop-used-test.true l.invariant.2)

pub tell-told-requires : goal.tell-told-requires
tell-told-requires c =
    let l = c.loop-used in
    let x = c.args in
    let T = (l.invariant.1 x.channel (limits_are x.t x.channel _ c.table_of-table.ensures)).holds in
    (telling_slot _ _ _ _ _ _ _ _ _ T c.loop-used-test.true l.invariant.2, telling_few _ _ _ _ _ _ _ _ _ T)

pub overflow_add-used : goal.overflow_add-used
overflow_add-used c =
    let l = c.loop-used in
    let x = c.args in
    let T = (l.invariant.1 x.channel (limits_are x.t x.channel _ c.table_of-table.ensures)).holds in
    omega (arith, telling_slot _ _ _ _ _ _ _ _ _ T c.loop-used-test.true l.invariant.2)

pub loop-used-preserved : goal.loop-used-preserved
loop-used-preserved c =
    let k = c in
    let x = k.args in
    let l = k.loop-used in
    let came = c.home_of in
    let first = c.before_slot-line in
    let then = c.after_slot-past in
    let more = k.loop-used-test.true in (
      l.invariant.0,
      λ ch L.
          let G = l.invariant.1 ch L in
          let early : l.used < last_slot = omega (arith, G.holds.running.long, l.invariant.2) in
          let S : Step x.t ch _ _ x.trace.now l.invariant.0 L _ _ l.arrays l.line l.past l.used G first.result then.result _ = record {
            home = came.result;
            home_is = came.ensures ∙ ap (λ (n : ℕ). home_in (delay_of x.t) (take n l.out)) (sub-zero l.used);
            line = first.ensures.line;
            mid = _;
            before = first.ensures.arrays;
            window = _;
            window_is = l.invariant.4;
            ends = then.ensures.end;
            after = then.ensures.arrays;
          } in
          let done = walk_done x.t ch _ _ x.trace.now l.invariant.0 L _ _ l.arrays l.line l.past l.used G _ k.is_done.ensures in
          let going = sym done ∙ k.if-not-is_done.true in
          walk_next x.t ch _ _ x.trace.now l.invariant.0 L _ _ l.arrays l.line l.past l.used G _ _ _ S early _
          (ap (λ (i : ℕ). take i (set l.out l.used then.result.served)) (add-one l.used) ∙ take-suc-set l.out l.used _ more)
          (Telling x.t _ x.a x.k x.out.now _ _ (l.used + 1))
          (telling_turn x.t _ x.a x.k x.out.now l.out (wait_of l.told) l.used _ G.holds more going
          (λ z e. omega (arith, l.invariant.3 z, (sound x.t l.invariant.0.rules).most_accs)) _
          (λ z. walk_waiting x.t ch _ _ x.trace.now l.invariant.0 L _ _ l.arrays l.line l.past l.used G _ _ _ S early x.a (l.invariant.3 z))
          then.result.served (wait_of c.tell-told.result) c.tell-told.ensures),
      l.invariant.2,
      l.invariant.3,
      l.invariant.4,
    )

pub overflow_cast-used-2 : goal.overflow_cast-used-2
overflow_cast-used-2 c =
    let m = c in
    let x = m.args in
    let G = m.loop-used.invariant.1 x.channel (limits_are x.t x.channel _ m.table_of-table.ensures) in
    omega (arith, G.holds.running.small, m.loop-used.invariant.2)

pub shape_of-out : goal.shape_of-out
shape_of-out c =
    let m = c in
    let x = m.args in
    (m.loop-used.invariant.1 x.channel (limits_are x.t x.channel _ m.table_of-table.ensures)).holds.running.long

pub returns : goal.returns
returns c =
    let x = c.args in
    let l = c.loop-used in
    let L = limits_are x.t x.channel _ c.table_of-table.ensures in
    let G = l.invariant.1 x.channel L in
    let e = walk_done x.t x.channel _ _ x.trace.now l.invariant.0 L _ _ l.arrays l.line l.past l.used G _ c.is_done-2.ensures in
    let full : c.is_done-2.result ≡ false → length l.out ≤ l.used = λ z. elim c.loop-used-test.branch [
      | then-loop-used-test+else-not-is_done w ↦
          let q : true ≡ false = sym w.if-not-is_done.false ∙ w.is_done.ensures ∙ sym c.is_done-2.ensures ∙ z in
          clash cc
      | else-loop-used-test w ↦ w.loop-used-test.false
    ] in
    let r = telling_ended x.t _ x.a x.k x.out.now l.out (wait_of l.told) l.used _ G.holds _ full (sym e) in record {
      answer = c.ended.ensures ∙ r.0;
      bytes = r.1;
      wait = r.2;
    }
