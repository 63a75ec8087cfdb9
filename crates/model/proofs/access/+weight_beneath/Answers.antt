-- `weight_beneath` meets its contract: the levels fall, and the loop has added the ports below the next one.
use mathlib.Core.Path.{◌≡◌, ap, sym, ◌∙◌}
use Prim.Native.Nat.{◌≤◌, ◌-◌, ◌*◌, ◌^◌}
use native.Mathlib.Omega.{arith}
use borrow.Author.Rules.{rules}
use Rattle.model.specs.Beneath.{weight_in}
use Rattle.model.proofs.Sums.{sum_none, inside_at_none, inside_step, add_port, eight_ports, sum_turn, sum_end, eight_at_most, room, byte_beneath}
use Rattle.model.proofs.access.+weight_beneath.Invariants.{beneath, at_port}
use Rattle.model.proofs.access.+weight_beneath.Goals as goal

pub returns-then-levels-eq0 : goal.returns-then-levels-eq0
returns-then-levels-eq0 t c =
    let a = c.args in
    let e = c.in-Int.is in
    let f = ap (beneath a.t a.weights a.levels) e in
    (sym (f ∙ inside_at_none a.levels a.t (weight_in a.weights) _ c.if-levels-eq0.true), search rules)

pub overflow_add-sum : goal.overflow_add-sum
overflow_add-sum t c =
    let entry = c in
    let h : (entry.args.levels ≡ 0 → ⊥) = c.if-levels-eq0.false in
    let i = c.loop-p.invariant.1 in
    let p = c.loop-p-test.true in
    record { fits = room _ entry.args.levels _ _ p entry.requires h i c.weight_beneath-sum.ensures.1 }

pub loop-p-preserved : goal.loop-p-preserved
loop-p-preserved t c =
    let a = c.args in
    let i = c.loop-p.invariant in
    let j = c.in-Int.j in
    let f = c.weight_beneath-sum.ensures.0 ∙ ap (beneath a.t a.weights (a.levels - 1)) c.port_at.ensures in
    let b = 255 * 8 ^ (a.levels - 1) in
    let r : c.weight_beneath-sum.result ≤ b = c.weight_beneath-sum.ensures.1 in
    (sum_turn _ (at_port a.t a.weights a.levels j) _ _ i.0 f, add_port _ _ _ _ i.1 r)

pub returns-in-Acc : goal.returns-in-Acc
returns-in-Acc t c =
    let a = c.args in
    let e = ap (beneath a.t a.weights a.levels) c.in-Acc.is in (
      c.from.ensures ∙ c.weight_of.ensures ∙ sym e,
      byte_beneath _ _ (omega (arith, c.weight_of.type_inv, c.from.ensures)),
    )

pub returns-after-loop-p : goal.returns-after-loop-p
returns-after-loop-p t c =
    let a = c.args in
    let e = ap (beneath a.t a.weights a.levels) c.in-Int.is in
    let i = c.loop-p.invariant in
    let h : (a.levels ≡ 0 → ⊥) = c.if-levels-eq0.false in
    let j = c.in-Int.j in
    let s = sum_end _ 8 (at_port a.t a.weights a.levels j) _ i.0 (omega arith) in (
      s ∙ sym (e ∙ inside_step a.levels a.t (weight_in a.weights) _ h),
      omega (arith, eight_at_most _ _ _ 8 i.1 (omega arith), eight_ports a.levels h),
    )

pub loop-p-init : goal.loop-p-init
loop-p-init t c = (sym (sum_none _), search rules)
