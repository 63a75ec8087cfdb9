-- `read_line` meets its contract: what is read so far, with the fields that are left, makes the line.
use mathlib.Core.Path.{ap, sym, ◌∙◌, subst}
use Prim.Native.Nat.{◌≤◌, ◌+◌}
use native.Mathlib.Omega.{arith}
use borrow.Author.Rules.{rules}
use Rattle.lines.specs.declared.Line.{Line}
use Rattle.lines.specs.Lines.{push, pushed, named}
use Rattle.lines.proofs.Fields.{later, line_begun, line_next, line_end, push_count}
use Rattle.text.proofs.Parts.{part_fits}
use Rattle.lines.proofs.read_line.Goals as goal

pub slice_bounds-kind_of-end : goal.slice_bounds-kind_of-end
slice_bounds-kind_of-end c =
    let q = part_fits 9 c.args.s.now 0 (omega arith) in omega (arith, c.part_end-end.ensures)

pub loop-end-init : goal.loop-end-init
loop-end-init c =
    let at-part-end = c in
    let at-args = at-part-end in
    let q = part_fits 9 at-args.args.s.now 0 (omega arith) in
    let b = at-part-end.part_end-end.ensures in (
      omega (arith, at-part-end.part_end-end.ensures),
      subst (λ (l : Line). l.count ≤ at-part-end.part_end-end.result) (sym c.begun-r.ensures) (search rules),
      line_begun at-args.args.s.now _ at-part-end.part_end-end.ensures
          ∙ ap (λ (l : Line). pushed l (later at-args.args.s.now at-part-end.part_end-end.result))
          (sym (c.begun-r.ensures ∙ ap named c.kind_of.ensures)),
    )

pub slice_bounds-read_field-end : goal.slice_bounds-read_field-end
slice_bounds-read_field-end c =
    let at-args = c in
    let q = part_fits 9 at-args.args.s.now (c.loop-end.end + 1) (search rules) in
    omega (arith, c.part_end-end-in-loop-end.ensures)

pub loop-end-preserved : goal.loop-end-preserved
loop-end-preserved c =
    let at-part-end2 = c in
    let at-loop-test = at-part-end2 in
    let at-loop = at-loop-test in
    let at-args = at-loop in
    let s = at-args.args.s.now in
    let q = part_fits 9 s (at-loop.loop-end.end + 1) (search rules) in
    let e = at-part-end2.part_end-end-in-loop-end.ensures in
    let f = c.with_field-r.ensures in
    let n = ap (λ (l : Line). l.count) f ∙ push_count at-loop.loop-end.r c.read_field.result in (
      omega arith,
      omega arith,
      at-loop.loop-end.invariant.2
          ∙ line_next s _ _ _ at-loop-test.loop-end-test.true e
          ∙ ap (λ (l : Line). pushed l (later s at-part-end2.part_end-end-in-loop-end.result)) (sym (f ∙ ap (push at-loop.loop-end.r) c.read_field.ensures)),
    )

pub returns : goal.returns
returns c =
    sym (c.loop-end.invariant.2 ∙ line_end c.args.s.now _ _ c.loop-end-test.false)
