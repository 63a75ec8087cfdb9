-- `read_tree` meets its contract: the answer for the file is the answer for what is left of it.
use mathlib.Core.Path.{ap, sym, ◌∙◌}
use Prim.Native.Nat.{◌+◌}
use native.Mathlib.Omega.{arith}
use Rattle.model.specs.declared.Tree.{Tree}
use Rattle.placing.specs.Placing.{TreeRead, tree_line}
use Rattle.reader.proofs.Files.{tree_size, tree_from, tree_start, tree_end, tree_unended, tree_line_lem, goes_on, ends}
use Rattle.text.proofs.Parts.{part_fits}
use Rattle.reader.proofs.read_tree.Goals as goal

pub returns-then-s-gt65536 : goal.returns-then-s-gt65536
returns-then-s-gt65536 c = c.refused.ensures ∙ sym (tree_size _ c.if-s-gt65536.true)

pub loop-at-init : goal.loop-at-init
loop-at-init c =
    (omega arith, c.if-s-gt65536.false, omega arith, tree_start _ c.if-s-gt65536.false ∙ ap (λ (t : Tree). tree_from 1 t c.args.s.now 0) (sym c.empty_tree-t.ensures))

pub returns-then-end-s : goal.returns-then-end-s
returns-then-end-s c =
    c.refused-then-end-s.ensures ∙ sym (c.loop-at.invariant.3 ∙ tree_unended _ _ c.args.s.now _ _ c.loop-at-test.true c.part_end-end.ensures c.if-end-s.true)

pub slice_bounds-read_line-end : goal.slice_bounds-read_line-end
slice_bounds-read_line-end c =
    let q = part_fits 10 c.args.s.now c.loop-at.at (omega arith) in omega arith

pub returns-in_default : goal.returns-in_default
returns-in_default c =
    sym (c.loop-at.invariant.3
    ∙ tree_line_lem _ _ c.args.s.now _ _ c.loop-at-test.true c.part_end-end.ensures c.if-end-s.false
    ∙ ends _ _ _ (c.tree_line-r.ensures ∙ ap (tree_line c.loop-at.n c.loop-at.t) c.read_line.ensures) _ c.in_default.is)

pub loop-at-preserved : goal.loop-at-preserved
loop-at-preserved c =
    let q = part_fits 10 c.args.s.now c.loop-at.at (omega arith) in (
      omega arith,
      omega arith,
      omega arith,
      c.loop-at.invariant.3
          ∙ tree_line_lem _ _ c.args.s.now _ _ c.loop-at-test.true c.part_end-end.ensures c.if-end-s.false
          ∙ goes_on _ _ _ (c.tree_line-r.ensures ∙ ap (tree_line c.loop-at.n c.loop-at.t) c.read_line.ensures) _ c.in-Ok.is
          ∙ ap (λ (r : TreeRead). tree_from (c.loop-at.n + 1) r.tree c.args.s.now (c.part_end-end.result + 1)) (sym (c.tree_line-r.ensures ∙ ap (tree_line c.loop-at.n c.loop-at.t) c.read_line.ensures)),
    )

pub returns : goal.returns
returns c =
    c.finished.ensures ∙ sym (c.loop-at.invariant.3 ∙ tree_end _ _ c.args.s.now _ c.loop-at-test.false)
