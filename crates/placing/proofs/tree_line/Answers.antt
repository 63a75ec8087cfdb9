-- `tree_line` meets its contract: its tests are those of the definition, in the same order, and each arm is its record.
use Prim.Native.Nat.{ℕ}
use mathlib.Core.Path.{◌≡◌, ap₂, sym, ◌∙◌}
use mathlib.Core.Bool.{Bool, true, ◌&&◌}
use Rattle.model.specs.declared.Tree.{Tree}
use Rattle.lines.specs.declared.Kind.{Kind}
use Rattle.lines.specs.declared.Kind.TheVariants.{BusLine, IntLine, AccLine, Bus3Line}
use Rattle.lines.specs.declared.Line.{Line}
use Rattle.lines.specs.Lines.{limits_kept, shaped, in_tree}
use Rattle.placing.specs.Placing.{record_line, tree_line}
use Rattle.placing.proofs.Tests.{line_shape, line_limit, line_record}
use Rattle.placing.proofs.tree_line.Goals as goal

-- the test of the line's shape, as it is asked
shape : (l : Line) {x y : Bool} → x ≡ in_tree l.kind → y ≡ shaped l → x && y ≡ in_tree l.kind && shaped l
shape l e f = ap₂ (λ (p q : Bool). p && q) e f

-- where the two tests pass, the line is what its record makes of it
placed : (n : ℕ) (t : Tree) (l : Line) (k : Kind) {x y z : Bool} → l.kind ≡ k → x ≡ in_tree l.kind → y ≡ shaped l
    → x && y ≡ true → z ≡ limits_kept l.kind l.values → z ≡ true → tree_line n t l ≡ record_line k n t l
placed n t l k e f g b h i = line_record n t l k e (sym (shape l f g) ∙ b) (sym h ∙ i)

pub returns-then-not-in_tree-shape_kept : goal.returns-then-not-in_tree-shape_kept
returns-then-not-in_tree-shape_kept c =
    c.refused.ensures
    ∙ sym (line_shape _ _ c.args.l (sym (shape c.args.l c.in_tree.ensures c.shape_kept.ensures) ∙ c.if-not-in_tree-shape_kept.true))

pub returns-then-not-limits_kept : goal.returns-then-not-limits_kept
returns-then-not-limits_kept c =
    c.refused-then-not-limits_kept.ensures
    ∙ sym (line_limit _ _ c.args.l
    (sym (shape c.args.l c.in_tree.ensures c.shape_kept.ensures) ∙ c.if-not-in_tree-shape_kept.false)
    (sym c.limits_kept.ensures ∙ c.if-not-limits_kept.true))

pub returns-in-BusLine : goal.returns-in-BusLine
returns-in-BusLine c =
    c.bus_line.ensures
    ∙ sym (placed _ _ c.args.l BusLine c.in-BusLine.is c.in_tree.ensures c.shape_kept.ensures c.if-not-in_tree-shape_kept.false
    c.limits_kept.ensures c.if-not-limits_kept.false)

pub returns-in-IntLine : goal.returns-in-IntLine
returns-in-IntLine c =
    c.int_line.ensures
    ∙ sym (placed _ _ c.args.l IntLine c.in-IntLine.is c.in_tree.ensures c.shape_kept.ensures c.if-not-in_tree-shape_kept.false
    c.limits_kept.ensures c.if-not-limits_kept.false)

pub returns-in-AccLine : goal.returns-in-AccLine
returns-in-AccLine c =
    c.acc_line.ensures
    ∙ sym (placed _ _ c.args.l AccLine c.in-AccLine.is c.in_tree.ensures c.shape_kept.ensures c.if-not-in_tree-shape_kept.false
    c.limits_kept.ensures c.if-not-limits_kept.false)

pub returns-in-Bus3Line : goal.returns-in-Bus3Line
returns-in-Bus3Line c =
    c.bus_line-in-Bus3Line.ensures
    ∙ sym (placed _ _ c.args.l Bus3Line c.in-Bus3Line.is c.in_tree.ensures c.shape_kept.ensures
    c.if-not-in_tree-shape_kept.false c.limits_kept.ensures c.if-not-limits_kept.false)
