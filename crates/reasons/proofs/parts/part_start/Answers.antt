-- `part_start` meets its contract: what is left of the bytes from here has the part that is looked for.
use mathlib.Core.Path.{◌≡◌, ap, sym, ◌∙◌}
use Prim.Native.Nat.{ℕ, ◌+◌}
use native.Mathlib.Omega.{arith}
use lib.ListN.{length, drop}
use borrow.Author.Rules.{rules}
use Rattle.reasons.specs.Words.{from_part}
use Rattle.reasons.proofs.Starts.{part_next, part_on, part_here, part_past}
use Rattle.reasons.proofs.parts.part_start.Goals as goal
use Rattle.reasons.proofs.parts.part_start.Goals.{then-b-sep, else-b-sep}

pub returns-then-left-eq0 : goal.returns-then-left-eq0
returns-then-left-eq0 c = (search rules, sym (c.loop-i.invariant ∙ part_here _ _ _ c.if-left-eq0.true))

pub loop-i-preserved : goal.loop-i-preserved
loop-i-preserved c =
    c.loop-i.invariant ∙ elim c.if-b-sep.branch [
      | then-b-sep w ↦ part_next c.args.sep _ _ c.loop-i-test.true _ c.if-left-eq0.false w.if-b-sep.true
          ∙ ap (λ (n : ℕ). from_part c.args.sep n (drop (c.loop-i.i + 1) c.args.s.now)) (sym w.left-is)
      | else-b-sep w ↦ part_on c.args.sep _ _ c.loop-i-test.true _ c.if-left-eq0.false w.if-b-sep.false
          ∙ ap (λ (n : ℕ). from_part c.args.sep n (drop (c.loop-i.i + 1) c.args.s.now)) (sym w.left-is)
    ]

pub returns : goal.returns
returns c =
    let e : c.loop-i.i ≡ length c.args.s.now = omega arith in
    (omega arith, sym (c.loop-i.invariant ∙ part_past _ _ _ _ c.loop-i-test.false ∙ ap (λ (n : ℕ). drop n c.args.s.now) e))
