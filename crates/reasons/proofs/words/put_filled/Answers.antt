-- `put_filled` meets its contract: what is left of the sentence completes the text.
use native.Mathlib.Omega.{arith}
use mathlib.Core.Path.{ap, sym, ◌∙◌}
use Prim.Native.Nat.{ℕ, ◌+◌}
use lib.ListN.{drop, get_or}
use mathlib.Core.List.{◌++◌}
use Rattle.put.proofs.Texts.{puts_most}
use Rattle.reasons.specs.Words.{marked, filled}
use Rattle.reasons.proofs.Rests.{rests_turn, rests_done, filled_next, filled_end}
use Rattle.reasons.proofs.words.put_filled.Goals as goal

pub loop-b-preserved : goal.loop-b-preserved
loop-b-preserved c =
    let i = c.loop-b.b-index in
    let next = ap (λ (n : ℕ). marked (get_or c.args.s.now i 0) c.loop-b.z ++ filled (drop (i + 1) c.args.s.now) n c.args.y) (sym c.next_number-z.ensures) in
    rests_turn _ c.loop-b.invariant _ (omega arith) (filled_next c.args.s.now i _ c.args.y c.loop-b-test.true ∙ next) c.put_marked.ensures

pub returns : goal.returns
returns c = puts_most (omega arith) (rests_done _ c.loop-b.invariant (filled_end _ _ _ _ c.loop-b-test.false))
