-- `put_printable` meets its contract: what is left of the bytes completes the text.
use native.Mathlib.Omega.{arith}
use mathlib.Core.Path.{ap, sym, ◌∙◌}
use Prim.Native.Nat.{ℕ, ◌+◌}
use lib.ListN.{drop}
use mathlib.Core.List.{[], ◌∷◌, ◌++◌, map}
use Rattle.put.proofs.Texts.{puts_most}
use Rattle.reasons.specs.Words.{printable}
use Rattle.reasons.proofs.Rests.{rests_turn, rests_done, printed_next, printed_end}
use Rattle.reasons.proofs.words.put_printable.Goals as goal

pub loop-b-preserved : goal.loop-b-preserved
loop-b-preserved c =
    let i = c.loop-b.b-index in
    let next = ap (λ (b : ℕ). (b ∷ []) ++ map printable (drop (i + 1) c.args.s.now)) (sym c.printable.ensures) in
    rests_turn _ c.loop-b.invariant _ (omega arith) (printed_next c.args.s.now i c.loop-b-test.true ∙ next) c.byte.ensures

pub returns : goal.returns
returns c = puts_most (omega arith) (rests_done _ c.loop-b.invariant (printed_end _ _ c.loop-b-test.false))
