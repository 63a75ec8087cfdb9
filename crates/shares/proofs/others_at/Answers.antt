-- `others_at` meets its contract: the loop has added what each port below the next one counts for.
use mathlib.Core.Path.{sym}
use native.Mathlib.Omega.{arith}
use borrow.Author.Rules.{rules}
use Rattle.model.specs.Beneath.{weight_in}
use Rattle.model.proofs.Sums.{sum_none, sum_turn, sum_end}
use Rattle.shares.specs.Shares.{counted, others_at}
use Rattle.shares.proofs.others_at.Goals as goal

pub loop-q-init : goal.loop-q-init
loop-q-init c = (sym (sum_none _), search rules)

pub loop-q-preserved : goal.loop-q-preserved
loop-q-preserved c =
    let a = c.args in
    let i = c.loop-q.invariant in
    let f = counted a.t (weight_in a.limits) a.j a.p in
    (sum_turn _ f _ _ i.0 c.count_port-sum.ensures.0, omega (arith, c.count_port-sum.ensures.1, i.1))

pub returns : goal.returns
unfolding others_at
returns c =
    let a = c.args in
    let i = c.loop-q.invariant in
    (sum_end _ 8 (counted a.t (weight_in a.limits) a.j a.p) _ i.0 (omega arith), omega (arith, i.1))
