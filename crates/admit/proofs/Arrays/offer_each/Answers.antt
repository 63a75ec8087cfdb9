-- `offer_each` meets its contract: the offers that are left, made on the arrays as they are, are what all offers come to.
use mathlib.Core.Path.{sym, ◌∙◌, ap}
use native.Mathlib.Omega.{arith}
use lib.Bits.{and_le_l}
use lib.Count.{trailing_le}
use Rattle.admit.specs.Admitting.{is_in, offers_in}
use Rattle.admit.proofs.Offers.{in_lowest, left_less, in_empty}
use Rattle.admit.proofs.Arrays.offer_each.Goals as goal

pub loop-a-smaller : goal.loop-a-smaller
loop-a-smaller c =
    let k = c in
    let l = k.loop-a in
    left_less k.args.table.now l.rest _ l.invariant.1 c.less_one-rest.ensures l.a k.loop-a-test.true

pub loop-a-preserved : goal.loop-a-preserved
loop-a-preserved c =
    let k = c in
    let x = k.args in
    let l = k.loop-a in (
      omega (arith, trailing_le 32 l.rest),
      omega (arith, and_le_l l.rest c.less_one-rest.result),
      in_lowest x.table.now l.rest _ l.invariant.1 c.less_one-rest.ensures _
          ∙ ap (offers_in x.table.now (is_in l.rest) 32) c.offer_held.ensures ∙ l.invariant.2,
    )

pub returns : goal.returns
returns c =
    let l = c.loop-a in
    sym (in_empty c.args.table.now l.rest l.a l.self c.loop-a-test.false) ∙ l.invariant.2
