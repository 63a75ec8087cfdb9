-- `same_return` meets its contract: where the transaction is due the bit is 1, and else it is not.
use Rattle.callcheck.proofs.Bits.{bit_due, bit_not_due}
use Rattle.callcheck.proofs.returns.same_return.Goals as goal

pub returns-then-is_due : goal.returns-then-is_due
returns-then-is_due c =
    let x = c.args in
    bit_due x.x x.k x.a x.n x.d.now _ _ c.is_due.ensures c.if-is_due.true c.bit_is.ensures

pub returns : goal.returns
returns c =
    let x = c.args in
    bit_not_due x.x x.k x.a x.n x.d.now _ _ c.is_due.ensures c.if-is_due.false c.bit_is-2.ensures
