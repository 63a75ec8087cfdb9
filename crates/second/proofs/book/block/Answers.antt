-- `block` meets its contract: the kind of the row picks the number.
use Rattle.std.proofs.Common.{refl}
use Rattle.second.proofs.Looked.{block_int, block_acc}
use Rattle.second.proofs.book.block.Goals as goal

pub returns-then-row-ints : goal.returns-then-row-ints
returns-then-row-ints c =
    block_int _ _ _ _ _ c.ints.ensures c.if-row-ints.true c.cell-number.ensures refl

pub returns : goal.returns
returns c = block_acc _ _ _ _ c.ints.ensures c.if-row-ints.false c.cell-number.ensures
