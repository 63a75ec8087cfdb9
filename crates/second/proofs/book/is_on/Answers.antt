-- `is_on` meets its contract: each test is one of the definition.
use Rattle.second.proofs.Looked.{on_past, on_row}
use Rattle.second.proofs.book.is_on.Goals as goal

pub returns-then-rows-row : goal.returns-then-rows-row
returns-then-rows-row c = on_past _ _ _ _ _ c.rows.ensures c.if-rows-row.true

pub returns : goal.returns
returns c =
    on_row _ _ _ _ _ _ _ c.rows.ensures c.if-rows-row.false c.cell.ensures c.cell-2.ensures
