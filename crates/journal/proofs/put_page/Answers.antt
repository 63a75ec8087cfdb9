-- `put_page` meets its contract: the lines of the page's slots, and on the last page the last line.
use Rattle.journal.proofs.Paged.{page_ends, page_goes_on}
use Rattle.journal.proofs.put_page.Goals as goal

pub returns-then-page-served : goal.returns-then-page-served
returns-then-page-served c = page_ends _ _ _ c.put_slots.ensures c.if-page-served.true c.put_end.ensures

pub returns-else-page-served : goal.returns-else-page-served
returns-else-page-served c = page_goes_on _ _ _ c.put_slots.ensures c.if-page-served.false
