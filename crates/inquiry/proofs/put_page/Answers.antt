-- `put_page` meets its contract: the lines of the page, and on the last page the last line.
use Rattle.inquiry.proofs.Paged.{page_ends, page_goes_on}
use Rattle.inquiry.proofs.put_page.Goals as goal

pub returns-then-page-pairs : goal.returns-then-page-pairs
returns-then-page-pairs c = page_ends _ _ _ _ c.put_lines.ensures c.if-page-pairs.true c.put_count.ensures

pub returns-else-page-pairs : goal.returns-else-page-pairs
returns-else-page-pairs c = page_goes_on _ _ _ _ c.put_lines.ensures c.if-page-pairs.false
