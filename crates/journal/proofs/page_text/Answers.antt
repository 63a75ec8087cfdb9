-- `page_text` meets its contract: the text is empty at first, and the page has room for it.
use borrow.Author.Rules.{rules}
use native.Mathlib.Omega.{arith}
use Rattle.put.proofs.Texts.{puts_laid}
use Rattle.journal.proofs.page_text.Goals as goal

pub returns : goal.returns
returns c =
    puts_laid c.new-text.ensures.bytes c.new-text.ensures.empty c.put_page.ensures c.len.ensures (omega arith) (search rules)
