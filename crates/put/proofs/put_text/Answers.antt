-- `put_text` meets its contract: the text is empty at first, and the page has room for it.
use borrow.Author.Rules.{rules}
use Rattle.put.proofs.Texts.{puts_first, puts_laid}
use Rattle.put.proofs.put_text.Goals as goal

pub returns : goal.returns
returns c =
    let made = c.new-text.ensures in record {
      stored = puts_first made.bytes made.empty c.bytes.ensures c.len.ensures;
      page = λ h. puts_laid made.bytes made.empty c.bytes.ensures c.len.ensures h (search rules);
    }
