-- `why_asked` meets its contract: it tests in the definition's order.
use Rattle.inquiry.proofs.Words.{by_help, by_words, by_wait}
use Rattle.inquiry.proofs.why_asked.Goals as goal

pub returns-then-help_asked-asks_help : goal.returns-then-help_asked-asks_help
returns-then-help_asked-asks_help c =
    by_help _ _ _ _ _ _ c.help_asked.ensures c.asks_help.ensures c.asks_help-2.ensures
    c.if-help_asked-asks_help.true

pub returns-then-count-two_files : goal.returns-then-count-two_files
returns-then-count-two_files c =
    by_wait _ _ _ _ _ _ c.help_asked.ensures c.asks_help.ensures c.asks_help-2.ensures
    c.if-help_asked-asks_help.false c.two_files.ensures c.if-count-two_files.true c.wait_asked.ensures

pub returns : goal.returns
returns c =
    by_words _ _ _ _ _ _ c.help_asked.ensures c.asks_help.ensures c.asks_help-2.ensures
    c.if-help_asked-asks_help.false c.two_files.ensures c.if-count-two_files.false
