-- `split_asked` meets its contract: it tests in the definition's order.
use Rattle.splitting.proofs.Words.{by_help, by_words, by_burst}
use Rattle.splitting.proofs.split_asked.Goals as goal

pub returns-then-help_asked-asks_help : goal.returns-then-help_asked-asks_help
returns-then-help_asked-asks_help c =
    let asked = c in
    by_help _ _ _ _ _ asked.help_asked.ensures asked.asks_help.ensures c.if-help_asked-asks_help.true

pub returns-then-count-is_option : goal.returns-then-count-is_option
returns-then-count-is_option c =
    let asked = c in
    by_burst _ _ _ _ _ asked.help_asked.ensures asked.asks_help.ensures c.if-help_asked-asks_help.false
    c.is_option.ensures c.if-count-is_option.true c.burst_asked.ensures

pub returns : goal.returns
returns c =
    let asked = c in
    by_words _ _ _ _ _ asked.help_asked.ensures asked.asks_help.ensures c.if-help_asked-asks_help.false
    c.is_option.ensures c.if-count-is_option.false
