-- `simulate_asked` meets its contract: it tests in the definition's order.
use Rattle.simulation.proofs.Words.{by_help, by_words, by_run}
use Rattle.simulation.proofs.simulate_asked.Goals as goal

pub returns-then-help_asked-asks_help : goal.returns-then-help_asked-asks_help
returns-then-help_asked-asks_help c = by_help _ _ _ _ _ c.help_asked.ensures c.asks_help.ensures c.if-help_asked-asks_help.true

pub returns-then-count-two_files : goal.returns-then-count-two_files
returns-then-count-two_files c =
    by_run _ _ _ _ _ c.help_asked.ensures c.asks_help.ensures
    c.if-help_asked-asks_help.false c.two_files.ensures c.if-count-two_files.true c.run_asked.ensures

pub returns : goal.returns
returns c =
    by_words _ _ _ _ _ c.help_asked.ensures c.asks_help.ensures
    c.if-help_asked-asks_help.false c.two_files.ensures c.if-count-two_files.false
