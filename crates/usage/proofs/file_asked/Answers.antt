-- `file_asked` meets its contract: it tests in the definition's order.
use Rattle.usage.proofs.Words.{by_help, by_words, by_name, by_terminal, by_input}
use Rattle.usage.proofs.file_asked.Goals as goal

pub returns-then-help_asked : goal.returns-then-help_asked
returns-then-help_asked c = by_help _ _ _ _ _ c.help_asked.ensures c.if-help_asked.true

pub returns-then-count-is_option : goal.returns-then-count-is_option
returns-then-count-is_option c =
    by_words _ _ _ _ _ c.help_asked.ensures c.if-help_asked.false c.is_option.ensures c.if-count-is_option.true

pub returns-then-count-eq1 : goal.returns-then-count-eq1
returns-then-count-eq1 c =
    by_name _ _ _ _ _ c.help_asked.ensures c.if-help_asked.false c.is_option.ensures
    c.if-count-is_option.false c.if-count-eq1.true

pub returns-then-terminal : goal.returns-then-terminal
returns-then-terminal c =
    by_terminal _ _ _ _ _ c.help_asked.ensures c.if-help_asked.false
    c.is_option.ensures c.if-count-is_option.false c.if-count-eq1.false c.if-terminal.true

pub returns : goal.returns
returns c =
    by_input _ _ _ _ _ c.help_asked.ensures c.if-help_asked.false
    c.is_option.ensures c.if-count-is_option.false c.if-count-eq1.false c.if-terminal.false
