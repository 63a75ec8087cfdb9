-- `report_text` meets its contract: the test of the rules picks the report, for which the page has room, or nothing.
use mathlib.Core.Path.{sym, ◌∙◌}
use native.Mathlib.Omega.{arith}
use borrow.Author.Rules.{rules}
use Rattle.put.proofs.Puts.{written_none}
use Rattle.put.proofs.Texts.{puts_laid}
use Rattle.listing.proofs.Rows.{report_broken}
use Rattle.listing.proofs.report_text.Goals as goal

pub returns-then-not-tree_keeps : goal.returns-then-not-tree_keeps
returns-then-not-tree_keeps c = written_none (report_broken _ (sym c.tree_keeps.ensures ∙ c.if-not-tree_keeps.true))

pub returns : goal.returns
returns c =
    puts_laid c.new-text.ensures.bytes c.new-text.ensures.empty c.put_report.ensures c.len.ensures (omega arith) (search rules)
