-- `same_bytes` meets its contract: byte strings of one length are compared pair by pair, and others differ.
use mathlib.Core.Path.{sym, ◌∙◌}
use borrow.Author.Tests.{ne_eqb}
use Rattle.text.proofs.Found.{same_paired, same_long}
use Rattle.text.proofs.same_bytes.Goals as goal

pub returns-then-a-b : goal.returns-then-a-b
returns-then-a-b c = c.pairs_same.ensures ∙ same_paired _ _ c.if-a-b.true

pub returns-else-a-b : goal.returns-else-a-b
returns-else-a-b c = ne_eqb _ _ c.if-a-b.false ∙ sym (same_long _ _ c.if-a-b.false)
