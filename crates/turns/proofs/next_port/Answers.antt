-- `next_port` meets its contract: the empty set gives 8, and any other the port that the computed test has found.
use borrow.Author.Rules.{rules}
use Rattle.turns.proofs.Circle.{none_live, some_live}
use Rattle.turns.proofs.next_port.Goals as goal

pub returns-then-set-eq0 : goal.returns-then-set-eq0
returns-then-set-eq0 c = none_live c.args.set c.args.last (search rules)

pub returns : goal.returns
returns c = some_live c.args.set c.args.last (search rules) (search rules)
