-- `on_the_way` meets its contract: past 30 the power is above every number of 32 bits.
use borrow.Author.Rules.{rules}
use Rattle.rules.proofs.Returns.{way_far, way_near}
use Rattle.rules.proofs.on_the_way.Goals as goal

pub returns-then-delay-gt30 : goal.returns-then-delay-gt30
returns-then-delay-gt30 c = way_far c.args.delay c.args.returns c.if-delay-gt30.true (search rules)

pub returns : goal.returns
returns c = way_near c.args.delay c.args.returns c.if-delay-gt30.false
