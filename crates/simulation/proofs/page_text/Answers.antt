-- `page_text` meets its contract: the test of the kind picks a page of the run or the refusal's line.
use borrow.Author.Tests.{lt-ltb, le-ltb}
use Rattle.simulation.proofs.Paged.{page_of_run, page_of_refusal}
use Rattle.simulation.proofs.page_text.Goals as goal

pub returns-then-o-lt2 : goal.returns-then-o-lt2
returns-then-o-lt2 c =
    page_of_run _ _ _ (lt-ltb _ _ c.if-o-lt2.true) c.used_length-n.ensures.1 c.page_text.ensures

pub returns : goal.returns
returns c = page_of_refusal _ _ _ (le-ltb _ _ c.if-o-lt2.false) c.refusal_text.ensures
