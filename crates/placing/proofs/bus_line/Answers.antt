-- `bus_line` meets its contract: the test of the window picks the answer.
use mathlib.Core.Path.{ap, sym, ◌∙◌}
use borrow.Author.Tests.{le-ltb, lt-ltb}
use Rattle.folds.proofs.Folds.{picked, passed}
use Rattle.records.proofs.Stored.{bus_stored_lem}
use Rattle.placing.specs.Placing.{bus_line, given}
use Rattle.placing.proofs.bus_line.Goals as goal

pub returns-then-t-gt0 : goal.returns-then-t-gt0
unfolding bus_line
returns-then-t-gt0 c = c.refused.ensures ∙ sym (picked _ _ _ (lt-ltb _ _ c.if-t-gt0.true))

pub returns : goal.returns
unfolding bus_line
returns c =
    let stored = c.store_bus.ensures ∙ bus_stored_lem c.args.t c.args.v c.args.axi3 c.requires in
    c.accepted.ensures ∙ ap given stored ∙ sym (passed _ _ _ (le-ltb _ _ c.if-t-gt0.false))
