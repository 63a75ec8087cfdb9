-- `tree_keeps` meets its contract: a configuration of a program has arrays of their lengths, and the rest is tested.
use mathlib.Core.Path.{sym}
use borrow.Author.Rules.{rules}
use Rattle.rules.specs.Rules.{tree_keeps}
use Rattle.model.proofs.Lists.{long, and_cong}
use Rattle.rules.proofs.Sized.{eight_cells, sized_tree_yes}
use Rattle.rules.proofs.tree_keeps.Goals as goal

pub returns : goal.returns
unfolding tree_keeps
returns c =
    let t = c.args.t in
    let z = sized_tree_yes t (search (rules, long)) (search (rules, long)) (λ j. search (rules, eight_cells)) in
    and_cong (and_cong (and_cong (and_cong (and_cong (sym z) c.bus_keeps.ensures)
    c.in_limits.ensures) c.in_limits-2.ensures)
    c.interconnects_keep.ensures) c.accelerators_keep.ensures
