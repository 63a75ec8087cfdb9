-- `state_keeps` meets its contract: a state of a program has arrays of their lengths, and the rest is tested.
use mathlib.Core.Path.{sym, ◌∙◌}
use borrow.Author.Rules.{rules}
use Rattle.rules.specs.Rules.{state_keeps}
use Rattle.folds.proofs.Listed.{all_listed}
use Rattle.model.proofs.Lists.{and_cong}
use Rattle.rules.proofs.Sized.{sized_yes}
use Rattle.rules.proofs.state_keeps.Goals as goal

pub returns : goal.returns
unfolding state_keeps
returns c =
    let s = c.args.s in
    and_cong (and_cong (sym (sized_yes s (search rules) (search rules) (search rules) (search rules) (search rules))) (c.records_keep.ensures ∙ all_listed 32 _)) (c.turns_keep.ensures ∙ all_listed 15 _)
