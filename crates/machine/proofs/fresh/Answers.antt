-- `fresh` meets its contract: the check of the configuration picks the case of the definition.
use mathlib.Core.Path.{ap, sym, ◌∙◌}
use Rattle.rules.proofs.Sound.{sound}
use Rattle.machine.specs.Machine.{beginning, started, not_started}
use Rattle.machine.proofs.Steps.{fresh_11, fresh_started}
use Rattle.machine.proofs.fresh.Goals as goal

pub returns-then-not-tree_keeps : goal.returns-then-not-tree_keeps
returns-then-not-tree_keeps c =
    ap (beginning (not_started 11)) c.zero_state.ensures ∙ fresh_11 _ _ (sym c.tree_keeps.ensures ∙ c.if-not-tree_keeps.true)

pub fresh_state-requires : goal.fresh_state-requires
fresh_state-requires c = (sound _ (sym c.tree_keeps.ensures ∙ c.if-not-tree_keeps.false)).most_ints

pub returns : goal.returns
returns c =
    ap (beginning started) c.fresh_state.ensures ∙ fresh_started _ _ (sym c.tree_keeps.ensures ∙ c.if-not-tree_keeps.false)
