-- `slot` meets its contract: the check of the rules picks the case of the definition.
use mathlib.Core.Path.{sym, ◌∙◌}
use Rattle.machine.proofs.Steps.{slot_11, slot_passed}
use Rattle.machine.proofs.slot.Goals as goal

pub returns-then-not-both_keep : goal.returns-then-not-both_keep
returns-then-not-both_keep c = slot_11 _ _ (sym c.both_keep.ensures ∙ c.if-not-both_keep.true)

pub returns : goal.returns
returns c =
    let x = c.args in
    c.slot_within.ensures ∙ slot_passed x.t x.s (sym c.both_keep.ensures ∙ c.if-not-both_keep.false)
