-- `finished` meets its contract: the tests are those of the definition.
use mathlib.Core.Path.{ap, sym, ◌∙◌}
use mathlib.Core.Bool.{Bool, ◌&&◌}
use lib.Dec.{ltb}
use Rattle.placing.specs.Placing.{finish}
use Rattle.folds.proofs.Folds.{picked, passed}
use Rattle.placing.proofs.finished.Goals as goal

pub returns-then-t-no_gap : goal.returns-then-t-no_gap
unfolding finish
returns-then-t-no_gap c =
    c.accepted.ensures ∙ sym (picked _ _ _ (ap (λ (g : Bool). ltb 0 c.args.t.bus.window && ltb 0 c.args.t.ints && ltb 0 c.args.t.accs && g) (sym c.no_gap.ensures) ∙ c.if-t-no_gap.true))

pub returns : goal.returns
unfolding finish
returns c =
    c.refused.ensures ∙ sym (passed _ _ _ (ap (λ (g : Bool). ltb 0 c.args.t.bus.window && ltb 0 c.args.t.ints && ltb 0 c.args.t.accs && g) (sym c.no_gap.ensures) ∙ c.if-t-no_gap.false))
