-- `channel_asked` meets its contract: it compares in the definition's order.
use mathlib.Core.Path.{sym, ◌∙◌}
use Rattle.folds.proofs.Folds.{picked, passed}
use Rattle.usage.specs.Usage.{channel_asked}
use Rattle.usage.proofs.channel_asked.Goals as goal

pub returns-then-same_bytes : goal.returns-then-same_bytes
unfolding channel_asked
returns-then-same_bytes c = sym (picked _ _ _ (sym c.same_bytes.ensures ∙ c.if-same_bytes.true))

pub returns-then-same_bytes-2 : goal.returns-then-same_bytes-2
unfolding channel_asked
returns-then-same_bytes-2 c =
    sym (passed _ _ _ (sym c.same_bytes.ensures ∙ c.if-same_bytes.false)
    ∙ picked _ _ _ (sym c.same_bytes-2.ensures ∙ c.if-same_bytes-2.true))

pub returns : goal.returns
unfolding channel_asked
returns c =
    sym (passed _ _ _ (sym c.same_bytes.ensures ∙ c.if-same_bytes.false)
    ∙ passed _ _ _ (sym c.same_bytes-2.ensures ∙ c.if-same_bytes-2.false))
