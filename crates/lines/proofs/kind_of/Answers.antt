-- `kind_of` meets its contract: its tests are those of the definition, in the same order.
use mathlib.Core.Path.{sym, ◌∙◌}
use Rattle.lines.proofs.Fields.{kind_bus, kind_int, kind_acc, kind_offer, kind_bus3, kind_none}
use Rattle.lines.proofs.kind_of.Goals as goal

-- `kind_of` meets its contract: its tests are those of the definition, in the same order.
pub returns-then-same_bytes : goal.returns-then-same_bytes
returns-then-same_bytes c = sym (kind_bus _ (sym c.same_bytes.ensures ∙ c.if-same_bytes.true))

pub returns-then-same_bytes-2 : goal.returns-then-same_bytes-2
returns-then-same_bytes-2 c = sym (kind_int _ (sym c.same_bytes.ensures ∙ c.if-same_bytes.false) (sym c.same_bytes-2.ensures ∙ c.if-same_bytes-2.true))

pub returns-then-same_bytes-3 : goal.returns-then-same_bytes-3
returns-then-same_bytes-3 c =
    sym (kind_acc _ (sym c.same_bytes.ensures ∙ c.if-same_bytes.false) (sym c.same_bytes-2.ensures ∙ c.if-same_bytes-2.false) (sym c.same_bytes-3.ensures ∙ c.if-same_bytes-3.true))

pub returns-then-same_bytes-4 : goal.returns-then-same_bytes-4
returns-then-same_bytes-4 c =
    sym (kind_offer _ (sym c.same_bytes.ensures ∙ c.if-same_bytes.false) (sym c.same_bytes-2.ensures ∙ c.if-same_bytes-2.false) (sym c.same_bytes-3.ensures ∙ c.if-same_bytes-3.false) (sym c.same_bytes-4.ensures ∙ c.if-same_bytes-4.true))

pub returns-then-same_bytes-5 : goal.returns-then-same_bytes-5
returns-then-same_bytes-5 c =
    sym (kind_bus3 _ (sym c.same_bytes.ensures ∙ c.if-same_bytes.false) (sym c.same_bytes-2.ensures ∙ c.if-same_bytes-2.false) (sym c.same_bytes-3.ensures ∙ c.if-same_bytes-3.false) (sym c.same_bytes-4.ensures ∙ c.if-same_bytes-4.false) (sym c.same_bytes-5.ensures ∙ c.if-same_bytes-5.true))

pub returns : goal.returns
returns c =
    sym (kind_none _ (sym c.same_bytes.ensures ∙ c.if-same_bytes.false) (sym c.same_bytes-2.ensures ∙ c.if-same_bytes-2.false) (sym c.same_bytes-3.ensures ∙ c.if-same_bytes-3.false) (sym c.same_bytes-4.ensures ∙ c.if-same_bytes-4.false) (sym c.same_bytes-5.ensures ∙ c.if-same_bytes-5.false))
