-- `number_at` meets its contract: its tests are those of the definition, on the place where the field ends.
use mathlib.Core.Path.{sym}
use mathlib.Core.Logic.{inl, inr}
use Rattle.trace.proofs.Offers.{number_past, number_other, number_field}
use Rattle.trace.proofs.number_at.Goals as goal

pub returns-then-s-end : goal.returns-then-s-end
returns-then-s-end c =
    sym (number_past _ _ _ _ c.field_end-end.ensures c.if-s-end.true)

pub returns-then-s-end-2 : goal.returns-then-s-end-2
returns-then-s-end-2 c =
    sym (number_other _ _ _ _ c.field_end-end.ensures c.if-s-end.false c.if-s-end-2.true)

pub returns-in-Malformed : goal.returns-in-Malformed
returns-in-Malformed c = elim c.in-Malformed.is [
  | inl e ↦ number_field _ _ _ _ c.field_end-end.ensures c.if-s-end.false c.if-s-end-2.false _ _ c.read_field.ensures e
  | inr e ↦ number_field _ _ _ _ c.field_end-end.ensures c.if-s-end.false c.if-s-end-2.false _ _ c.read_field.ensures e
]

pub returns-in-Number : goal.returns-in-Number
returns-in-Number c =
    number_field _ _ _ _ c.field_end-end.ensures c.if-s-end.false c.if-s-end-2.false _ _ c.read_field.ensures
    c.in-Number.is
