-- `read_field` meets its contract: its tests are those of the definition, in the same order.
use mathlib.Core.Path.{sym, ◌∙◌}
use Rattle.text.proofs.Digits.{field_dash, field_short, field_long, field_zero, field_digits}
use Rattle.text.proofs.read_field.Goals as goal

pub returns-then-same_bytes : goal.returns-then-same_bytes
returns-then-same_bytes c = sym (field_dash _ (sym c.same_bytes.ensures ∙ c.if-same_bytes.true))

pub returns-then-s-lt1 : goal.returns-then-s-lt1
returns-then-s-lt1 c =
    sym (field_short _ (sym c.same_bytes.ensures ∙ c.if-same_bytes.false) c.if-s-lt1.true)

pub returns-then-s-gt10 : goal.returns-then-s-gt10
returns-then-s-gt10 c =
    sym (field_long _ (sym c.same_bytes.ensures ∙ c.if-same_bytes.false) c.if-s-lt1.false c.if-s-gt10.true)

pub returns-then-s : goal.returns-then-s
returns-then-s c =
    let at-if2 = c in
    let at-if1 = at-if2 in
    let at-same-bytes = at-if1 in
    sym (field_zero _ (sym at-same-bytes.same_bytes.ensures ∙ at-if1.if-same_bytes.false) at-if2.if-s-lt1.false c.if-s-gt10.false c.if-s.true)

pub returns : goal.returns
returns c =
    let at-if3 = c in
    let at-if2 = at-if3 in
    let at-if1 = at-if2 in
    let at-same-bytes = at-if1 in
    c.read_digits.ensures
    ∙ sym (field_digits _ (sym at-same-bytes.same_bytes.ensures ∙ at-if1.if-same_bytes.false) at-if2.if-s-lt1.false at-if3.if-s-gt10.false c.if-s.false)
