-- `split_answer` meets its contract: its tests are those of the definition, in the same order.
use mathlib.Core.Path.{sym, ◌∙◌, ap}
use mathlib.Core.Bool.{Bool}
use Rattle.folds.proofs.Ceiling.{ceiling_lem}
use Rattle.burst.specs.Burst.{pieces, split_of}
use Rattle.burst.proofs.Cut.{split_11, split_15, split_16, split_pieces}
use Rattle.burst.proofs.split_answer.Goals as goal

pub returns-then-not-ok : goal.returns-then-not-ok
returns-then-not-ok c =
    let a = c.args in
    split_11 a.limit a.n a.b ∙ ap (λ (x : Bool). split_of a.limit x a.n a.b) (sym (c.if-not-ok.true))

pub returns-then-not-is_burst : goal.returns-then-not-is_burst
returns-then-not-is_burst c =
    let a = c.args in
    split_15 a.limit a.n a.b (sym c.is_burst.ensures ∙ c.if-not-is_burst.true)
    ∙ ap (λ (x : Bool). split_of a.limit x a.n a.b) (sym (c.if-not-ok.false))

pub returns-then-crosses_page : goal.returns-then-crosses_page
returns-then-crosses_page c =
    let a = c.args in
    split_16 a.limit a.n a.b
    (sym c.is_burst.ensures ∙ c.if-not-is_burst.false)
    (sym c.crosses_page.ensures ∙ c.if-crosses_page.true)
    ∙ ap (λ (x : Bool). split_of a.limit x a.n a.b) (sym (c.if-not-ok.false))

pub returns : goal.returns
returns c =
    let a = c.args in
    ap pieces (c.div_ceil.ensures ∙ ceiling_lem a.b.beats a.n (c.requires.0 c.if-not-ok.false))
    ∙ split_pieces a.limit a.n a.b
    (sym c.is_burst.ensures ∙ c.if-not-is_burst.false)
    (sym c.crosses_page.ensures ∙ c.if-crosses_page.false)
    ∙ ap (λ (x : Bool). split_of a.limit x a.n a.b) (sym (c.if-not-ok.false))
