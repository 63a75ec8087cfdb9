-- `child_placed` meets its contract: the tests are those of the rule, on what `interconnect_at` and `port_at` give.
use mathlib.Core.Path.{◌≡◌, ap, ◌∙◌}
use borrow.Author.Rules.{rules}
use mathlib.Core.Bool.{◌&&◌}
use lib.Dec.{ltb, leb}
use Rattle.model.specs.declared.Interconnect.{Interconnect}
use Rattle.model.specs.Tree.{port_of}
use Rattle.rules.specs.Rules.{child_placed, is_int}
use Rattle.model.proofs.Lists.{and_cong}
use Rattle.rules.proofs.child_placed.Goals as goal

pub returns : goal.returns
unfolding child_placed
returns c =
    let e = c.interconnect_at-x.ensures in
    let a = c.args in
    let same : c.eq.result ≡ is_int a.j c.port_at.result = search rules in
    and_cong (ap (λ (x : Interconnect). ltb x.parent a.j && leb x.port 7) e)
    (same ∙ ap (is_int a.j) (c.port_at.ensures ∙ ap (λ (x : Interconnect). port_of a.t x.parent x.port) e))
