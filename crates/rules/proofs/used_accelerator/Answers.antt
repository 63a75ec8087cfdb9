-- `used_accelerator` meets its contract: the tests are those of the rule, on what `accelerator_at` and `port_at` give.
use mathlib.Core.Path.{◌≡◌, ap, ◌∙◌}
use borrow.Author.Rules.{rules}
use mathlib.Core.Bool.{◌&&◌}
use lib.Dec.{ltb, leb}
use Rattle.model.specs.declared.Accelerator.{Accelerator}
use Rattle.folds.specs.Fold.{within}
use Rattle.model.specs.Tree.{port_of}
use Rattle.rules.specs.Rules.{used_accelerator, is_acc}
use Rattle.model.proofs.Lists.{and_cong}
use Rattle.rules.proofs.used_accelerator.Goals as goal

pub returns : goal.returns
unfolding used_accelerator
returns c =
    let e = c.accelerator_at-x.ensures in
    let a = c.args in
    let same : c.eq.result ≡ is_acc a.a c.port_at.result = search rules in
    and_cong (and_cong (and_cong (and_cong (and_cong (and_cong (and_cong (ap (λ (x : Accelerator). ltb x.interconnect a.t.ints && leb x.port 7) e)
    (same ∙ ap (is_acc a.a) (c.port_at.ensures ∙ ap (λ (x : Accelerator). port_of a.t x.interconnect x.port) e)))
    (c.in_limits.ensures ∙ ap (λ (x : Accelerator). within 1 x.phi 16) e))
    (c.in_limits-2.ensures ∙ ap (λ (x : Accelerator). within 1 x.budget 1024) e))
    (c.in_limits-3.ensures ∙ ap (λ (x : Accelerator). within 0 x.reads 65535) e))
    (c.in_limits-4.ensures ∙ ap (λ (x : Accelerator). within 0 x.writes 65535) e))
    (c.in_limits-5.ensures ∙ ap (λ (x : Accelerator). within 0 x.computing 4294967295) e))
    (c.in_limits-6.ensures ∙ ap (λ (x : Accelerator). within 1 x.period 4294967295) e)
