-- `used_interconnect` meets its contract: the tests are those of the rule, on what the callees give.
use mathlib.Core.Path.{ap, ◌∙◌}
use Prim.Native.Nat.{ℕ}
use lib.Dec.{leb}
use Rattle.model.specs.declared.Interconnect.{Interconnect}
use Rattle.folds.specs.Fold.{within}
use Rattle.rules.specs.Rules.{used_interconnect}
use Rattle.folds.proofs.Listed.{all_listed}
use Rattle.model.proofs.Lists.{and_cong}
use Rattle.rules.proofs.used_interconnect.Goals as goal

pub returns : goal.returns
unfolding used_interconnect
returns c =
    and_cong (and_cong (and_cong
    (c.in_limits.ensures ∙ ap (λ (x : Interconnect). within 1 x.granularity 16) c.interconnect_at-x.ensures)
    c.placed.ensures)
    (ap (λ (k : ℕ). leb k 4) c.level_of.ensures))
    (c.ports_carry.ensures ∙ all_listed 8 _)
