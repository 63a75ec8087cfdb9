-- `same_accelerators` meets its contract: the loop has tested each number below the next one.
use mathlib.Core.Path.{ap, sym, ◌∙◌}
use Rattle.model.proofs.Sums.{all_none, all_turn}
use Rattle.model.specs.Tree.{accelerator_of}
use Rattle.treecheck.specs.Same.{same_acc}
use Rattle.model.specs.declared.Accelerator.{Accelerator}
use Rattle.treecheck.proofs.same_accelerators.Goals as goal

pub loop-a-init : goal.loop-a-init
loop-a-init c = sym (all_none _)

pub loop-a-preserved : goal.loop-a-preserved
loop-a-preserved c =
    let a = c.args in
    all_turn _ (λ b. same_acc (accelerator_of a.t b) b a.d.now) _ _ c.loop-a.invariant
    (c.same_acc-same.ensures ∙ ap (λ (x : Accelerator). same_acc x c.loop-a.a a.d.now) c.accelerator_at.ensures)
