-- `same_ports` meets its contract: the loop has tested each port below the next one.
use Prim.Native.Nat.{ℕ}
use mathlib.Core.Path.{ap, sym, ◌∙◌}
use Rattle.model.proofs.Sums.{all_none, all_turn}
use lib.Dec.{eqb}
use Rattle.model.specs.Tree.{port_of}
use Rattle.second.specs.Rows.{carried_of}
use Rattle.treecheck.specs.Same.{code_of}
use Rattle.treecheck.proofs.same_ports.Goals as goal

pub loop-p-init : goal.loop-p-init
loop-p-init c = sym (all_none _)

pub loop-p-preserved : goal.loop-p-preserved
loop-p-preserved c =
    let a = c.args in
    let l = c.loop-p in
    all_turn _ (λ q. eqb (code_of (port_of a.t a.i q)) (carried_of a.d.now a.i q)) _ _ l.invariant
    (ap (eqb _) c.carried.ensures
    ∙ ap (λ (x : ℕ). eqb x (carried_of a.d.now a.i l.p)) (c.code.ensures ∙ ap code_of c.port_at.ensures))
