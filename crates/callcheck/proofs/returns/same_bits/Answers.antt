-- `same_bits` meets its contract: the loop has tested each bit below the next one.
use Rattle.std.proofs.Common.{sym}
use Rattle.model.proofs.Sums.{all_none, all_turn}
use Rattle.callcheck.specs.Same.{due_slot, same_return}
use Rattle.callcheck.proofs.Bits.{bit_in}
use Rattle.callcheck.proofs.returns.same_bits.Goals as goal

pub loop-k-init : goal.loop-k-init
loop-k-init c = sym (all_none _)

pub loop-k-preserved : goal.loop-k-preserved
loop-k-preserved c =
    let x = c.args in
    all_turn _ (λ i. same_return x.x i x.a (due_slot x.n x.delay i) x.d.now) _ _ c.loop-k.invariant
    (bit_in x.x _ x.a _ _ x.d.now _ c.due_slot.ensures c.same_return-same.ensures)
