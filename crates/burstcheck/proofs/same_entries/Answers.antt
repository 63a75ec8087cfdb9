-- `same_entries` meets its contract: the loop has compared each entry before the next one.
use Rattle.std.proofs.Common.{eqb, get_or, sym}
use Rattle.model.proofs.Sums.{all_none, all_turn}
use Rattle.store.specs.Store.{number_at}
use Rattle.callcheck.proofs.Tests.{eqb_cong}
use Rattle.burstcheck.proofs.same_entries.Goals as goal

pub loop-i-init : goal.loop-i-init
loop-i-init c = sym (all_none _)

pub loop-i-preserved : goal.loop-i-preserved
loop-i-preserved c =
    let a = c.args in
    let same = eqb_cong c.wide.ensures c.get.ensures in
    all_turn _ (λ j. eqb (get_or a.a.now j 0) (number_at a.d.now a.part j)) _ _ c.loop-i.invariant same
