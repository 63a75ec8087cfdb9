-- `before_slot` meets its contract: an answer comes home, the lines due are held, and then the offers are those of the definition.
use mathlib.Core.List.{List}
use mathlib.Core.Path.{◌∙◌, ap, ap₂}
use Prim.Native.Nat.{ℕ}
use Rattle.admit.specs.Admitting.{arrays, is_in, offers_before}
use Rattle.admit.proofs.Offers.{in_same}
use Rattle.runner.specs.Due.{Taken}
use Rattle.runner.specs.Arrays.{ready_on}
use Rattle.runner.proofs.steps.before_slot.Goals as goal

pub returns : goal.returns
returns c =
    let x = c.args in
    let came = c.come_home.ensures in
    let D = c.take_due-due.ensures in
    record {
      arrays = c.offer_each.ensures
          ∙ in_same x.table.now (is_in c.ready.result) _ (ready_on x.opened x.accs c.take_due-due.result.accelerators) c.ready.ensures 32
          ∙ ap₂ (λ (o : List ℕ) (T : Taken). offers_before x.table.now x.home (ready_on x.opened x.accs T.accelerators) (arrays o x.arrays.now.admitted T.held x.arrays.now.ports)) came D;
      line = ap (λ (y : Taken). y.line) D;
    }
