-- `port_carries` meets its contract: in each arm the port is the one that the arm names.
use mathlib.Core.Path.{ap, sym, ◌∙◌}
use mathlib.Core.Bool.{◌&&◌}
use lib.Dec.{ltb, eqb}
use Rattle.model.specs.declared.Accelerator.{Accelerator}
use Rattle.model.specs.declared.Interconnect.{Interconnect}
use Rattle.rules.specs.Rules.{carries}
use Rattle.rules.proofs.port_carries.Goals as goal

pub returns-in-Empty : goal.returns-in-Empty
unfolding carries
returns-in-Empty c =
    let a = c.args in sym (ap (carries a.t a.j a.p) c.in-Empty.is)

pub returns-in-Acc : goal.returns-in-Acc
unfolding carries
returns-in-Acc c =
    let a = c.args in
    ap (λ (y : Accelerator). ltb c.in-Acc.a a.t.accs && eqb y.interconnect a.j && eqb y.port a.p) c.accelerator_at-y.ensures
    ∙ sym (ap (carries a.t a.j a.p) c.in-Acc.is)

pub returns-in-Int : goal.returns-in-Int
unfolding carries
returns-in-Int c =
    let a = c.args in
    let k = c.in-Int.k in
    ap (λ (y : Interconnect). ltb 0 k && ltb k a.t.ints && eqb y.parent a.j && eqb y.port a.p) c.interconnect_at-y.ensures
    ∙ sym (ap (carries a.t a.j a.p) c.in-Int.is)
