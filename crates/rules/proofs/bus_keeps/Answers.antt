-- `bus_keeps` meets its contract: each field is tested against its limits.
use Rattle.rules.specs.Rules.{bus_keeps}
use Rattle.rules.proofs.Returns.{no_low}
use Rattle.model.proofs.Lists.{and_cong}
use Rattle.rules.proofs.bus_keeps.Goals as goal

pub returns : goal.returns
unfolding bus_keeps
returns c =
    let c9 = c in
    let c8 = c9 in
    let c7 = c8 in
    let c6 = c7 in
    let c5 = c6 in
    let c4 = c5 in
    let c3 = c4 in
    let c2 = c3 in
    let c1 = c2 in
    let first = and_cong (and_cong c1.in_limits.ensures c2.in_limits-2.ensures) c3.in_limits-3.ensures in
    let next = and_cong (and_cong (and_cong first c4.in_limits-4.ensures) c5.in_limits-5.ensures) c6.in_limits-6.ensures in
    let delays = and_cong (and_cong (and_cong next c7.in_limits-7.ensures) c8.in_limits-8.ensures) c9.in_limits-9.ensures in
    and_cong (and_cong delays c.burst_keeps.ensures) (no_low c1.args.b.delay 15)
