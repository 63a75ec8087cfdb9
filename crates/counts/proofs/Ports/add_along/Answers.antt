-- `add_along` meets its contract: from where the loop stands, the rest of the path makes of what is kept what the whole path
-- makes of it at the start.
use mathlib.Core.Path.{refl, sym, ◌∙◌}
use Prim.Native.Nat.{◌+◌, ◌-◌}
use native.Mathlib.Omega.{arith}
use Rattle.counts.proofs.Steps.{up_none, up_out, up_root, up_next, more_none, more_port}
use Rattle.counts.proofs.Ports.add_along.Goals as goal

pub up-preserved : goal.up-preserved
up-preserved c =
    let l = c.up in
    more_port l.self (up_next _ (4 - (l.counter + 1)) _ _ _ (omega (arith, c.up-test.true)) c.if-c-gt119.false c.if-j-eq0.false refl)
    c.saturating_add.ensures c.with_port.ensures ∙ l.invariant

pub returns-then-c-gt119 : goal.returns-then-c-gt119
returns-then-c-gt119 c = sym (more_none c.up.self (up_out _ _ _ c.if-c-gt119.true)) ∙ c.up.invariant

pub returns-then-j-eq0 : goal.returns-then-j-eq0
returns-then-j-eq0 c =
    let l = c.up in
    let root = up_root _ _ _ (omega (arith, c.up-test.true)) c.if-c-gt119.false c.if-j-eq0.true in
    sym (more_none _ refl) ∙ more_port l.self root c.saturating_add.ensures c.with_port.ensures ∙ l.invariant

pub returns : goal.returns
returns c = sym (more_none c.up.self (up_none _ _ _ (omega (arith, c.up-test.false)))) ∙ c.up.invariant
