-- `choose` meets its contract: the levels fall, and each arm is the case of the definition that the port picks.
use mathlib.Core.Path.{ap, sym, ◌∙◌}
use Prim.Native.Nat.{ℕ, ◌-◌}
use Rattle.turns.specs.Turns.{reached, who, turned, after}
use Rattle.turns.proofs.Steps.{who_none, after_none, who_turn, after_turn}
use Rattle.turns.proofs.+choose.Goals as goal

pub returns-then-levels-eq0 : goal.returns-then-levels-eq0
returns-then-levels-eq0 t c =
    let a = c.args in
    let e = c.in-Int.is in (
      who_none a.levels a.t a.s _ c.if-levels-eq0.true ∙ sym (ap (reached (who a.levels a.t a.s)) e),
      after_none a.levels a.t a.s _ c.if-levels-eq0.true ∙ sym (ap (turned a.s (after a.levels a.t a.s)) e),
    )

pub returns-else-levels-eq0 : goal.returns-else-levels-eq0
returns-else-levels-eq0 t c =
    let b = c in
    let a = b.args in
    let e = b.in-Int.is in
    let j = b.in-Int.j in
    let h = b.if-levels-eq0.false in
    let p = b.turn_at-turn.ensures.0 in
    let d = b.port_at.ensures in (
      who_turn a.levels a.t a.s j _ _ h p d _ b.choose-below.ensures.0 ∙ sym (ap (reached (who a.levels a.t a.s)) e),
      c.with_turn-next.ensures
          ∙ after_turn a.levels a.t a.s j _ _ h p d _ _ b.choose-below.ensures.1 (c.saturating_sub.ensures ∙ ap (λ (n : ℕ). n - 1) b.turn_at-turn.ensures.1)
          ∙ sym (ap (turned a.s (after a.levels a.t a.s)) e),
    )
