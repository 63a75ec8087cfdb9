-- A call from a state that keeps its rules passes the test of the rules, and the state that it returns keeps them.
use mathlib.Core.Bool.{true}
use mathlib.Core.Path.{◌≡◌, sym}
use Rattle.model.specs.declared.Tree.{Tree}
use Rattle.model.specs.declared.State.{State}
use Rattle.rules.specs.Rules.{keeps}
use Rattle.machine.specs.Machine.{Outcome, offered_within, slotted_within}
use Rattle.machine.specs.Calls.{Call, offer, slot, step}
use Rattle.machine.proofs.Steps.{offer_passed, slot_passed}
use Rattle.machine.proofs.Laws.{offer_keeps, slot_keeps}

-- what the call c answers and returns, without that test
abbrev pub step_within : Tree → State → Call → Outcome
step_within t s (offer a) = offered_within t s a
step_within t s slot = slotted_within t s

pub step_within_lem : (t : Tree) (s : State) (c : Call) → keeps t s ≡ true → step t s c ≡ step_within t s c
step_within_lem t s (offer a) e = sym (offer_passed t s a e)
step_within_lem t s slot e = sym (slot_passed t s e)

pub step_keeps : (t : Tree) (s : State) (c : Call) → keeps t s ≡ true → keeps t (step t s c).state ≡ true
step_keeps t s (offer a) e = offer_keeps t s a e
step_keeps t s slot e = slot_keeps t s e
