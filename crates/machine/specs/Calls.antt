-- A list of calls on one channel's state, each handed the state that the one before it returned.
--
-- Call                 an offer of accelerator a, or a slot
-- step t s c           what the call c answers and returns from state s
-- answers_of t s cs     the answers of the calls cs, the first handed s
-- state_after t s cs    the state that the last of the calls cs returns
use Rattle.std.specs.Prelude.{ℕ, List, [], ◌∷◌}
use Rattle.model.specs.declared.Tree.{Tree}
use Rattle.model.specs.declared.State.{State}
use Rattle.machine.specs.Machine.{Answer, Outcome, offered, slotted}

pub data Call : Type 0 where
  offer : ℕ → Call
  slot : Call

abbrev pub step : Tree → State → Call → Outcome
step t s (offer a) = offered t s a
step t s slot = slotted t s

unfoldable pub answers_of : Tree → State → List Call → List Answer
answers_of t s [] = []
answers_of t s (c ∷ cs) = (step t s c).answer ∷ answers_of t (step t s c).state cs

unfoldable pub state_after : Tree → State → List Call → State
state_after t s [] = s
state_after t s (c ∷ cs) = state_after t (step t s c).state cs
