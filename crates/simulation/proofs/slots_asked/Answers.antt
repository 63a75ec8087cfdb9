-- `slots_asked` meets its contract: what the word says as a number, or that it says none.
use Rattle.simulation.proofs.Words.{slots_none, slots_said}
use Rattle.simulation.proofs.slots_asked.Goals as goal

pub returns-in_default : goal.returns-in_default
returns-in_default c = slots_none _ _ _ c.number_asked.ensures c.in_default.is

pub returns : goal.returns
returns c = slots_said _ _ _ c.number_asked.ensures _ c.in-Some.is
