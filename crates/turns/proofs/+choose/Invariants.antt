-- `choose` meets its contract: the levels fall, and each arm is the case of the definition that the port picks.
use Rattle.turns.proofs.+choose.Given as goal

abbrev pub decreases-choose : goal.decreases-choose
decreases-choose l = l.levels
