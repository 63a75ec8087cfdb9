-- `parents` meets its contract: the fuel n falls, and each parent is one crossing of `above`.
use Rattle.model.proofs.access.+parents.Given as goal

abbrev pub decreases-parents : goal.decreases-parents
decreases-parents l = l.n
