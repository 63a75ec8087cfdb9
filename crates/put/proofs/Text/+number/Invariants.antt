-- `number` meets its contract: the measure is n, which n / 10 is below.
use Rattle.put.proofs.Text.+number.Given as goal

abbrev pub decreases-number : goal.decreases-number
decreases-number l = l.n
