-- `crosses_above` meets its contract: the fuel n falls, and each parent is one crossing of `above`.
use Rattle.meeting.proofs.+crosses_above.Given as goal

abbrev pub decreases-crosses_above : goal.decreases-crosses_above
decreases-crosses_above l = l.n
