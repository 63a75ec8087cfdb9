-- `meet_above` meets its contract: the fuel n falls, and each parent is one crossing of `above`.
use Rattle.meeting.proofs.+meet_above.Given as goal

abbrev pub decreases-meet_above : goal.decreases-meet_above
decreases-meet_above l = l.n
