-- `choose` meets its contract: the levels fall, and each return is the case of the definition that the turn's port, or what it carries,
-- picks.
use Rattle.counts.proofs.Ports.+choose.Given as goal

abbrev pub decreases-choose : goal.decreases-choose
decreases-choose l = l.levels
