-- `share_above` meets its contract: the two ends and the step up are those of the product, and at most three factors fit.
use Rattle.shares.proofs.+share_above.Given as goal

abbrev pub decreases-share_above : goal.decreases-share_above
decreases-share_above l = l.n
