-- `offer_pieces` meets its contract: so many pieces are admitted, and what comes of the others from here on is what is still to come.
use Rattle.burst.proofs.Offered.{Sofar}
use Rattle.burst.proofs.offers.offer_pieces.Given as goal

abbrev pub invariant-loop-admitted : goal.invariant-loop-admitted
invariant-loop-admitted l = Sofar l.t l.a l.k l.initial.state l.state l.admitted
