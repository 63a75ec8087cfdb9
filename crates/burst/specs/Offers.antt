-- A burst offered to the machine (document 02, item 6: "Each piece is one transaction for phi and for the budget").
--
-- Offering              what comes of it: the answer, how many pieces were admitted, and the state; offering x k s puts them together
-- one_more o            the offering o with one piece more admitted before it
-- offer_pieces k t s a  k pieces of accelerator a, offered one after another, each as one transaction, until one is refused: the answer is
--                       that refusal, or admitted where there is none
-- by_split x t s a from   the same for what the splitter answered: its pieces from piece `from` on, counted from 0; a refusal moves nothing
-- burst_offer t s a b from   the pieces of the burst b, from piece `from` on, counted from 0, offered so: 11 first, as for an offer, then what
--                       the splitter refuses, which moves nothing; `from` lets a block go on where an offer of the burst had stopped
use Rattle.std.specs.Prelude.{ℕ, zero, suc, ◌-◌}
use Rattle.model.specs.declared.Tree.{Tree}
use Rattle.model.specs.declared.State.{State}
use Rattle.model.specs.Tree.{beat_limit}
use Rattle.rules.specs.Rules.{keeps}
use Rattle.machine.specs.Machine.{Answer, admitted, refused, on_admitted, offered}
use Rattle.burst.specs.declared.Burst.{Burst}
use Rattle.burst.specs.Burst.{Split, pieces, not_split, split_of}

pub record Offering : Type 0 where
  pub answer : Answer
  pub admissions : ℕ
  pub state : State

abbrev pub offering : Answer → ℕ → State → Offering
offering x k s = record { answer = x; admissions = k; state = s }

abbrev pub one_more : Offering → Offering
one_more o = offering o.answer (suc o.admissions) o.state

unfoldable pub offer_pieces : ℕ → Tree → State → ℕ → Offering
offer_pieces zero t s a = offering admitted 0 s
offer_pieces (suc k) t s a =
    on_admitted (offered t s a).answer (one_more (offer_pieces k t (offered t s a).state a))
    (offering (offered t s a).answer 0 (offered t s a).state)

abbrev pub by_split : Split → Tree → State → ℕ → ℕ → Offering
by_split (pieces k) t s a from = offer_pieces (k - from) t s a
by_split (not_split m) t s a from = offering (refused m) 0 s

abbrev pub burst_offer : Tree → State → ℕ → Burst → ℕ → Offering
burst_offer t s a b from = by_split (split_of (beat_limit t.bus) (keeps t s) t.bus.burst b) t s a from
