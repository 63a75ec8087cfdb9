-- The offers of a run before a slot (document 01, "Turns", last paragraph).
--
-- held_of h a           the held transactions of accelerator a
-- release h a           the held counts with one transaction of accelerator a less
-- Offering              the state and the held counts between two offers; offering s h: the state s and the held counts h
-- offer_held k t o a    accelerator a offers held transactions, at most k of them, "until one is refused or none is left, and
--                       an offer that is refused leaves the held request first in line"
-- offer_all t o a       the same with all that accelerator a holds
-- offer_each n t o      "then accelerators in rising number offer held transactions": those below n
use Rattle.std.specs.Prelude.{ℕ, zero, suc, ◌-◌, List, get_or, set}
use Rattle.model.specs.declared.Tree.{Tree}
use Rattle.model.specs.declared.State.{State}
use Rattle.machine.specs.Machine.{on_admitted, offered}

pub record Offering : Type 0 where
  pub state : State
  pub held : List ℕ

abbrev pub held_of : List ℕ → ℕ → ℕ
held_of h a = get_or h a 0

abbrev pub release : List ℕ → ℕ → List ℕ
release h a = set h a (held_of h a - 1)

abbrev pub offering : State → List ℕ → Offering
offering s h = record { state = s; held = h }

unfoldable pub offer_held : ℕ → Tree → Offering → ℕ → Offering
offer_held zero t o a = o
offer_held (suc k) t o a =
    on_admitted (offered t o.state a).answer
    (offer_held k t (offering (offered t o.state a).state (release o.held a)) a)
    o

abbrev pub offer_all : Tree → Offering → ℕ → Offering
offer_all t o a = offer_held (held_of o.held a) t o a

unfoldable pub offer_each : ℕ → Tree → Offering → Offering
offer_each zero t o = o
offer_each (suc n) t o = offer_all t (offer_each n t o) n
