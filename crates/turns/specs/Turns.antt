-- The turn rule (document 01, "Turns", second and third paragraph).
--
-- bits_below n f        the set of the ports below n of which f holds: bit p stands for port p
-- has_port set p        port p is in the set
-- live_set t s j        "The live ports of an interconnect form a set of eight bits": those "with something waiting under"
-- seek n set k         the first of the ports k, k + 1, .., n of them, 7 followed by 0, that is in the set; 8 if none is
-- next_port set last    "the first live port .. after the last one, circling 7 to 0 and ending with the last one itself",
--                      8 for the empty set
-- goes_on s j           "if its allowance is above 0, the last port goes on"
-- turn_port t s j       the port whose turn it is at interconnect j in this slot
-- turn_allowance t s j  the allowance of that turn before this slot takes one off: what it was if the last port goes on,
--                      else "the smaller of g and the number waiting under that port now"
-- reached v x          the accelerator that the choice comes to from a port that carries x, where v says it for an
--                      interconnect; nobody if the port is empty
-- who n t s j          the accelerator that the choice comes to from interconnect j, over at most n levels of
--                      interconnects ("the choice goes on downward to an accelerator")
-- with_turn s j p o     the state s with last port p and allowance o at interconnect j
-- turned s v x         the state once the choice has gone down from a port that carries x, where v says it for an
--                      interconnect
-- after n t s j        the state once each interconnect on the way down from j has the port and the allowance, less one,
--                      of its turn ("One is taken off the allowance", "Interconnects off the path do not change")
use Rattle.std.specs.Prelude.{ℕ, zero, suc, ◌+◌, ◌-◌, ◌/◌, ◌%◌, ◌^◌, min, Bool, set, ltb, eqb}
use Rattle.model.specs.declared.Tree.{Tree}
use Rattle.model.specs.declared.State.{State}
use Rattle.model.specs.declared.Port.{Port}
use Rattle.model.specs.declared.Port.TheVariants.{Empty, Acc, Int}
use Rattle.folds.specs.Fold.{pick}
use Rattle.model.specs.Tree.{port_of, granularity_of, last_of, allowance_of}
use Rattle.model.specs.Builders.{with_turns}
use Rattle.model.specs.Beneath.{waits_under}

unfoldable pub bits_below : ℕ → (ℕ → Bool) → ℕ
bits_below zero f = 0
bits_below (suc n) f = bits_below n f + pick (f n) (2 ^ n) 0

abbrev pub has_port : ℕ → ℕ → Bool
has_port set p = eqb (set / 2 ^ p % 2) 1

abbrev pub live_set : Tree → State → ℕ → ℕ
live_set t s j = bits_below 8 (λ p. ltb 0 (waits_under t s j p))

unfoldable pub seek : ℕ → ℕ → ℕ → ℕ
seek zero set k = 8
seek (suc n) set k = pick (has_port set (k % 8)) (k % 8) (seek n set (suc k))

abbrev pub next_port : ℕ → ℕ → ℕ
next_port set last = seek 8 set (suc (last % 8))

abbrev pub goes_on : State → ℕ → Bool
goes_on s j = ltb 0 (allowance_of s j)

unfoldable pub turn_port : Tree → State → ℕ → ℕ
turn_port t s j = pick (goes_on s j) (last_of s j) (next_port (live_set t s j) (last_of s j))

unfoldable pub turn_allowance : Tree → State → ℕ → ℕ
turn_allowance t s j =
    pick (goes_on s j) (allowance_of s j) (min (granularity_of t j) (waits_under t s j (turn_port t s j)))

abbrev pub nobody : ℕ
nobody = 255

abbrev pub reached : (ℕ → ℕ) → Port → ℕ
reached v Empty = nobody
reached v (Acc a) = a
reached v (Int j) = v j

unfoldable pub who : ℕ → Tree → State → ℕ → ℕ
who zero t s j = nobody
who (suc n) t s j = reached (who n t s) (port_of t j (turn_port t s j))

abbrev pub with_turn : State → ℕ → ℕ → ℕ → State
with_turn s j port allowance = with_turns s (set s.last j port) (set s.allowance j allowance)

abbrev pub turned : State → (ℕ → State) → Port → State
turned s v Empty = s
turned s v (Acc a) = s
turned s v (Int j) = v j

unfoldable pub after : ℕ → Tree → State → ℕ → State
after zero t s j = s
after (suc n) t s j =
    with_turn (turned s (after n t s) (port_of t j (turn_port t s j))) j (turn_port t s j) (turn_allowance t s j - 1)
