-- The joiner (document 02, item 6): "it takes the pieces' answers, numbered from 1, in order and says done at the last and only there".
--
-- Joiner                how many pieces a burst has, and how many of them are answered
-- joiner_for k          the joiner of a burst of k pieces, none of them answered
-- joiner_keeps j        the rules of a joiner: a burst has 1 to 256 pieces, and no more are answered than there are
-- Joining               what the joiner answers to the answer of a piece: taken, done, or refused by a number
-- Joined                that, with the joiner that comes back; joined x j: the answer x with the joiner j
-- in_turn j m           the answer of number m is the next one: neither "out of turn" nor "after the last"
-- onward j m            the joiner once the answer of number m is taken
-- join_of j m           the answer of number m: 11 for a joiner that breaks its rules and for one "out of turn, or after the last", which
--                       leave the joiner as it was; done for the last; else taken
use Rattle.std.specs.Prelude.{ℕ, ◌+◌, Bool, ◌&&◌, not, leb, eqb}
use Rattle.folds.specs.Fold.{pick, within}
use Rattle.burst.specs.declared.joiner.Joiner.{Joiner}

abbrev pub joiner_for : ℕ → Joiner
joiner_for k = record { pieces = k; answered = 0 }

abbrev pub joiner_keeps : Joiner → Bool
joiner_keeps j = within 1 j.pieces 256 && leb j.answered j.pieces

pub data Joining : Type 0 where
  taken : Joining
  done : Joining
  not_joined : ℕ → Joining

pub record Joined : Type 0 where
  pub answer : Joining
  pub joiner : Joiner

abbrev pub joined : Joining → Joiner → Joined
joined x j = record { answer = x; joiner = j }

abbrev pub in_turn : Joiner → ℕ → Bool
in_turn j m = eqb m (j.answered + 1) && leb m j.pieces

abbrev pub onward : Joiner → ℕ → Joiner
onward j m = record { pieces = j.pieces; answered = m }

unfoldable pub join_of : Joiner → ℕ → Joined
join_of j m =
    pick (not (joiner_keeps j && in_turn j m)) (joined (not_joined 11) j)
    (pick (eqb m j.pieces) (joined done (onward j m))
    (joined taken (onward j m)))
