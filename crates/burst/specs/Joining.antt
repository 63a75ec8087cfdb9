-- The joiner over every list of answers (document 02, item 6: "it takes the pieces' answers, numbered from 1, in order and says done at
-- the last and only there; one out of turn, or after the last, is refused 11").
--
-- joiner_after j ms     the joiner that comes back after the numbers ms, handed in one after another: the first to j, each later one to the
--                       joiner that the one before it returned
-- answer_after j ms m   what number m, handed in after them, is answered
-- with_taken x m ms     the numbers ms, with m before them unless the answer x is a refusal
-- taken_of j ms         those of the numbers ms that are not refused, in the order in which they came
-- answered_after j ms   how many pieces are answered after the numbers ms: as many as j says, and one for each that was not refused
-- OutOfTurn j ms m      "one out of turn, or after the last": after the numbers ms the next is not m, or the last was answered
-- InOrder j             what the sentence says of the joiner j, whatever is handed in; of `joiner_for k` it is about the burst's own answers
-- RefusesAll j          the joiner j refuses every number by 11, and comes back as it was
use Rattle.std.specs.Prelude.{ℕ, ◌+◌, true, List, [], ◌∷◌, ◌++◌, ◌↔◌, ◌⊎◌, ◌≡◌, length}
use Rattle.folds.specs.Fold.{entries}
use Rattle.burst.specs.declared.joiner.Joiner.{Joiner}
use Rattle.burst.specs.Joiner.{joiner_keeps, Joining, taken, done, not_joined, join_of}

unfoldable pub joiner_after : Joiner → List ℕ → Joiner
joiner_after j [] = j
joiner_after j (m ∷ ms) = joiner_after (join_of j m).joiner ms

abbrev pub answer_after : Joiner → List ℕ → ℕ → Joining
answer_after j ms m = (join_of (joiner_after j ms) m).answer

abbrev pub with_taken : Joining → ℕ → List ℕ → List ℕ
with_taken taken m ms = m ∷ ms
with_taken done m ms = m ∷ ms
with_taken (not_joined n) m ms = ms

unfoldable pub taken_of : Joiner → List ℕ → List ℕ
taken_of j [] = []
taken_of j (m ∷ ms) = with_taken (join_of j m).answer m (taken_of (join_of j m).joiner ms)

abbrev pub answered_after : Joiner → List ℕ → ℕ
answered_after j ms = j.answered + length (taken_of j ms)

abbrev pub OutOfTurn : Joiner → List ℕ → ℕ → Type 0
OutOfTurn j ms m = (m ≡ answered_after j ms + 1 → ⊥) ⊎ (answered_after j ms ≡ j.pieces)

pub record InOrder (j : Joiner) : Type 0 where
  -- "it takes the pieces' answers, numbered from 1, in order": what is not refused are the numbers after those answered, one by one
  pub in_order : (ms : List ℕ) → taken_of j ms ≡ entries (length (taken_of j ms)) (λ i. j.answered + i + 1)
  -- "and says done at the last and only there": at the next number where it is that of the last piece
  pub done_at_last : (ms : List ℕ) (m : ℕ) → (answer_after j ms m ≡ done) ↔ ((m ≡ answered_after j ms + 1) × (m ≡ j.pieces))
  -- "one out of turn, or after the last, is refused 11", and no other is refused
  pub refused_11 : (ms : List ℕ) (m : ℕ) → (answer_after j ms m ≡ not_joined 11) ↔ OutOfTurn j ms m
  -- nor by another number
  pub only_11 : (ms : List ℕ) (m n : ℕ) → answer_after j ms m ≡ not_joined n → n ≡ 11
  -- once it has said done every number is refused, so it says that once
  pub after_done : (ms ns : List ℕ) (m n : ℕ) → answer_after j ms m ≡ done → answer_after j (ms ++ m ∷ ns) n ≡ not_joined 11
  -- a refusal changes nothing
  pub refusal_leaves : (ms : List ℕ) (m n : ℕ) → answer_after j ms m ≡ not_joined n → joiner_after j (ms ++ m ∷ []) ≡ joiner_after j ms
  -- every joiner that comes back keeps its rules
  pub every_joiner_keeps : (ms : List ℕ) → joiner_keeps (joiner_after j ms) ≡ true

abbrev pub RefusesAll : Joiner → Type 0
RefusesAll j = (ms : List ℕ) (m : ℕ) → (answer_after j ms m ≡ not_joined 11) × (joiner_after j ms ≡ j)
