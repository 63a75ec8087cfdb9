-- When what the library answers on a burst is the same as what `second` says: each field by itself, every entry of both arrays.
--
-- split_number x         the number of a split's refusal, 0 where it is not refused; piece_count x: how many pieces there are then
-- same_split x y         the splitter's answer: that number, and the count of pieces, none where it is refused
-- same_entries a p d     the 256 entries of an array and those of the part p of the store
-- join_code x            the joiner's answer: 0 taken, 255 done, or the number of the refusal
-- same_join x y          that, and the joiner: its pieces and how many are answered
-- offer_number x         the number of an offer's refusal, 0 where it is admitted
-- same_offered x y r d   an offered burst: number, pieces admitted, and the state, on a tree with return delay r
use Rattle.std.specs.Prelude.{ℕ, Bool, ◌&&◌, List, ◌==◌, nat_eq, slice_index, Result, Ok, Err}
use Rattle.folds.specs.Fold.{all}
use Rattle.model.specs.declared.Refusal.{Refusal}
use Rattle.model.specs.Answer.{number_of}
use Rattle.burst.specs.declared.joiner.Progress.{Progress}
use Rattle.burst.specs.declared.joiner.Progress.TheVariants.{Taken, Done}
use Rattle.burst.specs.declared.joiner.JoinReply.{JoinReply}
use Rattle.burst.specs.declared.offers.BurstReply.{BurstReply}
use Rattle.store.specs.Store.{number_at}
use Rattle.second.specs.declared.bursts.Split.{Split}
use Rattle.second.specs.declared.bursts.Joined.{Joined}
use Rattle.second.specs.declared.bursts.Offered.{Offered}
use Rattle.callcheck.specs.Same.{same_state}

abbrev pub split_number : Result ℕ Refusal → ℕ
split_number (Ok k) = 0
split_number (Err r) = number_of r

abbrev pub piece_count : Result ℕ Refusal → ℕ
piece_count (Ok k) = k
piece_count (Err r) = 0

abbrev pub same_split : Result ℕ Refusal → Split → Bool
same_split x y = split_number x == y.number && piece_count x == y.pieces

abbrev pub same_entries : List ℕ → ℕ → List ℕ → Bool
same_entries a p d = all 256 (λ i. nat_eq (slice_index a i) (number_at d p i))

abbrev pub join_code : Result Progress Refusal → ℕ
join_code (Ok Taken) = 0
join_code (Ok Done) = 255
join_code (Err r) = number_of r

abbrev pub same_join : JoinReply → Joined → Bool
same_join x y = join_code x.answer == y.code && x.joiner.pieces == y.pieces && x.joiner.answered == y.answered

abbrev pub offer_number : Result (Unit {0}) Refusal → ℕ
offer_number (Ok _) = 0
offer_number (Err r) = number_of r

abbrev pub same_offered : BurstReply → Offered → ℕ → List ℕ → Bool
same_offered x y r d =
    (offer_number x.answer == y.number) && x.admitted == y.admitted && same_state x.state r d
