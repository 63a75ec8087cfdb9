-- What the answers of splitter, joiner and offered burst mean, by the papers' numbers.
--
-- split_means a         the answer of `split`
-- join_means a          the answer of `join`
-- join_outcome r        answer and joiner of a reply, as the definitions have them; burst_outcome r: what came of an offered burst
use Rattle.std.specs.Prelude.{ℕ, Result, Ok, Err}
use Rattle.model.specs.declared.Refusal.{Refusal}
use Rattle.model.specs.Answer.{number_of}
use Rattle.machine.specs.Answers.{offer_means}
use Rattle.burst.specs.declared.joiner.Progress.{Progress}
use Rattle.burst.specs.declared.joiner.Progress.TheVariants.{Taken, Done}
use Rattle.burst.specs.declared.joiner.JoinReply.{JoinReply}
use Rattle.burst.specs.declared.offers.BurstReply.{BurstReply}
use Rattle.burst.specs.Burst.{Split, pieces, not_split}
use Rattle.burst.specs.Joiner.{Joining, taken, done, not_joined, Joined, joined}
use Rattle.burst.specs.Offers.{Offering, offering}

abbrev pub split_means : Result ℕ Refusal → Split
split_means (Ok k) = pieces k
split_means (Err r) = not_split (number_of r)

abbrev pub join_means : Result Progress Refusal → Joining
join_means (Ok Taken) = taken
join_means (Ok Done) = done
join_means (Err r) = not_joined (number_of r)

abbrev pub join_outcome : JoinReply → Joined
join_outcome r = joined (join_means r.answer) r.joiner

abbrev pub burst_outcome : BurstReply → Offering
burst_outcome r = offering (offer_means r.answer) r.admitted r.state
