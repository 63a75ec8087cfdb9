-- What the answers of the calls mean, by document 01's numbers.
--
-- fresh_means a         the answer of `fresh`: started, or why it is refused
-- offer_means a         the answer of `offer`: admitted, or why it is refused
-- slot_means a          the answer of `slot`: idle, the accelerator that was served, or why it is refused
-- fresh_outcome r       answer and state of a reply, as the definitions have them; offer_outcome and slot_outcome alike
use Rattle.std.specs.Prelude.{ℕ, Option, Some, None, Result, Ok, Err}
use Rattle.model.specs.declared.Refusal.{Refusal}
use Rattle.model.specs.Answer.{number_of}
use Rattle.machine.specs.declared.Reply.{Reply}
use Rattle.machine.specs.Machine.{Answer, Outcome, outcome, admitted, served, idle, refused, Start, started, not_started, Beginning, beginning}

abbrev pub fresh_means : Result (Unit {0}) Refusal → Start
fresh_means (Ok _) = started
fresh_means (Err r) = not_started (number_of r)

abbrev pub offer_means : Result (Unit {0}) Refusal → Answer
offer_means (Ok _) = admitted
offer_means (Err r) = refused (number_of r)

abbrev pub slot_means : Result (Option ℕ) Refusal → Answer
slot_means (Ok None) = idle
slot_means (Ok (Some a)) = served a
slot_means (Err r) = refused (number_of r)

abbrev pub fresh_outcome : Reply (Unit {0}) → Beginning
fresh_outcome r = beginning (fresh_means r.answer) r.state

abbrev pub offer_outcome : Reply (Unit {0}) → Outcome
offer_outcome r = outcome (offer_means r.answer) r.state

abbrev pub slot_outcome : Reply (Option ℕ) → Outcome
slot_outcome r = outcome (slot_means r.answer) r.state
