-- Computed from the definitions: a refused offer has no place in the queue, a refused slot is no slot, and what one window
-- admits does not count in the next.
use mathlib.Core.List.{[], ◌∷◌}
use mathlib.Core.Path.{◌≡◌, refl}
use Rattle.machine.specs.Machine.{admitted, served, refused}
use Rattle.machine.specs.Calls.{offer, slot}
use Rattle.model.specs.Trees.{pair}
use Rattle.guarantee.specs.Guarantee.{event, queue_from, slots_in, admissions_from}

pub refused_offer : queue_from 0 0 [] (event (offer 0) (refused 9) ∷ []) ≡ []
unfolding queue_from
refused_offer = refl

pub refused_slot : slots_in (event slot (refused 10) ∷ []) ≡ 0
unfolding slots_in
refused_slot = refl

-- P is 4: the offer at slot 3 is in window 0, that at slot 4 in window 1
pub second_window : admissions_from (pair 1 4 4 4 2) 0 1 3 (event (offer 0) admitted ∷ event slot (served 0) ∷ event (offer 0) admitted ∷ []) ≡ 1
unfolding admissions_from
second_window = refl
