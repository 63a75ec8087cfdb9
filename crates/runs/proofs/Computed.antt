-- Computed from the definitions: the calls of a slot in which an offer is refused, and of one on either channel of a tree with a
-- block that only writes; that an offer writes no byte and a refused
-- one admits nothing; and what the lines due before a slot ask.
use Prim.Native.Nat.{ℕ}
use mathlib.Core.List.{[], ◌∷◌}
use mathlib.Core.Path.{◌≡◌, refl}
use Rattle.model.specs.declared.Tree.{Tree}
use Rattle.model.specs.declared.Channel.TheVariants.{Read, Write}
use lib.Count.{ones}
use Rattle.folds.specs.Fold.{sum, all}
use Rattle.model.specs.Tree.{above}
use Rattle.model.specs.Beneath.{inside}
use Rattle.rules.specs.Rules.{tree_keeps, state_keeps, sized, record_keeps, turn_keeps, bus_keeps, carries, root_placed, child_placed, used_interconnect, unused_interconnect, used_accelerator, unused_accelerator}
use Rattle.trace.specs.declared.Request.{Request}
use Rattle.trace.specs.TraceFile.{total_for}
use Rattle.machine.specs.Machine.{admitted, served, refused, offered}
use Rattle.machine.specs.Calls.{offer, slot}
use Rattle.guarantee.specs.Guarantee.{event}
use Rattle.guarantee.specs.Instances.{mapped}
use Rattle.runner.specs.Offers.{offer_held, offer_each}
use Rattle.runner.specs.Run.{start, held_with}
use Rattle.runner.specs.Slots.{due_before}
use Rattle.model.specs.Trees.{pair}
use Rattle.guarantee.specs.Windows.{admissions_by}
use Rattle.runs.specs.Calls.{offers_held, offers_each, slot_calls, bytes_in, asked_before}

abbrev line : ℕ → ℕ → ℕ → Request
line n a c = record { slot = n; accelerator = a; count = c }

abbrev tree : Tree
tree = pair 1 4 4 4 2

-- the budget is 2: of four transactions the third is offered and refused, the fourth is not offered
pub calls_of_slot : slot_calls tree (start tree Read (line 0 0 4 ∷ line 0 1 1 ∷ []))
    ≡ offer 0 ∷ offer 0 ∷ offer 0 ∷ offer 1 ∷ slot ∷ []
unfolding offers_held offers_each offer_held offer_each held_with offered tree_keeps state_keeps sized record_keeps turn_keeps bus_keeps carries root_placed child_placed used_interconnect unused_interconnect used_accelerator unused_accelerator inside above sum all ones
calls_of_slot = refl

-- accelerator 1 has a job on the write channel alone: on the read channel its first offer is refused, and it makes no other
pub calls_without_job : slot_calls mapped (start mapped Read (line 0 0 2 ∷ line 0 1 2 ∷ [])) ≡ offer 0 ∷ offer 0 ∷ offer 1 ∷ slot ∷ []
unfolding offers_held offers_each offer_held offer_each held_with offered tree_keeps state_keeps sized record_keeps turn_keeps bus_keeps carries root_placed child_placed used_interconnect unused_interconnect used_accelerator unused_accelerator inside above sum all ones
calls_without_job = refl

pub calls_with_job : slot_calls mapped (start mapped Write (line 0 0 2 ∷ line 0 1 2 ∷ []))
    ≡ offer 0 ∷ offer 0 ∷ offer 1 ∷ offer 1 ∷ slot ∷ []
unfolding offers_held offers_each offer_held offer_each held_with offered tree_keeps state_keeps sized record_keeps turn_keeps bus_keeps carries root_placed child_placed used_interconnect unused_interconnect used_accelerator unused_accelerator inside above sum all ones
calls_with_job = refl

pub byte_of_slot : bytes_in (event (offer 0) admitted ∷ event slot (served 0) ∷ []) ≡ 0 ∷ []
unfolding bytes_in
byte_of_slot = refl

pub admitted_only : admissions_by 0 (event (offer 0) admitted ∷ event (offer 0) (refused 9) ∷ []) ≡ 1
unfolding admissions_by
admitted_only = refl

-- the line of slot 1 is not due before it
pub asked_before_lem : asked_before 0 1 (line 0 0 3 ∷ line 1 0 2 ∷ []) ≡ 3
unfolding total_for due_before
asked_before_lem = refl
