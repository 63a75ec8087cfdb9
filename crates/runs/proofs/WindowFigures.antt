-- The instances, computed from the definitions.
use mathlib.Core.List.{[], ◌∷◌}
use mathlib.Core.Path.{refl}
use lib.Count.{ones}
use lib.Dec.{lit<}
use Rattle.folds.specs.Fold.{sum, all}
use Rattle.model.specs.Tree.{above}
use Rattle.model.specs.Beneath.{inside}
use Rattle.rules.specs.Rules.{tree_keeps, state_keeps, sized, record_keeps, turn_keeps, bus_keeps, carries, root_placed, child_placed, used_interconnect, unused_interconnect, used_accelerator, unused_accelerator}
use Rattle.trace.specs.TraceFile.{total_for}
use Rattle.turns.specs.Turns.{who, after, turn_port, turn_allowance, seek, bits_below}
use Rattle.machine.specs.Machine.{admitted, served, idle, refused, offered, slotted, tick}
use Rattle.machine.specs.Calls.{offer, slot}
use Rattle.guarantee.specs.Guarantee.{Event, event, events_of, slots_in}
use Rattle.guarantee.specs.Windows.{refused_in, admissions_by}
use Rattle.runner.specs.Offers.{offer_held, offer_each}
use Rattle.runner.specs.Run.{held_with, left_after, next}
use Rattle.runner.specs.Slots.{standing, due_before}
use Rattle.runs.specs.Calls.{offers_held, offers_each, calls_before}
use Rattle.runs.specs.Windows.{Instances}

abbrev refuses : Event
refuses = event (offer 0) (refused 9)

abbrev takes : Event
takes = event (offer 0) admitted

abbrev serving : Event
serving = event slot (served 0)

abbrev idling : Event
idling = event slot idle

pub instances : Instances
unfolding events_of slots_in refused_in admissions_by calls_before offers_held offers_each standing due_before total_for offer_held offer_each held_with left_after next offered slotted tick who after turn_port turn_allowance seek bits_below tree_keeps state_keeps sized record_keeps turn_keeps bus_keeps carries root_placed child_placed used_interconnect unused_interconnect used_accelerator unused_accelerator inside above sum all ones
instances = record {
  met_exactly = record {
    mid = refuses ∷ idling ∷ takes ∷ refuses ∷ serving ∷ refuses ∷ idling ∷ [];
    job = record { due = refl; part = refl; not_admitted = lit< tt };
    none_held_lem = refl;
    windows = refl;
    first_slot = refl;
    admitted_there = refl;
  };
  clause_needed = record {
    mid = refuses ∷ idling ∷ takes ∷ refuses ∷ serving ∷ refuses ∷ idling ∷ [];
    job = record { due = refl; part = refl; not_admitted = lit< tt };
    held_before = lit< tt;
    more_windows = lit< tt;
  };
}
