-- What each field of demand 3 gives a caller. Each field here is derived from one field of `Guarantee`, and is lost if that
-- one is weakened; the numbers of in_time and few_others stand in `Tight` of Instances.antt.
--
-- WaitsUntilServed s    "from its admission up to its service": a transaction is served once, and `StillWaits` holds of it at
--                       each moment up to then
-- Consequences t s cs   of the list of calls cs from state s
use Rattle.std.specs.Prelude.{ℕ, suc, ◌+◌, ◌<◌, List, [], ◌∷◌, ◌++◌, ◌≡◌, length}
use Rattle.model.specs.declared.Tree.{Tree}
use Rattle.model.specs.declared.State.{State}
use Rattle.model.specs.Tree.{window_of, budget_of}
use Rattle.machine.specs.Machine.{admitted, served, idle, refused}
use Rattle.machine.specs.Calls.{Call, offer, slot, step, state_after}
use Rattle.shares.specs.Shares.{share_of}
use Rattle.guarantee.specs.Guarantee.{Event, event, events_of, queue_after, slots_in, others_in, admissions_in, up_to, ServedWithin, StillWaits, Guarantee}

pub record WaitsUntilServed (s : State) : Type 0 where
  pub once : (a : ℕ) (front back : List Event) (n m : ℕ) (u : ServedWithin s a front back n) (v : ServedWithin s a front back m)
      → u.mid ≡ v.mid
  pub still : (a : ℕ) (front back : List Event) (n : ℕ) (u : ServedWithin s a front back n) (xs ys : List Event)
      → u.mid ≡ xs ++ ys → StillWaits s a front xs

pub record Consequences (t : Tree) (s : State) (cs : List Call) : Type 0 where
  -- every_state_keeps: what follows any first part of the list is such a list itself, from the state handed on to it
  pub later_part : (front back : List Call) → cs ≡ front ++ back → Guarantee t (state_after t s front) back
  -- same_channel_lem: the shares of that list are those of the whole
  pub same_share : (front back : List Call) → cs ≡ front ++ back → (a : ℕ)
      → share_of t (state_after t s front).channel a ≡ share_of t s.channel a
  -- slot_refused_by_10: no slot is refused by 11
  pub slot_not_by_11 : (front back : List Event) → events_of t s cs ≡ front ++ event slot (refused 11) ∷ back → ⊥
  -- first_is_there: a slot that answers an accelerator takes one transaction from its queue
  pub takes_one : (front back : List Event) (a : ℕ) → events_of t s cs ≡ front ++ event slot (served a) ∷ back
      → suc (length (queue_after s a (front ++ event slot (served a) ∷ []))) ≡ length (queue_after s a front)
  -- idle_finds_none: no slot is idle while a transaction admitted in the list waits
  pub never_idle : (front mid back : List Event) (a : ℕ) → a < t.accs
      → events_of t s cs ≡ up_to a front (mid ++ event slot idle ∷ back) → StillWaits s a front mid → ⊥
  -- few_others: with share 1 on the list's channel no other accelerator is served while a transaction admitted in the list waits
  pub undisturbed : (front mid rest : List Event) (a : ℕ) → share_of t s.channel a ≡ 1 → events_of t s cs ≡ up_to a front (mid ++ rest)
      → StillWaits s a front mid → others_in a mid ≡ 0
  -- within_budget: once an accelerator's budget is spent in a window, an offer of it there is not admitted
  pub budget_spent : (front : List Call) (a w : ℕ) → a < t.accs → cs ≡ front ++ offer a ∷ []
      → window_of t (s.slot + slots_in (events_of t s front)) ≡ w → admissions_in t s a w (events_of t s front) ≡ budget_of t a
      → (step t (state_after t s front) (offer a)).answer ≡ admitted → ⊥
