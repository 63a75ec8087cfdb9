-- Each consequence is read off one field of demand 3, by the laws of queues and of lists of events alone; that a transaction
-- waits until its one service is such a law.
use Prim.Native.Nat.{ℕ, suc, ◌-◌, ◌*◌, ◌<◌}
use mathlib.Core.List.{List, [], ◌∷◌, ◌++◌, append_assoc}
use mathlib.Core.Path.{◌≡◌, refl, sym, ◌∙◌, ap, subst}
use native.Mathlib.Nat.{mul-zero}
use native.Mathlib.Omega.{arith}
use lib.ListN.{length}
use lib.Dec.{eqb}
use borrow.Author.Tests.{eq-eqb}
use Rattle.folds.specs.Fold.{pick}
use Rattle.folds.proofs.Folds.{picked}
use Rattle.model.specs.declared.Tree.{Tree}
use Rattle.model.specs.declared.State.{State}
use Rattle.model.specs.Tree.{window_of, waiting_of}
use Rattle.machine.specs.Machine.{admitted, served, idle}
use Rattle.machine.specs.Calls.{Call, offer, slot, step, state_after}
use Rattle.shares.specs.Shares.{share_of}
use Rattle.guarantee.specs.Guarantee.{Event, event, events_of, Ticket, without_first, queue_from, starting_queue, queue_after, admissions_from, admissions_in, up_to, Holds, Guarantee}
use Rattle.guarantee.specs.Consequences.{WaitsUntilServed, Consequences}
use Rattle.guarantee.proofs.Queue.{queue_append, absent_nil}
use Rattle.guarantee.proofs.Events.{events_append, admitted_append}
use Rattle.guarantee.proofs.Once.{served_once, waits_until}
use Rattle.guarantee.proofs.Theorem.{guarantee}

one_less : (q : List Ticket) → 0 < length q → suc (length (without_first q)) ≡ length q
one_less [] l = absurd (omega arith)
one_less (x ∷ q) l = refl

-- a service takes the first
served_queue : (s : State) (a : ℕ) (front : List Event)
    → queue_after s a (front ++ event slot (served a) ∷ []) ≡ without_first (queue_after s a front)
unfolding queue_from
served_queue s a front =
    queue_append a 0 (starting_queue (waiting_of s a)) front (event slot (served a) ∷ [])
    ∙ picked (eqb a a) _ _ (eq-eqb a a refl)

-- an admission in window w counts there
one_more : (t : Tree) (a w n : ℕ) → window_of t n ≡ w → admissions_from t a w n (event (offer a) admitted ∷ []) ≡ 1
unfolding admissions_from
one_more t a w n e =
    omega (
      arith,
      picked {A = ℕ} (eqb (window_of t n) w) (pick (eqb a a) 1 0) 0 (eq-eqb _ _ e),
      picked {A = ℕ} (eqb a a) 1 0 (eq-eqb a a refl),
    )

-- a list of calls that ends in an admitted offer
last_admitted : (t : Tree) (s : State) (front : List Call) (a : ℕ) → (step t (state_after t s front) (offer a)).answer ≡ admitted
    → events_of t s (front ++ offer a ∷ []) ≡ events_of t s front ++ event (offer a) admitted ∷ []
unfolding events_of
last_admitted t s front a e =
    events_append t s front (offer a ∷ []) ∙ ap (λ x. events_of t s front ++ event (offer a) x ∷ []) e

pub waits_until_served : (s : State) → WaitsUntilServed s
waits_until_served s = record {
  once = λ a front back. served_once s a front back;
  still = λ a front back. waits_until s a front back;
}

pub consequences : (t : Tree) (s : State) (cs : List Call) → Guarantee t s cs → Consequences t s cs
consequences t s cs G = record {
  later_part = λ front back e. guarantee t (state_after t s front) back (G.every_state_keeps front back e);
  same_share = λ front back e a. ap (λ c. share_of t c a) (G.same_channel_lem front back e);
  slot_not_by_11 = λ front back e. let z : ◌≡◌ {A = ℕ} 11 10 = G.slot_refused_by_10 front back 11 e in omega arith;
  takes_one = λ front back a e.
      ap (λ q. suc (length q)) (served_queue s a front) ∙ one_less (queue_after s a front) (G.first_is_there front back a e);
  never_idle = λ front mid back a la e h.
      let f = append_assoc front (event (offer a) admitted ∷ mid) (event slot idle ∷ back) in
      absent_nil _ (subst (Holds _) (G.idle_finds_none (up_to a front mid) back (e ∙ sym f) a la) h);
  undisturbed = λ front mid rest a e f h.
      let k = suc (length (queue_after s a front)) in
      omega (
        arith,
        G.few_others front (mid ++ rest) a f mid rest refl h,
        ap (λ n. k * (n - 1)) e,
        mul-zero k,
      );
  budget_spent = λ front a w la e f h x.
      omega (
        arith,
        G.within_budget a w la,
        ap (admissions_in t s a w) (ap (events_of t s) e ∙ last_admitted t s front a x),
        admitted_append t a w s.slot (events_of t s front) (event (offer a) admitted ∷ []),
        one_more t a w _ f,
      );
}
