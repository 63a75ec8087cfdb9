-- Events of a list of calls that is made of two: each count over it is the two counts together. By induction on the first.
use Prim.Native.Nat.{ℕ, ◌+◌}
use mathlib.Core.List.{List, [], ◌∷◌, ◌++◌}
use mathlib.Core.Path.{◌≡◌, refl, ap}
use native.Mathlib.Omega.{arith}
use Rattle.model.specs.declared.Tree.{Tree}
use Rattle.model.specs.declared.State.{State}
use Rattle.machine.specs.Calls.{Call, step, state_after}
use Rattle.guarantee.specs.Guarantee.{Event, event, events_of, slot_counts, slots_in, admissions_from}

pub state_append : (t : Tree) (s : State) (cs ds : List Call) → state_after t s (cs ++ ds) ≡ state_after t (state_after t s cs) ds
unfolding state_after
state_append t s [] ds = refl
state_append t s (c ∷ cs) ds = state_append t (step t s c).state cs ds

pub events_append : (t : Tree) (s : State) (cs ds : List Call)
    → events_of t s (cs ++ ds) ≡ events_of t s cs ++ events_of t (state_after t s cs) ds
unfolding state_after events_of
events_append t s [] ds = refl
events_append t s (c ∷ cs) ds =
    ap (λ (es : List Event). event c (step t s c).answer ∷ es) (events_append t (step t s c).state cs ds)

pub slots_append : (es fs : List Event) → slots_in (es ++ fs) ≡ slots_in es + slots_in fs
unfolding slots_in
slots_append [] fs = omega arith
slots_append (e ∷ es) fs = omega (arith, slots_append es fs)

pub admitted_append : (t : Tree) (a w n : ℕ) (es fs : List Event)
    → admissions_from t a w n (es ++ fs) ≡ admissions_from t a w n es + admissions_from t a w (n + slots_in es) fs
unfolding admissions_from slots_in
admitted_append t a w n [] fs =
    omega (arith, ap (λ m. admissions_from t a w m fs) {x = n} {y = n + 0} (omega arith))
admitted_append t a w n (e ∷ es) fs =
    let k = slot_counts e.answer e.call in
    omega (
      arith,
      admitted_append t a w (n + k) es fs,
      ap (λ m. admissions_from t a w m fs) {x = n + k + slots_in es} {y = n + (k + slots_in es)} (omega arith),
    )
