-- Budgets. In the window of the state the admitted count has what was admitted there so far, and it is at most the budget;
-- a slot that opens a window returns it to 0, and a window once left does not come again.
use Prim.Native.Nat.{ℕ, ◌+◌, ◌≤◌, ◌<◌}
use mathlib.Core.Bool.{Bool, true, false}
use mathlib.Core.List.{List, [], ◌∷◌}
use mathlib.Core.Path.{◌≡◌, refl, ◌∙◌, ap, ap₂}
use native.Mathlib.Decide.{ℕ_discrete}
use native.Mathlib.Nat.{le-div_iff_mul-le, le_trans}
use native.Mathlib.Omega.{arith}
use lib.ListN.{get_or}
use lib.Dec.{eqb}
use borrow.Author.Tests.{eq-eqb, ne_eqb}
use Rattle.model.specs.declared.Tree.{Tree}
use Rattle.model.specs.declared.State.{State}
use Rattle.folds.specs.Fold.{pick}
use Rattle.model.specs.Tree.{window_of, budget_of, admitted_of}
use Rattle.folds.proofs.Folds.{picked, passed}
use Rattle.rules.proofs.Sound.{sound_of, kept_of}
use Rattle.machine.specs.Machine.{Answer}
use Rattle.machine.specs.Calls.{Call}
use Rattle.machine.proofs.Laws.{Ticked}
use Rattle.guarantee.specs.Guarantee.{Event, slot_counts, admits_one, admissions_from}
use Rattle.guarantee.proofs.Leads.{Does, admits, declines, serves, idles, halts, Leads, stay, go}

-- what counts in window w of the state s, with n added
abbrev Counts : Tree → ℕ → ℕ → State → ℕ → ℕ
Counts t a w s n = pick (eqb (window_of t s.slot) w) (admitted_of s a) 0 + n

-- windows do not fall
pub window_up : (t : Tree) → 1 ≤ t.bus.window → (n m : ℕ) → n ≤ m → window_of t n ≤ window_of t m
window_up t P n m h = (le-div_iff_mul-le P).1 (le_trans ((le-div_iff_mul-le P).0 (omega arith)) h)

module _ (t : Tree) (P : 1 ≤ t.bus.window) (a w : ℕ) where
  -- a window once left does not come again
  past : (n : ℕ) (es : List Event) → w < window_of t n → admissions_from t a w n es ≡ 0
  unfolding admissions_from
  past n [] h = refl
  past n (e ∷ es) h =
      let m = n + slot_counts e.answer e.call in
      omega (
        arith,
        passed (eqb (window_of t n) w) (admits_one a e.answer e.call) 0 (ne_eqb (window_of t n) w (omega arith)),
        past m es (omega (arith, window_up t P n m (omega arith))),
      )

  apart : (c : Bool) (x y n z : ℕ) → pick c (x + y) 0 + n ≤ z → pick c x 0 + (pick c y 0 + n) ≤ z
  apart true x y n z h = omega arith
  apart false x y n z h = omega arith

  added : (s m : State) (y n z : ℕ) → m.slot ≡ s.slot → admitted_of m a ≡ admitted_of s a + y → Counts t a w m n ≤ z
      → Counts t a w s (pick (eqb (window_of t s.slot) w) y 0 + n) ≤ z
  added s m y n z e f h =
      apart (eqb (window_of t s.slot) w) (admitted_of s a) y n z
      (omega (arith, ap₂ (λ i x. pick (eqb (window_of t i) w) x 0) e f))

  -- events from an equal slot on
  from : (n m : ℕ) (es : List Event) → n ≡ m → admissions_from t a w n es ≡ admissions_from t a w m es
  from n m es e = ap (λ i. admissions_from t a w i es) e

  -- a slot that is not refused stays in its window, or leaves it
  module _ (s m : State) (es : List Event) (z : ℕ) (T : Ticked t s m) (k : admitted_of s a ≤ z)
      (h : Counts t a w m (admissions_from t a w m.slot es) ≤ z) where
    stays : window_of t (s.slot + 1) ≡ window_of t s.slot → Counts t a w s (admissions_from t a w (s.slot + 1) es) ≤ z
    stays e = omega (
      arith,
      from m.slot (s.slot + 1) es T.slot,
      ap₂ (λ v x. pick (eqb v w) x 0) (ap (window_of t) T.slot ∙ e) (ap (λ l. get_or l a 0) (T.within e)),
    )

    leaves : (window_of t (s.slot + 1) ≡ window_of t s.slot → ⊥)
        → Counts t a w s (admissions_from t a w (s.slot + 1) es) ≤ z
    leaves d = elim (ℕ_discrete (window_of t s.slot) w) [
      | yes e ↦ omega (
        arith,
        picked (eqb (window_of t s.slot) w) (admitted_of s a) 0 (eq-eqb _ _ e),
        past (s.slot + 1) es (omega (arith, window_up t P s.slot (s.slot + 1) (omega arith))),
      )
      | no f ↦ omega (
        arith,
        passed (eqb (window_of t s.slot) w) (admitted_of s a) 0 (ne_eqb _ _ f),
        from m.slot (s.slot + 1) es T.slot,
      )
    ]

    ticks : Counts t a w s (pick (eqb (window_of t s.slot) w) 0 0 + admissions_from t a w (s.slot + 1) es) ≤ z
    ticks =
        apart (eqb (window_of t s.slot) w) (admitted_of s a) 0 _ z
        (omega (
          arith,
          ap (λ x. pick (eqb (window_of t s.slot) w) x 0) {x = admitted_of s a + 0} {y = admitted_of s a} (omega arith),
          elim (ℕ_discrete (window_of t (s.slot + 1)) (window_of t s.slot)) as
              (λ _. Counts t a w s (admissions_from t a w (s.slot + 1) es) ≤ z) [ yes e ↦ stays e | no d ↦ leaves d ],
        ))

  -- a call that leaves the slot count
  still : (s m : State) (es : List Event) (y z : ℕ) → m.slot ≡ s.slot → admitted_of m a ≡ admitted_of s a + y
      → Counts t a w m (admissions_from t a w m.slot es) ≤ z
      → Counts t a w s (pick (eqb (window_of t s.slot) w) y 0 + admissions_from t a w (s.slot + 0) es) ≤ z
  still s m es y z e f h =
      added s m y _ z e f (omega (arith, from (s.slot + 0) m.slot es (omega arith)))

  step : (s m : State) (c : Call) (x : Answer) (es : List Event) (z : ℕ) → Does t s c x m → admitted_of s a ≤ z
      → Counts t a w m (admissions_from t a w m.slot es) ≤ z
      → Counts t a w s (pick (eqb (window_of t s.slot) w) (admits_one a x c) 0
      + admissions_from t a w (s.slot + slot_counts x c) es) ≤ z
  step s m c x es z (admits A) k h = still s m es _ z A.slot (A.admitted a) h
  step s m c x es z (declines w) k h = still s m es 0 z refl (omega arith) h
  step s m c x es z (serves v) k h = ticks s m es z v.ticked k h
  step s m c x es z (idles i) k h = ticks s m es z i.ticked k h
  step s m c x es z (halts f) k h = still s m es 0 z refl (omega arith) h

pub within : {t : Tree} {s r : State} {es : List Event} (a w : ℕ) → a < t.accs → Leads t s es r
    → Counts t a w s (admissions_from t a w s.slot es) ≤ budget_of t a
unfolding admissions_from
within {t} {s} a w la (stay K) = start (eqb (window_of t s.slot) w)
  where
    start : (c : Bool) → pick c (admitted_of s a) 0 + 0 ≤ budget_of t a
    start true = omega (arith, (kept_of t s K).admitted a la)
    start false = omega arith
within {t} {s} a w la (go {m = m} {e = v} {es = es} K d u) =
    step t (sound_of t s K).window a w s m v.call v.answer es (budget_of t a) d ((kept_of t s K).admitted a la)
    (within a w la u)
