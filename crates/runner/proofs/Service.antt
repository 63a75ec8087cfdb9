-- A slot's service apart from its tick: where nothing waits it leaves the state, else the chosen accelerator's oldest transaction
-- is served; either way by the cases of the machine's slot. And how many slots are left of a window, and where the next one opens.
use Prim.Native.Nat.{ℕ, ◌+◌, ◌-◌, ◌/◌, ◌%◌, ◌≤◌, ◌<◌}
use mathlib.Core.Bool.{Bool, true, false, not}
use mathlib.Core.Logic.{◌⊎◌, inl, inr}
use mathlib.Core.Path.{◌≡◌, refl, sym, ◌∙◌, ap}
use native.Mathlib.Decide.{ℕ_discrete}
use native.Mathlib.Nat.{mod-lt, mod-eq_of_lt}
use native.Mathlib.Omega.{arith}
use lib.Dec.{eqb}
use borrow.Author.Tests.{eq-eqb, ne_eqb}
use Rattle.model.specs.declared.Tree.{Tree}
use Rattle.model.specs.declared.State.{State}
use Rattle.folds.specs.Fold.{pick}
use Rattle.folds.proofs.Folds.{picked, passed}
use Rattle.model.specs.Tree.{waiting_of, returns_of}
use Rattle.rules.specs.Rules.{keeps}
use Rattle.rules.proofs.Sound.{sound_of, kept_of}
use Rattle.rules.proofs.Beneath.{only, only_other}
use Rattle.turns.specs.Turns.{who, after}
use Rattle.turns.proofs.Descent.{Choice, choice}
use Rattle.machine.specs.Machine.{Answer, idle, served, outcome, none_waits, chosen, serve, tick, last_slot, slotted_within}
use Rattle.machine.proofs.Cases.{some_waits}
use Rattle.machine.proofs.Keeps.{take_waiting, take_returns}
use Rattle.machine.proofs.Steps.{idle_within, serves_within}
use Rattle.machine.proofs.Windows.{mod_last, mod_next, window_opens}
use Rattle.runner.specs.Run.{byte_of}
use Rattle.runner.specs.Arrays.{opens_on, left_on}

-- the state once a slot has served, before the slot count rises, and its byte
abbrev pub served_from : Tree → State → State
served_from t s = pick (none_waits s) s (serve t s)

abbrev pub byte_from : Tree → State → ℕ
byte_from t s = pick (none_waits s) 255 (chosen t s)

module _ (t : Tree) (s : State) (k : keeps t s ≡ true) where
  abbrev pub slot_answer : Answer
  slot_answer = pick (none_waits s) idle (served (chosen t s))

  turn : none_waits s ≡ false → Choice t s (who 4 t s 0) (after 4 t s 0)
  turn e = choice t (sound_of t s k) s (kept_of t s k) (some_waits t s k e)

  by_waiting : (P : State → ℕ → Answer → Type 0) → (none_waits s ≡ true → P s 255 idle)
      → (none_waits s ≡ false → P (serve t s) (chosen t s) (served (chosen t s))) → P (served_from t s) (byte_from t s) slot_answer
  by_waiting P f g = go (none_waits s) refl
    where
      go : (b : Bool) → none_waits s ≡ b → P (pick b s (serve t s)) (pick b 255 (chosen t s)) (pick b idle (served (chosen t s)))
      go true e = f e
      go false e = g e

  -- the admitted counts and the slot count are left to the tick
  pub served_frame : ((served_from t s).admitted ≡ s.admitted) × ((served_from t s).slot ≡ s.slot)
  served_frame = by_waiting (λ r _ _. (r.admitted ≡ s.admitted) × (r.slot ≡ s.slot)) (λ _. (refl, refl))
      (λ e. ((turn e).frame.admitted, (turn e).frame.slot))

  pub served_answer : byte_from t s ≡ byte_of slot_answer
  served_answer = by_waiting (λ _ b a. b ≡ byte_of a) (λ _. refl) (λ _. refl)

  pub served_outcome : (s.slot ≡ last_slot → ⊥) → outcome slot_answer (tick t (served_from t s)) ≡ slotted_within t s
  served_outcome d = by_waiting (λ r _ a. outcome a (tick t r) ≡ slotted_within t s) (idle_within t s d) (serves_within t s d)

  -- one of the accelerator served waits no longer, and was served 0 slots ago
  pub served_waiting : (a : ℕ) → (255 ≡ a → ⊥) → waiting_of s a ≡ waiting_of (served_from t s) a + only (byte_from t s) a
  served_waiting a d = by_waiting (λ r b _. waiting_of s a ≡ waiting_of r a + only b a) (λ _. omega (arith, only_other 255 a d))
      (λ e. take_waiting t (sound_of t s k) s (kept_of t s k) (who 4 t s 0) (after 4 t s 0) (turn e) a)

  pub served_returns : (a : ℕ) → (255 ≡ a → ⊥) → returns_of (served_from t s) a ≡ returns_of s a + only (byte_from t s) a
  served_returns a d = by_waiting (λ r b _. returns_of r a ≡ returns_of s a + only b a) (λ _. omega (arith, only_other 255 a d))
      (λ e. take_returns t (sound_of t s k) s (kept_of t s k) (who 4 t s 0) (after 4 t s 0) (turn e) a)

  pub served_known : (byte_from t s ≡ 255 → ⊥) → byte_from t s < t.accs
  served_known = by_waiting (λ _ b _. (b ≡ 255 → ⊥) → b < t.accs) (λ _ d. absurd (d refl)) (λ e _. (turn e).acc)

-- how many slots are left of the window of slot n, itself counted, in windows of w slots
abbrev pub left_in : ℕ → ℕ → ℕ
left_in w n = w - n % w

-- slot n is the last of its window, or another follows in it
last_or_more : (w n : ℕ) → 1 ≤ w → (n % w + 1 ≡ w) ⊎ (n % w + 1 < w)
last_or_more w n h = elim (ℕ_discrete (n % w + 1) w) [ yes e ↦ inl e | no d ↦ inr (omega (arith, mod-lt n h)) ]

pub left_first : (w : ℕ) → 1 ≤ w → w ≡ left_in w 0
left_first w h = let z : 0 % w ≡ 0 = mod-eq_of_lt h in omega arith

-- one slot on
pub left_next : (w n : ℕ) → 1 ≤ w → left_on w (left_in w n) ≡ left_in w (n + 1)
left_next w n h = go (last_or_more w n h)
  where
    go : (n % w + 1 ≡ w) ⊎ (n % w + 1 < w) → left_on w (left_in w n) ≡ left_in w (n + 1)
    go (inl e) = picked _ _ _ (eq-eqb (left_in w n) 1 (omega arith)) ∙ omega (arith, mod_last w n h e)
    go (inr l) = passed _ _ _ (ne_eqb (left_in w n) 1 (omega arith)) ∙ omega (arith, mod_next w n h l)

-- a window opens after its last slot
pub left_opens : (w n : ℕ) → 1 ≤ w → opens_on (left_in w n) ≡ not (eqb ((n + 1) / w) (n / w))
left_opens w n h = go (last_or_more w n h)
  where
    same : n % w + 1 < w → (n + 1) / w ≡ n / w
    same l = elim (ℕ_discrete ((n + 1) / w) (n / w)) [
      | yes q ↦ q
      | no f ↦ absurd (omega (arith, (window_opens w n h).0 f, mod_next w n h l))
    ]

    go : (n % w + 1 ≡ w) ⊎ (n % w + 1 < w) → opens_on (left_in w n) ≡ not (eqb ((n + 1) / w) (n / w))
    go (inl e) =
        eq-eqb (left_in w n) 1 (omega arith) ∙ sym (ap not (ne_eqb ((n + 1) / w) (n / w) ((window_opens w n h).1 (mod_last w n h e))))
    go (inr l) = ne_eqb (left_in w n) 1 (omega arith) ∙ sym (ap not (eq-eqb ((n + 1) / w) (n / w) (same l)))
