-- What an offer and a slot do, by cases: the tests of their definitions, in order, read as what they test.
use Prim.Native.Nat.{ℕ, ◌≤◌, ◌<◌}
use native.Mathlib.Nat.{lt_of_lt_of_le}
use mathlib.Core.Bool.{Bool, true, false, not}
use mathlib.Core.Path.{◌≡◌, refl}
use native.Mathlib.Decide.{dec_lt}
use native.Mathlib.Omega.{arith}
use lib.Dec.{leb, eqb}
use borrow.Author.Tests.{leb-true, leb-false, eqb-true, eqb-false, eq-eqb, not-true, not-false}
use Rattle.model.specs.declared.Tree.{Tree}
use Rattle.model.specs.declared.State.{State}
use Rattle.folds.specs.Fold.{pick}
use Rattle.model.specs.Tree.{job_of, limit_of, budget_of, delay_of, waiting_of, returns_of, outstanding_of, admitted_of}
use Rattle.model.specs.Beneath.{inside}
use Rattle.rules.specs.Rules.{keeps}
use Rattle.folds.proofs.Folds.{all_at, at_all, clash}
use Rattle.rules.proofs.Sound.{Kept, sound_of, kept_of, way_of}
use Rattle.rules.proofs.Beneath.{root_zero}
use Rattle.machine.specs.Machine.{Answer, admitted, served, idle, refused, Outcome, outcome, admit, on_admitted, offered, none_waits, last_slot, tick, chosen, serve, slotted}
use Rattle.machine.proofs.Returns.{power_most}

-- a choice on a test, by its two cases
cases : {A : Type 0} (P : A → Type 0) (c : Bool) (x y : A) → (c ≡ true → P x) → (c ≡ false → P y) → P (pick c x y)
cases P true x y f g = f refl
cases P false x y f g = g refl

-- why an offer is refused by its number
pub data Refuses (t : Tree) (s : State) (a : ℕ) : ℕ → Type 0 where
  broken : keeps t s ≡ false → Refuses t s a 11
  unknown : t.accs ≤ a → Refuses t s a 7
  no_job : a < t.accs → job_of t s.channel a ≡ 0 → Refuses t s a 14
  outstanding : a < t.accs → limit_of t s.channel a ≤ outstanding_of s a → Refuses t s a 8
  spent : a < t.accs → budget_of t a ≤ admitted_of s a → Refuses t s a 9

pub data Offered (t : Tree) (s : State) (a : ℕ) : Outcome → Type 0 where
  refuses : {n : ℕ} → Refuses t s a n → Offered t s a (outcome (refused n) s)
  admits : a < t.accs → outstanding_of s a < limit_of t s.channel a → admitted_of s a < budget_of t a
      → Offered t s a (outcome admitted (admit s a))

pub offer_cases : (t : Tree) (s : State) (a : ℕ) → Offered t s a (offered t s a)
unfolding offered
offer_cases t s a =
    let P = Offered t s a in
    let Q : Answer → Type 0 = λ v. P (outcome v (on_admitted v (admit s a) s)) in
    cases P (not (keeps t s)) _ _ (λ e. refuses (Refuses.broken (not-true (keeps t s) e))) (λ _.
    cases Q (leb t.accs a) _ _ (λ e. refuses (unknown (leb-true _ _ e))) (λ e.
    let la = leb-false t.accs a e in
    cases Q (eqb (job_of t s.channel a) 0) _ _ (λ j. refuses (no_job la (eqb-true _ _ j))) (λ _.
    cases Q (leb (limit_of t s.channel a) (outstanding_of s a)) _ _ (λ f. refuses (outstanding la (leb-true _ _ f))) (λ f.
    cases Q (leb (budget_of t a) (admitted_of s a)) _ _ (λ g. refuses (spent la (leb-true _ _ g))) (λ g.
    admits la (leb-false _ _ f) (leb-false _ _ g))))))

-- a set of returns is a small number
pub few_returns : (t : Tree) (s : State) → keeps t s ≡ true → (a : ℕ) → returns_of s a < 65536
few_returns t s e a = elim (dec_lt a t.accs) [
  | yes l ↦ lt_of_lt_of_le ((way_of t s e).recent a l) (power_most (delay_of t) (sound_of t s e).delay)
  | no d ↦ omega (arith, (kept_of t s e).no_returns a (omega arith))
]

-- why a slot is refused by its number
pub data Stops (t : Tree) (s : State) : ℕ → Type 0 where
  broken : keeps t s ≡ false → Stops t s 11
  stopped : s.slot ≡ last_slot → Stops t s 10

pub data Slotted (t : Tree) (s : State) : Outcome → Type 0 where
  stops : {n : ℕ} → Stops t s n → Slotted t s (outcome (refused n) s)
  idles : keeps t s ≡ true → (s.slot ≡ last_slot → ⊥) → ((a : ℕ) → waiting_of s a ≡ 0)
      → Slotted t s (outcome idle (tick t s))
  serves : keeps t s ≡ true → (s.slot ≡ last_slot → ⊥) → 0 < inside 4 t (waiting_of s) 0
      → Slotted t s (outcome (served (chosen t s)) (tick t (serve t s)))

-- nothing waits for an unused record
pub zero_all : (t : Tree) (s : State) → Kept t s → ((a : ℕ) → a < t.accs → waiting_of s a ≡ 0) → (a : ℕ)
    → waiting_of s a ≡ 0
zero_all t s k h a = elim (dec_lt a t.accs) [ yes l ↦ h a l | no d ↦ k.no_waiting a (omega arith) ]

none_waits_lem : (t : Tree) (s : State) → keeps t s ≡ true → none_waits s ≡ true → (a : ℕ) → waiting_of s a ≡ 0
none_waits_lem t s k e =
    zero_all t s (kept_of t s k) (λ a l. eqb-true _ _ (all_at 32 _ e a (omega (arith, (sound_of t s k).most_accs))))

pub some_waits : (t : Tree) (s : State) → keeps t s ≡ true → none_waits s ≡ false → 0 < inside 4 t (waiting_of s) 0
some_waits t s k e = elim (dec_lt 0 (inside 4 t (waiting_of s) 0)) [
  | yes h ↦ h
  | no d ↦
      let z = zero_all t s (kept_of t s k) ((root_zero t (sound_of t s k) (waiting_of s)).0 (omega arith)) in
      let f : none_waits s ≡ true = at_all 32 _ (λ a l. eq-eqb _ _ (z a)) in
      clash cc
]

pub slot_cases : (t : Tree) (s : State) → Slotted t s (slotted t s)
unfolding slotted
slot_cases t s =
    let P = Slotted t s in
    cases P (not (keeps t s)) _ _ (λ e. stops (Stops.broken (not-true (keeps t s) e))) (λ k'.
    let k = not-false (keeps t s) k' in
    cases P (eqb s.slot last_slot) _ _ (λ e. stops (stopped (eqb-true _ _ e))) (λ e.
    let d = eqb-false s.slot last_slot e in
    cases P (none_waits s) _ _ (λ f. idles k d (none_waits_lem t s k f)) (λ f. serves k d (some_waits t s k f))))
