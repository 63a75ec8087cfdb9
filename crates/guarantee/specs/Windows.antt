-- In how many windows an accelerator's offers are refused by 9, "budget of this window used" (document 02, item 8: "until the last is
-- admitted refusal 9 meets them in at most ceil(N / b) windows"), of every list of calls from any state that keeps its rules.
--
-- by_budget a x c           the call c is an offer of accelerator a and the answer x refusal 9
-- refused_in t a w n es     some event of es, the first of them in slot n, is such a refusal in window w
-- refused_windows t a n es  in how many windows some event of es, the first of them in slot n, is such a refusal
-- admissions_by a es        the admissions of accelerator a among the events es
-- FewWindows t s cs         in any part of the list in which fewer than n of accelerator a are admitted, refusal 9 meets its offers in at
--                           most ceil(n / b) windows
-- RefusedExactly t s cs a n w   such a part in which it meets them in exactly w windows, the very number granted
-- spent_then_three          budget 2 and P 4: accelerator 0 uses the budget of window 0; of three more the first is offered in each slot
--                           there, two are admitted in window 1, and the third is offered in each slot there and admitted in window 2
use Rattle.std.specs.Prelude.{ℕ, suc, ◌+◌, ◌≤◌, ◌<◌, Bool, true, false, ◌&&◌, ◌||◌, List, [], ◌∷◌, ◌++◌, ◌≡◌, eqb}
use Rattle.model.specs.declared.Tree.{Tree}
use Rattle.model.specs.declared.State.{State}
use Rattle.folds.specs.Fold.{pick, sum, ceiling}
use Rattle.model.specs.Tree.{window_of, budget_of}
use Rattle.rules.specs.Rules.{keeps}
use Rattle.machine.specs.Machine.{Answer, admitted, served, idle, refused}
use Rattle.machine.specs.Calls.{Call, offer, slot}
use Rattle.guarantee.specs.Guarantee.{Event, events_of, slot_counts, slots_in, admits_one}
use Rattle.guarantee.specs.Instances.{several}

abbrev pub by_budget : ℕ → Answer → Call → Bool
by_budget a (refused n) (offer b) = eqb n 9 && eqb a b
by_budget a (refused n) slot = false
by_budget a admitted c = false
by_budget a (served b) c = false
by_budget a idle c = false

unfoldable pub refused_in : Tree → ℕ → ℕ → ℕ → List Event → Bool
refused_in t a w n [] = false
refused_in t a w n (e ∷ es) =
    eqb (window_of t n) w && by_budget a e.answer e.call
    || refused_in t a w (n + slot_counts e.answer e.call) es

abbrev pub refused_windows : Tree → ℕ → ℕ → List Event → ℕ
refused_windows t a n es = sum (suc (window_of t (n + slots_in es))) (λ w. pick (refused_in t a w n es) 1 0)

unfoldable pub admissions_by : ℕ → List Event → ℕ
admissions_by a [] = 0
admissions_by a (e ∷ es) = admits_one a e.answer e.call + admissions_by a es

pub record FewWindows (t : Tree) (s : State) (cs : List Call) : Type 0 where
  pub few : (front mid back : List Event) (a n : ℕ) → events_of t s cs ≡ front ++ (mid ++ back) → a < t.accs
      → admissions_by a mid < n → refused_windows t a (s.slot + slots_in front) mid ≤ ceiling n (budget_of t a)

pub record RefusedExactly (t : Tree) (s : State) (cs : List Call) (a n w : ℕ) : Type 0 where
  pub front : List Event
  pub mid : List Event
  pub back : List Event
  pub start : keeps t s ≡ true
  pub events : events_of t s cs ≡ front ++ (mid ++ back)
  pub admitted_less : suc (admissions_by a mid) ≡ n
  pub windows : refused_windows t a (s.slot + slots_in front) mid ≡ w
  pub granted : w ≡ ceiling n (budget_of t a)

abbrev pub spent_then_three : List Call
spent_then_three =
    several 2 (offer 0 ∷ []) ++ slot ∷ several 3 (offer 0 ∷ slot ∷ [])
    ++ several 2 (offer 0 ∷ []) ++ several 4 (offer 0 ∷ slot ∷ []) ++ offer 0 ∷ []
