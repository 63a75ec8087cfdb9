-- In a window in which refusal 9 meets an accelerator its budget has been admitted, what was admitted there before the list included. So
-- the budget times these windows is at most that count, itself at most the budget, and what the list admits.
use Prim.Native.Nat.{ℕ, zero, suc, ◌+◌, ◌*◌, ◌≤◌, ◌<◌}
use mathlib.Core.Bool.{Bool, true, false, ◌&&◌, ◌||◌}
use mathlib.Core.List.{List, [], ◌∷◌, ◌++◌}
use mathlib.Core.Path.{◌≡◌, refl, sym, ◌∙◌, ap, ap₂, subst}
use native.Mathlib.Decide.{dec_lt, ℕ_discrete}
use native.Mathlib.Nat.{mul-add, mul-one, mul-zero, mul_comm, le-div_iff_mul-le}
use native.Mathlib.Omega.{arith}
use lib.ListN.{get_or}
use lib.Count.{ones}
use lib.Dec.{eqb}
use borrow.Author.Tests.{eqb-true, eq-eqb, ne_eqb}
use Rattle.model.specs.declared.Tree.{Tree}
use Rattle.model.specs.declared.State.{State}
use Rattle.model.specs.declared.Channel.TheVariants.{Read}
use Rattle.folds.specs.Fold.{pick, sum, all, ceiling}
use Rattle.folds.proofs.Folds.{both, picked, passed, sum_mono, sum_add, sum_zero, sum_single, clash}
use Rattle.model.specs.Tree.{above, window_of, budget_of, admitted_of}
use Rattle.model.specs.Trees.{pair}
use Rattle.model.specs.Beneath.{inside}
use Rattle.rules.specs.Rules.{tree_keeps, state_keeps, sized, record_keeps, turn_keeps, bus_keeps, carries, root_placed, child_placed, used_interconnect, unused_interconnect, used_accelerator, unused_accelerator, keeps}
use Rattle.rules.proofs.Sound.{sound_of, kept_of}
use Rattle.turns.specs.Turns.{who, after, turn_port, turn_allowance, seek, bits_below}
use Rattle.machine.specs.Machine.{Answer, admitted, served, idle, refused, fresh_state, tick}
use Rattle.machine.specs.Calls.{Call, offer, slot, state_after}
use Rattle.machine.proofs.Cases.{Refuses}
use Rattle.machine.proofs.Laws.{Ticked}
use Rattle.guarantee.specs.Guarantee.{Event, event, events_of, slot_counts, slots_in, admits_one, admissions_from}
use Rattle.guarantee.specs.Windows.{by_budget, refused_in, refused_windows, admissions_by, FewWindows, RefusedExactly, spent_then_three}
use Rattle.guarantee.proofs.Leads.{Does, admits, declines, serves, idles, halts, does_slot, Leads, stay, go, calls_lead, leads_start, leads_slot, parts}
use Rattle.guarantee.proofs.Instances.{events_within, events_within_lem}

spent_budget : {t : Tree} {s : State} {b n : ℕ} → Refuses t s b n → n ≡ 9 → budget_of t b ≤ admitted_of s b
spent_budget (Refuses.broken h) e = absurd (omega arith)
spent_budget (Refuses.unknown h) e = absurd (omega arith)
spent_budget (Refuses.no_job h l) e = absurd (omega arith)
spent_budget (Refuses.outstanding h l) e = absurd (omega arith)
spent_budget (Refuses.spent h l) e = l

module _ (t : Tree) (a w : ℕ) where
  -- what counts in window w of the state s, with n added
  abbrev Counts : State → ℕ → ℕ
  Counts s n = pick (eqb (window_of t s.slot) w) (admitted_of s a) 0 + n

  -- an event that is no refusal by 9
  plain : (c y : Bool) (b x z n : ℕ) → pick y b 0 ≤ pick c (x + z) 0 + n → pick (c && false || y) b 0 ≤ pick c x 0 + (pick c z 0 + n)
  plain true y b x z n h = omega arith
  plain false y b x z n h = omega arith

  -- an event that may be one: then at least the budget b was admitted
  by_nine : (c d y : Bool) (b x n : ℕ) → (d ≡ true → b ≤ x) → pick y b 0 ≤ pick c x 0 + n
      → pick (c && d || y) b 0 ≤ pick c x 0 + (pick c 0 0 + n)
  by_nine true true y b x n f h = omega (arith, f refl)
  by_nine true false y b x n f h = omega arith
  by_nine false d y b x n f h = omega arith

  nothing : (c : Bool) → ◌≡◌ {A = ℕ} (pick c 0 0) 0
  nothing true = refl
  nothing false = refl

  -- a slot that is not refused: the admitted count stays, or a window opens and it is 0
  ticks : (s m : State) (y : Bool) (b n : ℕ) → Ticked t s m → pick y b 0 ≤ Counts m n
      → pick y b 0 ≤ pick (eqb (window_of t s.slot) w) (admitted_of s a + 0) 0 + n
  ticks s m y b n T h = elim (ℕ_discrete (window_of t (s.slot + 1)) (window_of t s.slot)) [
    | yes e ↦ omega (
      arith,
      ap₂ (λ v x. pick (eqb v w) x 0) (ap (window_of t) T.slot ∙ e) (ap (λ l. get_or l a 0) (T.within e)),
      ap (λ x. pick (eqb (window_of t s.slot) w) x 0) {x = admitted_of s a + 0} {y = admitted_of s a} (omega arith),
    )
    | no d ↦ omega (
      arith,
      ap (λ x. pick (eqb (window_of t m.slot) w) x 0) (T.opened d a),
      nothing (eqb (window_of t m.slot) w),
    )
  ]

  step : (s m : State) (c : Call) (x : Answer) (y : Bool) (n : ℕ) → Does t s c x m → pick y (budget_of t a) 0 ≤ Counts m n
      → pick (eqb (window_of t s.slot) w && by_budget a x c || y) (budget_of t a) 0
      ≤ Counts s (pick (eqb (window_of t s.slot) w) (admits_one a x c) 0 + n)
  step s m c x y n (admits {b = b} A) h =
      plain (eqb (window_of t s.slot) w) y (budget_of t a) (admitted_of s a) (pick (eqb a b) 1 0) n
      (omega (arith, ap₂ (λ i z. pick (eqb (window_of t i) w) z 0) A.slot (A.admitted a)))
  step s m c x y n (declines {b = b} {n = k} v) h =
      by_nine (eqb (window_of t s.slot) w) (eqb k 9 && eqb a b) y (budget_of t a) (admitted_of s a) n
      (λ e.
      let g = both (eqb k 9) (eqb a b) e in
      subst (λ z. budget_of t z ≤ admitted_of s z) (sym (eqb-true a b g.1)) (spent_budget v (eqb-true k 9 g.0))) h
  step s m c x y n (serves v) h =
      plain (eqb (window_of t s.slot) w) y (budget_of t a) (admitted_of s a) 0 n (ticks s m y (budget_of t a) n v.ticked h)
  step s m c x y n (idles i) h =
      plain (eqb (window_of t s.slot) w) y (budget_of t a) (admitted_of s a) 0 n (ticks s m y (budget_of t a) n i.ticked h)
  step s m c x y n (halts e) h =
      by_nine (eqb (window_of t s.slot) w) false y (budget_of t a) (admitted_of s a) n (λ z. clash cc) h

  used : {s r : State} {es : List Event} → Leads t s es r
      → pick (refused_in t a w s.slot es) (budget_of t a) 0 ≤ Counts s (admissions_from t a w s.slot es)
  unfolding refused_in admissions_from
  used (stay K) = omega arith
  used {s} (go {m = m} {e = e} {es = es} K d u) =
      subst (λ i. pick (eqb (window_of t s.slot) w && by_budget a e.answer e.call || refused_in t a w i es) (budget_of t a) 0
      ≤ Counts s (pick (eqb (window_of t s.slot) w) (admits_one a e.answer e.call) 0 + admissions_from t a w i es)) (does_slot d)
      (step s m e.call e.answer (refused_in t a w m.slot es) (admissions_from t a w m.slot es) d (used u))

-- a number that counts in one of the windows
one_window : (m v x : ℕ) → sum m (λ w. pick (eqb v w) x 0) ≤ x
one_window m v x = elim (dec_lt v m) [
  | yes l ↦ omega (
    arith,
    sum_single m (λ w. pick (eqb v w) x 0) v l (λ k b d. passed _ _ _ (ne_eqb v k (λ e. d (sym e)))),
    picked (eqb v v) x 0 (eq-eqb v v refl),
  )
  | no d ↦ omega (arith, sum_zero m (λ w. pick (eqb v w) x 0) (λ k b. passed _ _ _ (ne_eqb v k (omega arith))))
]

each_window : (t : Tree) (a m n : ℕ) (es : List Event) → sum m (λ w. admissions_from t a w n es) ≤ admissions_by a es
unfolding admissions_from admissions_by
each_window t a m n [] = omega (arith, sum_zero m (λ _. 0) (λ _ _. refl))
each_window t a m n (e ∷ es) =
    let i = n + slot_counts e.answer e.call in
    omega (
      arith,
      sum_add m (λ w. pick (eqb (window_of t n) w) (admits_one a e.answer e.call) 0) (λ w. admissions_from t a w i es),
      one_window m (window_of t n) (admits_one a e.answer e.call),
      each_window t a m i es,
    )

counted : (b m : ℕ) (c : ℕ → Bool) → sum m (λ w. pick (c w) b 0) ≡ b * sum m (λ w. pick (c w) 1 0)
unfolding sum
counted b zero c = sym (mul-zero b)
counted b (suc m) c = omega (arith, counted b m c, mul-add b (sum m (λ w. pick (c w) 1 0)) (pick (c m) 1 0), one (c m))
  where
    one : (d : Bool) → pick d b 0 ≡ b * pick d 1 0
    one true = sym (mul-one b)
    one false = sym (mul-zero b)

few_lead : {t : Tree} {s r : State} {es : List Event} (a n : ℕ) → a < t.accs → Leads t s es r → admissions_by a es < n
    → refused_windows t a s.slot es ≤ ceiling n (budget_of t a)
few_lead {t} {s} {r} {es} a n la W h =
    let K = leads_start W in
    let b = budget_of t a in
    let m = suc (window_of t (s.slot + slots_in es)) in
    let before : ℕ → ℕ = λ w. pick (eqb (window_of t s.slot) w) (admitted_of s a) 0 in
    (le-div_iff_mul-le ((sound_of t s K).budget a la).0).1 (omega (
      arith,
      counted b m (λ w. refused_in t a w s.slot es),
      mul_comm b (refused_windows t a s.slot es),
      sum_mono m (λ w. pick (refused_in t a w s.slot es) b 0) (λ w. before w + admissions_from t a w s.slot es) (λ w _. used t a w W),
      sum_add m before (λ w. admissions_from t a w s.slot es),
      one_window m (window_of t s.slot) (admitted_of s a),
      each_window t a m s.slot es,
      (kept_of t s K).admitted a la,
    ))

pub few_windows : (t : Tree) (s : State) (cs : List Call) → keeps t s ≡ true → FewWindows t s cs
few_windows t s cs k = record {
  few = λ front mid back a n e la h.
      let p = parts front (mid ++ back) (subst (λ es. Leads t s es (state_after t s cs)) e (calls_lead t s cs k)) in
      let q = parts mid back p.after in
      subst (λ i. refused_windows t a i mid ≤ ceiling n (budget_of t a)) (leads_slot p.before) (few_lead a n la q.before h);
}

-- the instance, computed
abbrev refuses : Event
refuses = event (offer 0) (refused 9)

abbrev takes : Event
takes = event (offer 0) admitted

abbrev serving : Event
serving = event slot (served 0)

abbrev idling : Event
idling = event slot idle

pub met_exactly : RefusedExactly (pair 1 4 4 4 2) (fresh_state (pair 1 4 4 4 2) Read) spent_then_three 0 3 2
unfolding events_of events_within refused_in admissions_by slots_in tick who after turn_port turn_allowance seek bits_below tree_keeps state_keeps sized record_keeps turn_keeps bus_keeps carries root_placed child_placed used_interconnect unused_interconnect used_accelerator unused_accelerator inside above sum all ones
met_exactly = record {
  front = takes ∷ takes ∷ serving ∷ [];
  mid = refuses ∷ serving ∷ refuses ∷ idling ∷ refuses ∷ idling ∷ takes ∷ takes
      ∷ refuses ∷ serving ∷ refuses ∷ serving ∷ refuses ∷ idling ∷ refuses ∷ idling ∷ [];
  back = takes ∷ [];
  start = refl;
  events = events_within_lem (pair 1 4 4 4 2) (fresh_state (pair 1 4 4 4 2) Read) spent_then_three _ refl refl;
  admitted_less = refl;
  windows = refl;
  granted = refl;
}
