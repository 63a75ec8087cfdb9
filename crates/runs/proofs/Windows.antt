-- A job held by its budget. What was asked before slot i is admitted, so fewer than n of the job are admitted in what follows, and the law
-- of lists of calls says in how many windows. As long as the last is not admitted each slot leaves some of the job held, so its last offer
-- is refused; where only 9 refuses, every window up to there is one of them.
use Prim.Native.Nat.{ℕ, zero, suc, ◌+◌, ◌-◌, ◌*◌, ◌≤◌, ◌<◌, max}
use mathlib.Core.Bool.{Bool, true, false, ◌&&◌, ◌||◌}
use mathlib.Core.List.{List, [], ◌∷◌, ◌++◌, append_assoc, append-nil}
use mathlib.Core.Path.{◌≡◌, refl, sym, ◌∙◌, ap, subst}
use native.Mathlib.Decide.{dec_lt, ℕ_discrete}
use native.Mathlib.Nat.{add-mul, le-div_iff_mul-le, div-lt_iff_lt-mul}
use native.Mathlib.Omega.{arith}
use lib.Dec.{eqb}
use borrow.Author.Tests.{eq-eqb}
use Rattle.model.specs.declared.Tree.{Tree}
use Rattle.model.specs.declared.State.{State}
use Rattle.model.specs.declared.Channel.{Channel}
use Rattle.folds.specs.Fold.{pick, sum, ceiling}
use Rattle.folds.proofs.Folds.{picked, clash}
use Rattle.model.specs.Tree.{window_of, budget_of}
use Rattle.rules.specs.Rules.{tree_keeps}
use Rattle.rules.proofs.Sound.{sound}
use Rattle.trace.specs.declared.Request.{Request}
use Rattle.machine.specs.Machine.{refused, last_slot, fresh_state}
use Rattle.machine.specs.Calls.{offer, slot}
use Rattle.machine.proofs.Laws.{fresh_keeps}
use Rattle.guarantee.specs.Guarantee.{Event, event, events_of, slot_counts, slots_in}
use Rattle.guarantee.specs.Windows.{by_budget, refused_in, refused_windows, admissions_by}
use Rattle.guarantee.proofs.Events.{events_append, slots_append}
use Rattle.guarantee.proofs.Budget.{window_up}
use Rattle.guarantee.proofs.Windows.{few_windows}
use Rattle.runner.specs.Offers.{held_of}
use Rattle.runner.specs.Run.{Run, with_due, before_slot, next, start}
use Rattle.runner.specs.Slots.{standing}
use Rattle.runner.proofs.Laws.{stood, due_long}
use Rattle.runner.proofs.Asked.{asked_more}
use Rattle.runs.specs.Calls.{offers_each, slot_calls, calls_before, asked_before}
use Rattle.runs.specs.Windows.{NoneHeld, events_before, OnlyBy9}
use Rattle.runs.proofs.Events.{admissions_append}
use Rattle.runs.proofs.Offers.{Refusal, refusal_first, refusal_then, each_refused}
use Rattle.runs.proofs.Theorem.{called}

-- a refusal by 9 is one in the window of its slot
refused_there : (t : Tree) (a n : ℕ) (front back : List Event)
    → refused_in t a (window_of t (n + slots_in front)) n (front ++ event (offer a) (refused 9) ∷ back) ≡ true
unfolding refused_in slots_in
refused_there t a n [] back =
    first (eqb (window_of t n) (window_of t (n + 0))) (eqb a a) _ (eq-eqb _ _ (ap (window_of t) {x = n} {y = n + 0} (omega arith))) (eq-eqb a a refl)
  where
    first : (c d e : Bool) → c ≡ true → d ≡ true → c && (true && d) || e ≡ true
    first true true e p q = refl
    first true false e p q = clash (cc q)
    first false d e p q = clash (cc p)
refused_there t a n (x ∷ front) back =
    let k = slot_counts x.answer x.call in
    let v = window_of t (n + (k + slots_in front)) in
    later (eqb (window_of t n) v && by_budget a x.answer x.call) _
    (ap (λ w. refused_in t a w (n + k) (front ++ event (offer a) (refused 9) ∷ back)) {x = v} {y = window_of t (n + k + slots_in front)}
    (ap (window_of t) {x = n + (k + slots_in front)} {y = n + k + slots_in front} (omega arith)) ∙ refused_there t a (n + k) front back)
  where
    later : (c d : Bool) → d ≡ true → c || d ≡ true
    later true d e = refl
    later false d e = e

pub there : (t : Tree) (a n p : ℕ) (es : List Event) (R : Refusal a p es) → R.number ≡ 9 → refused_in t a (window_of t (n + p)) n es ≡ true
there t a n p es R e =
    subst (λ fs. refused_in t a (window_of t (n + p)) n fs ≡ true)
    (sym (R.place ∙ ap (λ x. R.front ++ event (offer a) (refused x) ∷ R.back) e))
    (subst (λ k. refused_in t a (window_of t (n + k)) n (R.front ++ event (offer a) (refused 9) ∷ R.back) ≡ true) R.slots
    (refused_there t a n R.front R.back))

-- a window begins no later than its slots
pub first_slot : (t : Tree) → 1 ≤ t.bus.window → (i : ℕ) → window_of t i * t.bus.window ≤ i
first_slot t P i = (le-div_iff_mul-le P).0 (omega arith)

-- as many as lie between two numbers
between : (m low high : ℕ) (c : ℕ → Bool) → high ≤ m → ((w : ℕ) → low ≤ w → w < high → c w ≡ true)
    → high ≤ low + sum m (λ w. pick (c w) 1 0)
unfolding sum
between zero low high c l h = omega arith
between (suc m) low high c l h = elim (dec_lt m high) [
  | no d ↦ omega (arith, between m low high c (omega arith) h)
  | yes e ↦ elim (dec_lt m low) as (λ _. high ≤ low + sum (suc m) (λ w. pick (c w) 1 0)) [
    | yes f ↦ omega arith
    | no f ↦ omega (
      arith,
      between m low m c (omega arith) (λ w p q. h w p (omega arith)),
      picked {A = ℕ} (c m) 1 0 (h m (omega arith) (omega arith)),
    )
  ]
]

-- of some events alone: whatever offer of accelerator a is refused is refused by 9
abbrev ByNine : ℕ → List Event → Type 0
ByNine a es = (front back : List Event) (x : ℕ) → es ≡ front ++ event (offer a) (refused x) ∷ back → x ≡ 9

module _ (t : Tree) (c : Channel) (rs : List Request) (k : tree_keeps t ≡ true) where
  abbrev pub at : ℕ → Run
  at n = standing n t (start t c rs)

  abbrev pub events : ℕ → List Event
  events n = events_before t c rs n

  -- the events of slot n
  abbrev pub slot_events : ℕ → List Event
  slot_events n = events_of t (at n).state (slot_calls t (at n))

  events_more : (n : ℕ) → n ≤ last_slot → events (suc n) ≡ events n ++ slot_events n
  unfolding calls_before
  events_more n l =
      events_append t (fresh_state t c) (calls_before n t (start t c rs)) (slot_calls t (at n))
      ∙ ap (λ (x : State). events n ++ events_of t x (slot_calls t (at n))) (called t c rs k n l).state

  -- those of the slots i to i + q - 1
  unfoldable pub part_from : ℕ → ℕ → List Event
  part_from i zero = []
  part_from i (suc q) = part_from i q ++ slot_events (i + q)

  pub events_part : (i q : ℕ) → i + q ≤ last_slot → events (i + q) ≡ events i ++ part_from i q
  unfolding part_from
  events_part i zero l = ap events {x = i + 0} {y = i} (omega arith) ∙ sym (append-nil (events i))
  events_part i (suc q) l =
      ap events {x = i + suc q} {y = suc (i + q)} (omega arith) ∙ events_more (i + q) (omega arith)
      ∙ ap (λ (es : List Event). es ++ slot_events (i + q)) (events_part i q (omega arith))
      ∙ append_assoc (events i) (part_from i q) (slot_events (i + q))

  pub part_slots : (i q : ℕ) → i + q ≤ last_slot → slots_in (part_from i q) ≡ q
  part_slots i q l =
      omega (
        arith,
        ap slots_in (events_part i q l),
        slots_append (events i) (part_from i q),
        (called t c rs k i (omega arith)).slots,
        (called t c rs k (i + q) l).slots,
      )

  -- what is asked does not fall
  asked_up : (a i q : ℕ) → asked_before a i rs ≤ asked_before a (i + q) rs
  asked_up a i zero = omega (arith, ap (λ n. asked_before a n rs) {x = i} {y = i + 0} (omega arith))
  asked_up a i (suc q) =
      omega (arith, asked_up a i q, asked_more (i + q) rs a, ap (λ n. asked_before a n rs) {x = i + suc q} {y = suc (i + q)} (omega arith))

  module _ (a i n : ℕ) (la : a < t.accs) (z : NoneHeld t c rs a i) where
    pub fits : a < 32
    fits = omega (arith, (sound t k).most_accs)

    -- what was asked before slot i is admitted
    pub none_left : i ≤ last_slot → admissions_by a (events i) ≡ asked_before a i rs
    none_left l = omega (arith, (called t c rs k i l).asked a fits, z)

    next_held : (r : Run) → held_of (next t r).held a ≡ held_of (before_slot t r).held a
    unfolding next
    next_held r = refl

    -- a slot after which the last of the job is not admitted leaves some held, so an offer is refused there
    pub offers_refusal : (q : ℕ) → i + suc q ≤ last_slot → asked_before a i rs + n ≤ asked_before a (suc i) rs
        → admissions_by a (part_from i (suc q)) < n
        → Refusal a 0 (events_of t (at (i + q)).state (offers_each t.accs t (with_due (at (i + q)))))
    unfolding standing
    offers_refusal q l f h =
        let r = at (i + q) in
        let S = stood t c rs k (i + q) (omega arith) in
        let held : 0 < held_of (before_slot t r).held a = omega (
          arith,
          ap (λ (x : ℕ). held_of (at x).held a) {x = i + suc q} {y = suc (i + q)} (omega arith),
          next_held r,
          (called t c rs k (i + suc q) l).asked a fits,
          ap (admissions_by a) (events_part i (suc q) l),
          admissions_append a (events i) (part_from i (suc q)),
          none_left (omega arith),
          asked_up a (suc i) q,
          ap (λ x. asked_before a x rs) {x = suc i + q} {y = i + suc q} (omega arith),
        ) in
        each_refused t.accs t (with_due r) a (due_long r.state.slot r.held r.left ∙ S.long) la (sound t k).most_accs held

    slot_refusal : (q : ℕ) → i + suc q ≤ last_slot → asked_before a i rs + n ≤ asked_before a (suc i) rs
        → admissions_by a (part_from i (suc q)) < n → Refusal a 0 (slot_events (i + q))
    slot_refusal q l f h =
        let r = at (i + q) in
        subst (Refusal a 0) (sym (events_append t r.state (offers_each t.accs t (with_due r)) (slot ∷ [])))
        (refusal_first _ (offers_refusal q l f h))

    -- in each slot of the part
    each_slot : (q : ℕ) → i + q ≤ last_slot → asked_before a i rs + n ≤ asked_before a (suc i) rs → admissions_by a (part_from i q) < n
        → (p : ℕ) → p < q → Refusal a p (part_from i q)
    unfolding part_from
    each_slot zero l f h p g = absurd (omega arith)
    each_slot (suc q) l f h p g = elim (ℕ_discrete p q) [
      | yes e ↦ refusal_then (part_from i q) p (omega (arith, part_slots i q (omega arith))) (slot_refusal q l f h)
      | no d ↦ refusal_first _
          (each_slot q (omega arith) f (omega (arith, admissions_append a (part_from i q) (slot_events (i + q)))) p (omega arith))
    ]

    -- where only 9 refuses them, each window up to the last of these slots is one in which it does
    each_window : (q : ℕ) → i + suc q ≤ last_slot → asked_before a i rs + n ≤ asked_before a (suc i) rs → admissions_by a (part_from i (suc q)) < n
        → ByNine a (part_from i (suc q)) → (w : ℕ) → window_of t i ≤ w → w < suc (window_of t (i + q))
        → refused_in t a w i (part_from i (suc q)) ≡ true
    each_window q l f h o w low high =
        let P = (sound t k).window in
        let b : w * t.bus.window ≤ i + q = (le-div_iff_mul-le P).0 (omega arith) in
        let p : ℕ = max i (w * t.bus.window) - i in
        let u : i < suc w * t.bus.window = (div-lt_iff_lt-mul P).0 (omega arith) in
        let R = each_slot (suc q) l f h p (omega arith) in
        let v : i + p < suc w * t.bus.window = omega (arith, add-mul 1 w t.bus.window) in
        let least : w ≤ window_of t (i + p) = (le-div_iff_mul-le P).1 (omega arith) in
        let most : window_of t (i + p) < suc w = (div-lt_iff_lt-mul P).1 v in
        let e : window_of t (i + p) ≡ w = omega arith in
        subst (λ v. refused_in t a v i (part_from i (suc q)) ≡ true) e
        (there t a i p (part_from i (suc q)) R (o R.front R.back R.number R.place))

    -- so few windows are those of few slots
    in_windows : (q : ℕ) → i + suc q ≤ last_slot → asked_before a i rs + n ≤ asked_before a (suc i) rs → admissions_by a (part_from i (suc q)) < n
        → ByNine a (part_from i (suc q)) → refused_windows t a i (part_from i (suc q)) ≤ ceiling n (budget_of t a)
        → i + suc q ≤ (window_of t i + ceiling n (budget_of t a)) * t.bus.window
    in_windows q l f h o m =
        let P = (sound t k).window in
        let many : suc (window_of t (i + q)) ≤ window_of t i + refused_windows t a i (part_from i (suc q)) =
        between _ (window_of t i) (suc (window_of t (i + q))) (λ w. refused_in t a w i (part_from i (suc q)))
        (omega (arith, window_up t P (i + q) (i + slots_in (part_from i (suc q))) (omega (arith, part_slots i (suc q) l))))
        (each_window q l f h o) in
        let less : i + q < (window_of t i + ceiling n (budget_of t a)) * t.bus.window = (div-lt_iff_lt-mul P).0 (omega arith) in
        omega arith

    -- the law of lists of calls, of the run's: what is admitted from slot i on is the job's
    pub few_run : (m : ℕ) → m ≤ last_slot → i ≤ m → (mid rest : List Event) → events m ≡ events i ++ (mid ++ rest)
        → admissions_by a (events i ++ mid) < asked_before a i rs + n → refused_windows t a i mid ≤ ceiling n (budget_of t a)
    few_run m l u mid rest e h =
        let I = called t c rs k i (omega arith) in
        subst (λ x. refused_windows t a x mid ≤ ceiling n (budget_of t a)) {x = 0 + slots_in (events i)} {y = i} (omega (arith, I.slots))
        ((few_windows t (fresh_state t c) (calls_before m t (start t c rs)) (fresh_keeps t c k)).few (events i) mid rest a n e la
        (omega (arith, admissions_append a (events i) mid, none_left (omega arith))))

    -- fewer than the job's are admitted in the slots i to j - 1: then these are few
    not_yet : (j : ℕ) → j ≤ last_slot → i < j → asked_before a i rs + n ≤ asked_before a (suc i) rs → OnlyBy9 t c rs a i j
        → admissions_by a (events j) < asked_before a i rs + n → j ≤ (window_of t i + ceiling n (budget_of t a)) * t.bus.window
    not_yet j l u f o h =
        let q = j - i - 1 in
        let part = part_from i (suc q) in
        let r : events j ≡ events i ++ part = ap events {x = j} {y = i + suc q} (omega arith) ∙ events_part i (suc q) (omega arith) in
        let y : admissions_by a part < n = omega (arith, ap (admissions_by a) r, admissions_append a (events i) part, none_left (omega arith)) in
        omega (
          arith,
          in_windows q (omega arith) f y
              (λ front back x e. o front back x (r ∙ ap (λ (es : List Event). events i ++ es) e ∙ sym (append_assoc (events i) front _)))
              (few_run j l (omega arith) part [] (r ∙ ap (λ (es : List Event). events i ++ es) (sym (append-nil part)))
              (omega (arith, ap (admissions_by a) r))),
        )

    pub by_windows : (j : ℕ) → j ≤ last_slot → i < j → asked_before a i rs + n ≤ asked_before a (suc i) rs → OnlyBy9 t c rs a i j
        → (window_of t i + ceiling n (budget_of t a)) * t.bus.window < j → asked_before a i rs + n ≤ admissions_by a (events j)
    by_windows j l u f o b = elim (dec_lt (admissions_by a (events j)) (asked_before a i rs + n)) [
      | no g ↦ omega arith
      | yes g ↦ absurd (omega (arith, not_yet j l u f o g))
    ]
