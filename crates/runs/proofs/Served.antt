-- With return delay 0 a slot of the run in which none of a job waits, while it is not all served, is one in which its first held
-- transaction was refused by 9: nothing of it is outstanding. So such slots lie in few windows, and each other slot takes one off what is
-- left to wait for.
use Prim.Native.Nat.{ℕ, zero, suc, ◌+◌, ◌-◌, ◌*◌, ◌≤◌, ◌<◌, min}
use mathlib.Core.Bool.{Bool, true, false}
use mathlib.Core.List.{List, [], ◌∷◌, ◌++◌, append-nil}
use mathlib.Core.Path.{◌≡◌, refl, sym, ◌∙◌, ap, subst}
use native.Mathlib.Decide.{dec_lt, ℕ_discrete}
use native.Mathlib.Nat.{add-mul, mul-le-mul_right, le-div_iff_mul-le, div-lt_iff_lt-mul}
use native.Mathlib.Omega.{arith}
use lib.Dec.{eqb, ltb}
use lib.ListN.{get_or}
use borrow.Author.Tests.{eqb-true, eq-eqb, ne_eqb, lt-ltb}
use Rattle.model.specs.declared.Tree.{Tree}
use Rattle.model.specs.declared.State.{State}
use Rattle.model.specs.declared.Channel.{Channel}
use Rattle.folds.specs.Fold.{pick, sum, ceiling}
use Rattle.folds.proofs.Folds.{picked, passed, clash, sum_mono, sum_add, sum_zero, term_le}
use Rattle.model.specs.Tree.{window_of, budget_of, delay_of, job_of, limit_of, waiting_of, returns_of}
use Rattle.rules.specs.Rules.{tree_keeps, keeps}
use Rattle.rules.proofs.Sound.{sound, limit_phi}
use Rattle.trace.specs.declared.Request.{Request}
use Rattle.machine.specs.Machine.{Answer, admitted, served, idle, refused, last_slot, fresh_state, slotted}
use Rattle.machine.specs.Calls.{Call, offer, slot, state_after}
use Rattle.machine.proofs.Cases.{Refuses}
use Rattle.machine.proofs.Keeps.{zeros}
use Rattle.machine.proofs.Returns.{no_ones}
use Rattle.machine.proofs.Laws.{fresh_keeps}
use Rattle.shares.specs.Shares.{share_of}
use Rattle.shares.proofs.Shares.{share_bounds}
use Rattle.guarantee.specs.Guarantee.{Event, event, events_of, slot_counts, slots_in, admits_one}
use Rattle.guarantee.specs.Windows.{refused_in, admissions_by}
use Rattle.guarantee.proofs.AtOnce.{none_returning}
use Rattle.guarantee.proofs.Budget.{window_up}
use Rattle.guarantee.proofs.Events.{events_append, slots_append}
use Rattle.guarantee.proofs.Leads.{Does, declines, Leads, stay, go, calls_lead, leads_start, leads_end, leads_channel, parts}
use Rattle.runner.specs.Run.{Run, with_due, before_slot, next, start}
use Rattle.runner.specs.Slots.{standing}
use Rattle.runner.proofs.Laws.{stood}
use Rattle.runs.specs.Calls.{offers_each, calls_before, asked_before}
use Rattle.runs.specs.Waits.{serves_one, services_of}
use Rattle.runs.specs.Windows.{NoneHeld}
use Rattle.runs.proofs.Events.{admissions_append}
use Rattle.runs.proofs.Offers.{Refusal, refusal_first, refusal_then, makes_each}
use Rattle.runs.proofs.Tickets.{services_append, balance}
use Rattle.runs.proofs.Theorem.{called}
use Rattle.runs.proofs.Job.{busy, left, left_same, left_step, left_leads, left_some, left_start}
use Rattle.runs.proofs.Windows.{at, events, slot_events, part_from, events_part, part_slots, none_left, offers_refusal, few_run, there}

-- sums in either order
exchange : (k m : ℕ) (f : ℕ → ℕ → ℕ) → sum k (λ q. sum m (λ w. f q w)) ≡ sum m (λ w. sum k (λ q. f q w))
unfolding sum
exchange zero m f = sym (sum_zero m (λ _. 0) (λ _ _. refl))
exchange (suc k) m f = omega (arith, exchange k m f, sum_add m (λ w. sum k (λ q. f q w)) (λ w. f k w))

-- of slots in a row at most P are in a window
module _ (t : Tree) (P : 1 ≤ t.bus.window) (w i : ℕ) where
  inside : ℕ → ℕ → ℕ
  inside q p = pick (eqb (window_of t (i + p)) w) q 0

  so_far : (q : ℕ) → sum q (inside 1) ≤ min (i + q) (suc w * t.bus.window) - w * t.bus.window
  unfolding sum inside
  so_far zero = omega arith
  so_far (suc q) = elim (ℕ_discrete (window_of t (i + q)) w) [
    | yes e ↦
        let low : w * t.bus.window ≤ i + q = (le-div_iff_mul-le P).0 (omega arith) in
        let high : i + q < suc w * t.bus.window = (div-lt_iff_lt-mul P).0 (omega arith) in
        omega (arith, so_far q, picked {A = ℕ} (eqb (window_of t (i + q)) w) 1 0 (eq-eqb _ _ e))
    | no d ↦ omega (arith, so_far q, passed {A = ℕ} (eqb (window_of t (i + q)) w) 1 0 (ne_eqb _ _ d))
  ]

  in_window : (k : ℕ) → sum k (inside 1) ≤ t.bus.window
  in_window k = omega (arith, so_far k, add-mul 1 w t.bus.window)

-- slots that lie in windows of which the test holds
module _ (t : Tree) (P : 1 ≤ t.bus.window) (i m : ℕ) (f : ℕ → Bool) (g : ℕ → Bool) where
  -- a slot counts in its window
  own_window : (q : ℕ) → window_of t (i + q) < m → (f q ≡ true → g (window_of t (i + q)) ≡ true)
      → pick (f q) 1 0 ≤ sum m (λ w. inside t P w i (pick (g w) 1 0) q)
  unfolding inside
  own_window q l h = by_test (f q) refl
    where
      by_test : (b : Bool) → f q ≡ b → pick b 1 0 ≤ sum m (λ w. inside t P w i (pick (g w) 1 0) q)
      by_test false e = omega arith
      by_test true e =
          omega (
            arith,
            term_le m (λ w. inside t P w i (pick (g w) 1 0) q) (window_of t (i + q)) l,
            picked {A = ℕ} (eqb (window_of t (i + q)) (window_of t (i + q))) (pick (g (window_of t (i + q))) 1 0) 0
                (eq-eqb (window_of t (i + q)) (window_of t (i + q)) refl),
            picked {A = ℕ} (g (window_of t (i + q))) 1 0 (h e),
          )

  -- so many windows have at most P times as many slots
  window_slots : (w k : ℕ) → sum k (λ q. inside t P w i (pick (g w) 1 0) q) ≤ pick (g w) 1 0 * t.bus.window
  unfolding inside
  window_slots w k = by_test (g w)
    where
      by_test : (b : Bool) → sum k (λ q. inside t P w i (pick b 1 0) q) ≤ pick b 1 0 * t.bus.window
      by_test true = omega (arith, in_window t P w i k)
      by_test false = omega (arith, sum_zero k (λ q. inside t P w i 0 q) (λ q _. none (eqb (window_of t (i + q)) w)))
        where
          none : (b : Bool) → ◌≡◌ {A = ℕ} (pick b 0 0) 0
          none true = refl
          none false = refl

  times : (k : ℕ) → sum k (λ w. pick (g w) 1 0 * t.bus.window) ≡ sum k (λ w. pick (g w) 1 0) * t.bus.window
  unfolding sum
  times zero = omega arith
  times (suc k) = omega (arith, times k, add-mul (sum k (λ w. pick (g w) 1 0)) (pick (g k) 1 0) t.bus.window)

  few_slots : (k : ℕ) → ((q : ℕ) → q < k → window_of t (i + q) < m) → ((q : ℕ) → q < k → f q ≡ true → g (window_of t (i + q)) ≡ true)
      → sum k (λ q. pick (f q) 1 0) ≤ sum m (λ w. pick (g w) 1 0) * t.bus.window
  few_slots k l h = omega (
    arith,
    sum_mono k (λ q. pick (f q) 1 0) (λ q. sum m (λ w. inside t P w i (pick (g w) 1 0) q)) (λ q u. own_window q (l q u) (h q u)),
    exchange k m (λ q w. inside t P w i (pick (g w) 1 0) q),
    sum_mono m (λ w. sum k (λ q. inside t P w i (pick (g w) 1 0) q)) (λ w. pick (g w) 1 0 * t.bus.window) (λ w _. window_slots w k),
    times m,
  )

-- no more are served than there are slots
served_slots : (a : ℕ) (es : List Event) → services_of a es ≤ slots_in es
unfolding services_of slots_in
served_slots a [] = omega arith
served_slots a (e ∷ es) = omega (arith, served_slots a es, one e.call e.answer)
  where
    own : (b : Bool) → pick {A = ℕ} b 1 0 ≤ 1
    own true = omega arith
    own false = omega arith

    one : (k : Call) (x : Answer) → serves_one a x k ≤ slot_counts x k
    one (offer b) x = omega arith
    one slot admitted = omega arith
    one slot (served b) = own (eqb a b)
    one slot idle = omega arith
    one slot (refused n) = omega arith

-- the first of some events
record First (t : Tree) (s : State) (e : Event) (es : List Event) (r : State) : Type 0 where
  state : State
  does : Does t s e.call e.answer state
  after : Leads t state es r

first_of : {t : Tree} {s r : State} {e : Event} {es : List Event} → Leads t s (e ∷ es) r → First t s e es r
first_of (go {m = m} K d w) = record { state = m; does = d; after = w }

-- an offer that is refused where nothing of its accelerator is outstanding is refused by 9
module _ (t : Tree) (c : Channel) (k : tree_keeps t ≡ true) (a : ℕ) (la : a < t.accs) (job : 0 < job_of t c a) (r0 : delay_of t ≡ 0) where
  by_9 : (s : State) (x : ℕ) → keeps t s ≡ true → s.channel ≡ c → waiting_of s a ≡ 0 → Refuses t s a x → x ≡ 9
  by_9 s x K f w (Refuses.broken h) = clash (cc K)
  by_9 s x K f w (Refuses.unknown h) = absurd (omega arith)
  by_9 s x K f w (Refuses.no_job h l) = absurd (omega (arith, ap (λ d. job_of t d a) f))
  by_9 s x K f w (Refuses.outstanding h l) =
      absurd (omega (
        arith,
        no_ones (returns_of s a) (ap (λ l. get_or l a 0) (none_returning t s r0 K) ∙ zeros 32 a),
        ap (λ d. limit_of t d a) f,
        limit_phi t c a (λ e. omega arith),
        (sound t k).phi a la,
      ))
  by_9 s x K f w (Refuses.spent h l) = refl

  refused_by_9 : {s m : State} {x : ℕ} → keeps t s ≡ true → s.channel ≡ c → waiting_of s a ≡ 0 → Does t s (offer a) (refused x) m → x ≡ 9
  refused_by_9 {s} {m} {x} K f w (declines v) = by_9 s x K f w v

module _ (t : Tree) (c : Channel) (rs : List Request) (k : tree_keeps t ≡ true) (a i n : ℕ) (la : a < t.accs)
    (z : NoneHeld t c rs a i) (job : 0 < job_of t c a) (r0 : delay_of t ≡ 0) (w0 : waiting_of (at t c rs k i).state a ≡ 0)
    (due : asked_before a i rs + n ≤ asked_before a (suc i) rs) where
  abbrev run : ℕ → Run
  run q = at t c rs k (i + q)

  abbrev part : ℕ → List Event
  part q = part_from t c rs k i q

  abbrev slot_part : ℕ → List Event
  slot_part q = slot_events t c rs k (i + q)

  -- the offers of slot i + q, and the state that its service finds
  abbrev offers_part : ℕ → List Event
  offers_part q = events_of t (run q).state (offers_each t.accs t (with_due (run q)))

  abbrev finds : ℕ → State
  finds q = (before_slot t (run q)).state

  run_keeps : (q : ℕ) → i + q ≤ last_slot → keeps t (run q).state ≡ true
  run_keeps q l = (stood t c rs k (i + q) l).keeps_rules

  run_channel : (q : ℕ) → i + q ≤ last_slot → (run q).state.channel ≡ c
  run_channel q l =
      ap (λ (s : State). s.channel) (sym (called t c rs k (i + q) l).state)
      ∙ leads_channel (calls_lead t (fresh_state t c) (calls_before (i + q) t (start t c rs)) (fresh_keeps t c k))

  -- what was admitted is served or waits
  in_all : (m : ℕ) → m ≤ last_slot
      → services_of a (events t c rs k m) + waiting_of (at t c rs k m).state a ≡ admissions_by a (events t c rs k m)
  in_all m u = omega (
    arith,
    balance a (calls_lead t (fresh_state t c) (calls_before m t (start t c rs)) (fresh_keeps t c k)),
    ap (λ (s : State). waiting_of s a) (called t c rs k m u).state,
    zeros 32 a,
  )

  -- and so is what was admitted since slot i
  balanced : (q : ℕ) → i + q ≤ last_slot → waiting_of (run q).state a + services_of a (part q) ≡ admissions_by a (part q)
  balanced q l = omega (
    arith,
    in_all (i + q) l,
    in_all i (omega arith),
    w0,
    ap (services_of a) (events_part t c rs k i q l),
    services_append a (events t c rs k i) (part q),
    ap (admissions_by a) (events_part t c rs k i q l),
    admissions_append a (events t c rs k i) (part q),
  )

  -- the offers lead to that state, and the slot on from it
  offers_lead : (q : ℕ) → i + q ≤ last_slot → Leads t (run q).state (offers_part q) (finds q)
  offers_lead q l =
      subst (Leads t (run q).state (offers_part q)) (makes_each t.accs t (with_due (run q))).state
      (calls_lead t (run q).state (offers_each t.accs t (with_due (run q))) (run_keeps q l))

  slot_split : (q : ℕ) → slot_part q ≡ offers_part q ++ event slot (slotted t (finds q)).answer ∷ []
  unfolding events_of
  slot_split q =
      events_append t (run q).state (offers_each t.accs t (with_due (run q))) (slot ∷ [])
      ∙ ap (λ (s : State). offers_part q ++ event slot (slotted t s).answer ∷ []) (makes_each t.accs t (with_due (run q))).state

  slot_leads : (q : ℕ) → i + q ≤ last_slot
      → First t (finds q) (event slot (slotted t (finds q)).answer) [] (run (suc q)).state
  unfolding events_of state_after standing next
  slot_leads q l =
      subst (First t (finds q) (event slot (slotted t (finds q)).answer) [])
      (ap (λ (m : ℕ). (at t c rs k m).state) {x = suc (i + q)} {y = i + suc q} (omega arith))
      (first_of (calls_lead t (finds q) (slot ∷ []) (leads_end (offers_lead q l))))

  -- what a slot adds
  more_services : (q : ℕ)
      → services_of a (part (suc q)) ≡ services_of a (part q) + services_of a (offers_part q) + serves_one a (slotted t (finds q)).answer slot
  unfolding part_from services_of
  more_services q = omega (
    arith,
    services_append a (part q) (slot_part q),
    ap (services_of a) (slot_split q),
    services_append a (offers_part q) (event slot (slotted t (finds q)).answer ∷ []),
  )

  no_offer : (x : Answer) → admits_one a x slot ≡ 0
  no_offer admitted = refl
  no_offer (served b) = refl
  no_offer idle = refl
  no_offer (refused m) = refl

  more_admissions : (q : ℕ) → admissions_by a (part (suc q)) ≡ admissions_by a (part q) + admissions_by a (offers_part q)
  unfolding part_from admissions_by
  more_admissions q = omega (
    arith,
    admissions_append a (part q) (slot_part q),
    ap (admissions_by a) (slot_split q),
    admissions_append a (offers_part q) (event slot (slotted t (finds q)).answer ∷ []),
    no_offer (slotted t (finds q)).answer,
  )

  none_in_offers : (q : ℕ) → services_of a (offers_part q) ≡ 0
  none_in_offers q = omega (arith, served_slots a (offers_part q), (makes_each t.accs t (with_due (run q))).slots)

  -- what waits when the slot's service comes was admitted since slot i and not served before
  found : (q : ℕ) → i + q ≤ last_slot → waiting_of (finds q) a + services_of a (part q) ≡ admissions_by a (part (suc q))
  found q l = omega (arith, balanced q l, balance a (offers_lead q l), none_in_offers q, more_admissions q)

  -- none of accelerator a waits then
  abbrev free : ℕ → Bool
  free q = eqb (waiting_of (finds q) a) 0

  abbrev job_left : ℕ → ℕ
  job_left q = left t c a la n (run q).state (admissions_by a (part q)) (services_of a (part q))

  one_slot : (q : ℕ) → i + suc q ≤ last_slot → slot_counts (slotted t (finds q)).answer slot ≡ 1
  unfolding part_from slots_in
  one_slot q l = omega (
    arith,
    part_slots t c rs k i (suc q) l,
    part_slots t c rs k i q (omega arith),
    slots_append (part q) (slot_part q),
    ap slots_in (slot_split q),
    slots_append (offers_part q) (event slot (slotted t (finds q)).answer ∷ []),
    (makes_each t.accs t (with_due (run q))).slots,
  )

  -- a slot that finds some waiting takes one off
  busy_slot : (q : ℕ) → i + suc q ≤ last_slot → 1 ≤ busy t c a la n (finds q) slot (slotted t (finds q)).answer + pick (free q) 1 0
  busy_slot q l = elim (dec_lt 0 (waiting_of (finds q) a)) [
    | yes w ↦ omega (
      arith,
      one_slot q l,
      picked (ltb 0 (waiting_of (finds q) a)) (slot_counts (slotted t (finds q)).answer slot) 0 (lt-ltb _ _ w),
    )
    | no d ↦ omega (arith, picked {A = ℕ} (free q) 1 0 (eq-eqb (waiting_of (finds q) a) 0 (omega arith)))
  ]

  falls : (q : ℕ) → i + suc q ≤ last_slot → services_of a (part (suc q)) < n → job_left (suc q) + 1 ≤ job_left q + pick (free q) 1 0
  falls q l h =
      let x = admissions_by a (part q) + admissions_by a (offers_part q) in
      let y = services_of a (part q) + services_of a (offers_part q) in
      let ans = (slotted t (finds q)).answer in
      let O = offers_lead q (omega arith) in
      let F = slot_leads q (omega arith) in
      omega (
        arith,
        busy_slot q l,
        left_leads t c a la n (admissions_by a (part q)) (services_of a (part q)) O (run_channel q (omega arith)) (balanced q (omega arith))
            (omega (arith, more_services q)),
        left_step t c a la n (finds q) F.state slot ans x y (leads_end O) (leads_start F.after) (leads_channel O ∙ run_channel q (omega arith))
            F.does (omega (arith, balanced q (omega arith), balance a O)) (omega (arith, more_services q)),
        stays_there q (omega arith) (x + admits_one a ans slot) (y + serves_one a ans slot),
        left_same t c a la n (run (suc q)).state (x + admits_one a ans slot) (admissions_by a (part (suc q))) (y + serves_one a ans slot)
            (services_of a (part (suc q))) (omega (arith, more_admissions q, no_offer ans)) (omega (arith, more_services q)),
      )
    where
      -- no event follows the slot's
      end : {s r : State} → Leads t s [] r → (x y : ℕ) → left t c a la n r x y ≡ left t c a la n s x y
      end (stay K) x y = refl

      stays_there : (q : ℕ) (l : i + q ≤ last_slot) (x y : ℕ) → left t c a la n (run (suc q)).state x y ≡ left t c a la n (slot_leads q l).state x y
      stays_there q l x y = end (slot_leads q l).after x y

  -- a refusal by 9, after q slots
  record Nine (q : ℕ) (es : List Event) : Type 0 where
    refusal : Refusal a q es
    by9 : refusal.number ≡ 9

  -- in a slot that finds none of accelerator a waiting, while the last of the job is not admitted
  nine_offer : (q : ℕ) → i + suc q ≤ last_slot → admissions_by a (part (suc q)) < n → waiting_of (finds q) a ≡ 0 → Nine 0 (offers_part q)
  unfolding slots_in
  nine_offer q l h w =
      let R = offers_refusal t c rs k a i n la z q l due h in
      let O = subst (λ es. Leads t (run q).state es (finds q)) R.place (offers_lead q (omega arith)) in
      let p = parts R.front (event (offer a) (refused R.number) ∷ R.back) O in
      let none : slots_in (event (offer a) (refused R.number) ∷ R.back) ≡ 0 = omega (
        arith,
        ap slots_in R.place,
        slots_append R.front (event (offer a) (refused R.number) ∷ R.back),
        (makes_each t.accs t (with_due (run q))).slots,
      ) in
      record {
        refusal = R;
        by9 = refused_by_9 t c k a la job r0 (leads_end p.before) (leads_channel p.before ∙ run_channel q (omega arith))
            (omega (arith, balance a p.after, served_slots a (event (offer a) (refused R.number) ∷ R.back))) (first_of p.after).does;
      }

  nine_slot : (q : ℕ) → i + suc q ≤ last_slot → admissions_by a (part (suc q)) < n → waiting_of (finds q) a ≡ 0 → Nine 0 (slot_part q)
  nine_slot q l h w =
      let N = nine_offer q l h w in
      subst (Nine 0) (sym (slot_split q)) (record { refusal = refusal_first (event slot (slotted t (finds q)).answer ∷ []) N.refusal; by9 = N.by9 })

  each_free : (m : ℕ) → i + m ≤ last_slot → admissions_by a (part m) < n → (q : ℕ) → q < m → free q ≡ true → Nine q (part m)
  unfolding part_from
  each_free zero l h q u e = absurd (omega arith)
  each_free (suc m) l h q u e = elim (ℕ_discrete q m) [
    | yes d ↦
        let N = nine_slot m l h (subst (λ p. waiting_of (finds p) a ≡ 0) d (eqb-true _ _ e)) in
        record { refusal = refusal_then (part m) q (omega (arith, part_slots t c rs k i m (omega arith))) N.refusal; by9 = N.by9 }
    | no d ↦
        let N = each_free m (omega arith) (omega (arith, admissions_append a (part m) (slot_part m))) q (omega arith) e in
        record { refusal = refusal_first (slot_part m) N.refusal; by9 = N.by9 }
  ]

  -- so the slots that find none waiting are few
  abbrev free_in : ℕ → ℕ
  free_in m = sum m (λ q. pick (free q) 1 0)

  few_free : (m : ℕ) → i + m ≤ last_slot → admissions_by a (part m) < n → free_in m ≤ ceiling n (budget_of t a) * t.bus.window
  few_free m l h =
      let P = (sound t k).window in
      let e = part_slots t c rs k i m l in
      omega (
        arith,
        few_slots t P i (suc (window_of t (i + slots_in (part m)))) free (λ w. refused_in t a w i (part m)) m
            (λ q u. omega (arith, window_up t P (i + q) (i + slots_in (part m)) (omega arith)))
            (λ q u f. let N = each_free m l h q u f in there t a i q (part m) N.refusal N.by9),
        mul-le-mul_right t.bus.window
            (few_run t c rs k a i n la z (i + m) l (omega arith) (part m) []
            (events_part t c rs k i m l ∙ ap (λ (es : List Event). events t c rs k i ++ es) (sym (append-nil (part m))))
            (omega (arith, admissions_append a (events t c rs k i) (part m), none_left t c rs k a i n la z (omega arith)))),
      )

  few_until : (m : ℕ) → i + m ≤ last_slot → services_of a (part m) < n → free_in m ≤ ceiling n (budget_of t a) * t.bus.window
  unfolding sum
  few_until zero l h = omega arith
  few_until (suc m) l h = elim (ℕ_discrete (waiting_of (finds m) a) 0) [
    | yes e ↦ few_free (suc m) l (omega (arith, found m (omega arith), more_services m))
    | no d ↦ omega (
      arith,
      few_until m (omega arith) (omega (arith, more_services m)),
      passed {A = ℕ} (free m) 1 0 (ne_eqb (waiting_of (finds m) a) 0 d),
    )
  ]

  -- and the others take off what is left
  left_after : (m : ℕ) → i + m ≤ last_slot → services_of a (part m) < n → job_left m + m ≤ n * share_of t c a + free_in m
  unfolding sum part_from admissions_by services_of
  left_after zero l h =
      omega (arith, left_start t c a la n (run 0).state (run_keeps 0 l) (run_channel 0 l))
  left_after (suc m) l h = omega (arith, left_after m (omega arith) (omega (arith, more_services m)), falls m l h)

  pub served_late : (m : ℕ) → i + m ≤ last_slot → services_of a (part m) < n → m + 1 ≤ n * share_of t c a + ceiling n (budget_of t a) * t.bus.window
  served_late m l h =
      omega (
        arith,
        left_after m l h,
        few_until m l h,
        left_some t c a la n (run m).state (admissions_by a (part m)) (services_of a (part m)) (share_bounds t k c a la).0 h (omega (arith, balanced m l)),
      )

  -- what was asked before slot i is served
  before_job : i ≤ last_slot → services_of a (events t c rs k i) ≡ asked_before a i rs
  before_job l = omega (arith, in_all i l, w0, none_left t c rs k a i n la z l)

  pub all_served : (j : ℕ) → j ≤ last_slot → i + (n * share_of t c a + ceiling n (budget_of t a) * t.bus.window) ≤ j
      → asked_before a i rs + n ≤ services_of a (events t c rs k j)
  all_served j l b = elim (dec_lt (services_of a (events t c rs k j)) (asked_before a i rs + n)) [
    | no g ↦ omega arith
    | yes g ↦
        let q = j - i in
        let e : events t c rs k j ≡ events t c rs k i ++ part q =
        ap (events t c rs k) {x = j} {y = i + q} (omega arith) ∙ events_part t c rs k i q (omega arith) in
        absurd (omega (
          arith,
          served_late q (omega arith)
              (omega (arith, ap (services_of a) e, services_append a (events t c rs k i) (part q), before_job (omega arith))),
        ))
  ]
