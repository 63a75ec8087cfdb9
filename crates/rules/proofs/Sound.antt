-- The rules of a tree and of a state as plain facts: each test that passes is read as what it tests.
use Prim.Native.Nat.{ℕ, zero, suc, ◌+◌, ◌%◌, ◌^◌, ◌≤◌, ◌<◌}
use mathlib.Core.Bool.{Bool, true, false}
use mathlib.Core.List.{List, [], ◌∷◌}
use mathlib.Core.Path.{◌≡◌, refl, sym, ◌∙◌, ap, subst}
use native.Mathlib.Decide.{dec_lt, ℕ_discrete}
use native.Mathlib.Omega.{arith}
use lib.ListN.{get_or, length}
use lib.Dec.{eqb, lit≤}
use borrow.Author.Tests.{eqb-true, lt-ltb, le-ltb, eq-eqb, ne_eqb}
use Rattle.model.specs.declared.Tree.{Tree}
use Rattle.model.specs.declared.State.{State}
use Rattle.model.specs.declared.Bus.{Bus}
use Rattle.model.specs.declared.Channel.{Channel}
use Rattle.model.specs.declared.Port.{Port}
use Rattle.model.specs.declared.Port.TheVariants.{Empty, Acc, Int}
use Rattle.folds.specs.Fold.{pick}
use Rattle.model.specs.Tree.{beat_limit, no_interconnect, no_accelerator, interconnect_of, port_of, granularity_of, parent_of, parent_port_of, home_of, home_port_of, job_of, phi_of, limit_of, budget_of, level_of, above, delay_of, waiting_of, returns_of, outstanding_of, admitted_of, last_of, allowance_of}
use Rattle.model.specs.Beneath.{waits_under}
use Rattle.rules.specs.Rules.{bus_keeps, carries, is_acc, is_int, child_placed, used_interconnect, used_accelerator, unused_accelerator, tree_keeps, sized, record_keeps, turn_keeps, state_keeps, keeps}
use Rattle.folds.proofs.Folds.{both, joined, tests, picked, passed, clash}
use Rattle.model.proofs.Lists.{beyond}

pub record Sound (t : Tree) : Type 0 where
  pub ints_size : length t.interconnects ≡ 15
  pub accs_size : length t.accelerators ≡ 32
  pub ports_size : (j : ℕ) → length (interconnect_of t j).ports ≡ 8
  pub window : 1 ≤ t.bus.window
  pub burst : 1 ≤ t.bus.burst
  pub delay : delay_of t ≤ 15
  pub some_ints : 1 ≤ t.ints
  pub most_ints : t.ints ≤ 15
  pub some_accs : 1 ≤ t.accs
  pub most_accs : t.accs ≤ 32
  pub granularity : (j : ℕ) → j < t.ints → (1 ≤ granularity_of t j) × (granularity_of t j ≤ 16)
  pub level : (j : ℕ) → j < t.ints → level_of t j ≤ 4
  pub parent : (k : ℕ) → 0 < k → k < t.ints → parent_of t k < k
  pub parent_port : (k : ℕ) → 0 < k → k < t.ints → parent_port_of t k < 8
  pub parent_carries : (k : ℕ) → 0 < k → k < t.ints → port_of t (parent_of t k) (parent_port_of t k) ≡ Int k
  pub home : (a : ℕ) → a < t.accs → home_of t a < t.ints
  pub home_port : (a : ℕ) → a < t.accs → home_port_of t a < 8
  pub home_carries : (a : ℕ) → a < t.accs → port_of t (home_of t a) (home_port_of t a) ≡ Acc a
  pub phi : (a : ℕ) → a < t.accs → (1 ≤ phi_of t a) × (phi_of t a ≤ 16)
  pub no_phi : (a : ℕ) → t.accs ≤ a → phi_of t a ≡ 0
  pub budget : (a : ℕ) → a < t.accs → (1 ≤ budget_of t a) × (budget_of t a ≤ 1024)
  pub acc_place : (j p a : ℕ) → j < t.ints → p < 8 → port_of t j p ≡ Acc a
      → (a < t.accs) × (home_of t a ≡ j) × (home_port_of t a ≡ p)
  pub int_place : (j p k : ℕ) → j < t.ints → p < 8 → port_of t j p ≡ Int k
      → (0 < k) × (k < t.ints) × (parent_of t k ≡ j) × (parent_port_of t k ≡ p)

-- no bus takes bursts of more than 256 beats, one of AXI3 none of more than 16
pub beat_most : (b : Bus) → beat_limit b ≤ 256
beat_most b = go b.axi3 where
  go : (a : Bool) → pick a 16 256 ≤ 256
  go true = lit≤ tt
  go false = lit≤ tt

-- the outstanding limit on a channel: none where the job has no transactions there, else phi
pub limit_none : (t : Tree) (c : Channel) (a : ℕ) → job_of t c a ≡ 0 → limit_of t c a ≡ 0
limit_none t c a e = picked _ _ _ (eq-eqb _ _ e)

pub limit_phi : (t : Tree) (c : Channel) (a : ℕ) → (job_of t c a ≡ 0 → ⊥) → limit_of t c a ≡ phi_of t a
limit_phi t c a d = passed _ _ _ (ne_eqb _ _ d)

pub limit_most : (t : Tree) (c : Channel) (a : ℕ) → limit_of t c a ≤ phi_of t a
limit_most t c a = elim (ℕ_discrete (job_of t c a) 0) [
  | yes e ↦ omega (arith, limit_none t c a e)
  | no d ↦ omega (arith, limit_phi t c a d)
]

acc_carried : (a : ℕ) (x : Port) → is_acc a x ≡ true → x ≡ Acc a
acc_carried a Empty e = clash cc
acc_carried a (Acc b) e = ap Acc (sym (eqb-true a b e))
acc_carried a (Int j) e = clash cc

int_carried : (j : ℕ) (x : Port) → is_int j x ≡ true → x ≡ Int j
int_carried j Empty e = clash cc
int_carried j (Acc b) e = clash cc
int_carried j (Int k) e = ap Int (sym (eqb-true j k e))

module _ (t : Tree) (e : tree_keeps t ≡ true) where
  counts : (1 ≤ t.ints) × (t.ints ≤ 15) × (1 ≤ t.accs) × (t.accs ≤ 32) × (1 ≤ t.bus.window) × (delay_of t ≤ 15)
      × (1 ≤ t.bus.burst)
  unfolding tree_keeps bus_keeps
  counts = let h = simp tests at e in omega arith

  sizes : (length t.interconnects ≡ 15) × (length t.accelerators ≡ 32)
      × ((j : ℕ) → j < 15 → length (interconnect_of t j).ports ≡ 8)
  unfolding tree_keeps
  sizes = let h = simp tests at e in (h.0.0.0.0.0.0.0, h.0.0.0.0.0.0.1, h.0.0.0.0.0.1)

  all_ports : (j : ℕ) → length (interconnect_of t j).ports ≡ 8
  all_ports j = elim (dec_lt j 15) [
    | yes l ↦ sizes.2 j l
    | no d ↦ ap (λ x. length x.ports) (sym (beyond t.interconnects no_interconnect j 15 sizes.0 (omega arith)))
  ]

  used_int : (j : ℕ) → j < t.ints → used_interconnect t j ≡ true
  unfolding tree_keeps
  used_int j l = let h = simp tests at e in sym (picked _ _ _ (lt-ltb _ _ l)) ∙ h.0.1 j (omega (arith, counts))

  used_acc : (a : ℕ) → a < t.accs → used_accelerator t a ≡ true
  unfolding tree_keeps
  used_acc a l = let h = simp tests at e in sym (picked _ _ _ (lt-ltb _ _ l)) ∙ h.1 a (omega (arith, counts))

  unused_phi : (a : ℕ) → t.accs ≤ a → phi_of t a ≡ 0
  unfolding tree_keeps unused_accelerator
  unused_phi a l = elim (dec_lt a 32) [
    | yes b ↦
        let h = simp tests at e in
        (simp tests at (sym (passed _ _ _ (le-ltb a t.accs l)) ∙ h.1 a b)).0.0.0.0.0.1
    | no d ↦ ap (λ x. x.phi) (sym (beyond t.accelerators no_accelerator a 32 sizes.1 (omega arith)))
  ]

  child : (k : ℕ) → 0 < k → k < t.ints → child_placed t k ≡ true
  unfolding used_interconnect
  child k z l = let h = simp tests at (used_int k l) in sym (passed _ _ _ (ne_eqb k 0 (omega arith))) ∙ h.0.0.1

  carried : (j p : ℕ) → j < t.ints → p < 8 → carries t j p (port_of t j p) ≡ true
  unfolding used_interconnect
  carried j p l b = let h = simp tests at (used_int j l) in h.1 p b

  bounds_of : (a : ℕ) → a < t.accs
      → (home_of t a < t.ints) × (home_port_of t a < 8) × (1 ≤ phi_of t a) × (phi_of t a ≤ 16) × (1 ≤ budget_of t a)
      × (budget_of t a ≤ 1024)
  unfolding used_accelerator
  bounds_of a l = let h = simp tests at (used_acc a l) in omega arith

  pub sound : Sound t
  unfolding used_interconnect used_accelerator child_placed carries
  sound =
      record {
        ints_size = sizes.0;
        accs_size = sizes.1;
        ports_size = all_ports;
        window = counts.4;
        burst = counts.6;
        delay = counts.5;
        some_ints = counts.0;
        most_ints = counts.1;
        some_accs = counts.2;
        most_accs = counts.3;
        granularity = λ j l. (simp tests at (used_int j l)).0.0.0;
        level = λ j l. (simp tests at (used_int j l)).0.1;
        parent = λ k z l. (simp tests at (child k z l)).0.0;
        parent_port = λ k z l. let h = simp tests at (child k z l) in omega arith;
        parent_carries = λ k z l. int_carried k _ (simp tests at (child k z l)).1;
        home = λ a l. (bounds_of a l).0;
        home_port = λ a l. (bounds_of a l).1;
        home_carries = λ a l. acc_carried a _ (simp tests at (used_acc a l)).0.0.0.0.0.0.1;
        phi = λ a l. omega (arith, bounds_of a l);
        no_phi = unused_phi;
        budget = λ a l. omega (arith, bounds_of a l);
        acc_place = λ j p a l b q. let h = simp tests at (subst (λ x. carries t j p x ≡ true) q (carried j p l b)) in
            (h.0.0, h.0.1, h.1);
        int_place = λ j p k l b q. let h = simp tests at (subst (λ x. carries t j p x ≡ true) q (carried j p l b)) in
            (h.0.0.0, h.0.0.1, h.0.1, h.1);
      }

pub record Kept (t : Tree) (s : State) : Type 0 where
  pub waiting_size : length s.waiting ≡ 32
  pub admitted_size : length s.admitted ≡ 32
  pub last_size : length s.last ≡ 15
  pub allowance_size : length s.allowance ≡ 15
  pub returning_size : length s.returning ≡ 32
  pub outstanding : (a : ℕ) → a < t.accs → outstanding_of s a ≤ limit_of t s.channel a
  pub waiting : (a : ℕ) → a < t.accs → waiting_of s a ≤ limit_of t s.channel a
  pub admitted : (a : ℕ) → a < t.accs → admitted_of s a ≤ budget_of t a
  pub no_waiting : (a : ℕ) → t.accs ≤ a → waiting_of s a ≡ 0
  pub no_admitted : (a : ℕ) → t.accs ≤ a → admitted_of s a ≡ 0
  pub no_returns : (a : ℕ) → t.accs ≤ a → returns_of s a ≡ 0
  pub last : (j : ℕ) → j < t.ints → last_of s j < 8
  pub allowance : (j : ℕ) → j < t.ints → allowance_of s j ≤ granularity_of t j
  pub allowance_waits : (j : ℕ) → j < t.ints → allowance_of s j ≤ waits_under t s j (last_of s j)
  pub no_last : (j : ℕ) → t.ints ≤ j → last_of s j ≡ 0
  pub no_allowance : (j : ℕ) → t.ints ≤ j → allowance_of s j ≡ 0

-- each return is due 1 to r slots ahead: it was served 1 to r slots ago. Between a service and the end of its slot this does not hold
pub record OnWay (t : Tree) (s : State) : Type 0 where
  pub even : (a : ℕ) → a < t.accs → returns_of s a % 2 ≡ 0
  pub recent : (a : ℕ) → a < t.accs → returns_of s a < 2 ^ (delay_of t + 1)

-- past the end stands zero, so what holds of the unused records before the end holds of all
unused : (l : List ℕ) (m n : ℕ) → length l ≡ n → ((i : ℕ) → m ≤ i → i < n → get_or l i 0 ≡ 0) → (i : ℕ) → m ≤ i
    → get_or l i 0 ≡ 0
unused l m n e h i b = elim (dec_lt i n) [ yes c ↦ h i b c | no d ↦ sym (beyond l 0 i n e (omega arith)) ]

module _ (t : Tree) (s : State) where
  record_used : (a : ℕ) → record_keeps t s a ≡ true → a < t.accs
      → (outstanding_of s a ≤ limit_of t s.channel a) × (admitted_of s a ≤ budget_of t a) × (returns_of s a % 2 ≡ 0)
      × (returns_of s a < 2 ^ (delay_of t + 1))
  unfolding record_keeps
  record_used a e l =
      let h = simp tests at (sym (picked _ _ _ (lt-ltb _ _ l)) ∙ e) in (h.0.0, h.0.1, h.1.0, h.1.1)

  record_unused : (a : ℕ) → record_keeps t s a ≡ true → t.accs ≤ a
      → (waiting_of s a ≡ 0) × (admitted_of s a ≡ 0) × (returns_of s a ≡ 0)
  unfolding record_keeps
  record_unused a e l = let h = simp tests at (sym (passed _ _ _ (le-ltb _ _ l)) ∙ e) in (h.0.0, h.0.1, h.1)

  turn_used : (j : ℕ) → turn_keeps t s j ≡ true → j < t.ints
      → (last_of s j < 8) × (allowance_of s j ≤ granularity_of t j) × (allowance_of s j ≤ waits_under t s j (last_of s j))
  unfolding turn_keeps
  turn_used j e l = let h = simp tests at (sym (picked _ _ _ (lt-ltb _ _ l)) ∙ e) in omega arith

  turn_unused : (j : ℕ) → turn_keeps t s j ≡ true → t.ints ≤ j → (last_of s j ≡ 0) × (allowance_of s j ≡ 0)
  unfolding turn_keeps
  turn_unused j e l = simp tests at (sym (passed _ _ _ (le-ltb _ _ l)) ∙ e)

  pub kept : Sound t → state_keeps t s ≡ true → Kept t s
  unfolding state_keeps sized
  kept S e =
      let h = simp tests at e in
      let in-accs : (a : ℕ) → a < t.accs → a < 32 = λ a l. omega (arith, S.most_accs) in
      let in-ints : (j : ℕ) → j < t.ints → j < 15 = λ j l. omega (arith, S.most_ints) in
      record {
        waiting_size = h.0.0.0.0.0.0;
        admitted_size = h.0.0.0.0.0.1;
        last_size = h.0.0.0.0.1;
        allowance_size = h.0.0.0.1;
        returning_size = h.0.0.1;
        outstanding = λ a l. (record_used a (h.0.1 a (in-accs a l)) l).0;
        waiting = λ a l. omega (arith, (record_used a (h.0.1 a (in-accs a l)) l).0);
        admitted = λ a l. (record_used a (h.0.1 a (in-accs a l)) l).1;
        no_waiting = unused s.waiting t.accs 32 h.0.0.0.0.0.0 (λ a l b. (record_unused a (h.0.1 a b) l).0);
        no_admitted = unused s.admitted t.accs 32 h.0.0.0.0.0.1
            (λ a l b. (record_unused a (h.0.1 a b) l).1);
        no_returns = unused s.returning t.accs 32 h.0.0.1 (λ a l b. (record_unused a (h.0.1 a b) l).2);
        last = λ j l. (turn_used j (h.1 j (in-ints j l)) l).0;
        allowance = λ j l. (turn_used j (h.1 j (in-ints j l)) l).1;
        allowance_waits = λ j l. (turn_used j (h.1 j (in-ints j l)) l).2;
        no_last = unused s.last t.ints 15 h.0.0.0.0.1 (λ j l b. (turn_unused j (h.1 j b) l).0);
        no_allowance = unused s.allowance t.ints 15 h.0.0.0.1 (λ j l b. (turn_unused j (h.1 j b) l).1);
      }

  pub on_way : Sound t → state_keeps t s ≡ true → OnWay t s
  unfolding state_keeps
  on_way S e =
      let h = simp tests at e in
      let in-accs : (a : ℕ) → a < t.accs → a < 32 = λ a l. omega (arith, S.most_accs) in
      record {
        even = λ a l. (record_used a (h.0.1 a (in-accs a l)) l).2;
        recent = λ a l. (record_used a (h.0.1 a (in-accs a l)) l).3;
      }

  record_keeps_lem : Kept t s → OnWay t s → (a : ℕ) → record_keeps t s a ≡ true
  unfolding record_keeps
  record_keeps_lem k w a = elim (dec_lt a t.accs) [
    | yes l ↦ picked _ _ _ (lt-ltb _ _ l) ∙ simp tests
        ((k.outstanding a l, k.admitted a l), (w.even a l, w.recent a l))
    | no d ↦ passed _ _ _ (le-ltb a t.accs (omega arith)) ∙ simp tests
        ((k.no_waiting a (omega arith), k.no_admitted a (omega arith)), k.no_returns a (omega arith))
  ]

  turn_keeps_lem : Kept t s → (j : ℕ) → turn_keeps t s j ≡ true
  unfolding turn_keeps
  turn_keeps_lem k j = elim (dec_lt j t.ints) [
    | yes l ↦ picked _ _ _ (lt-ltb _ _ l) ∙ simp tests
        (omega (arith, k.last j l, k.allowance j l, k.allowance_waits j l))
    | no d ↦ passed _ _ _ (le-ltb j t.ints (omega arith)) ∙ simp tests
        (k.no_last j (omega arith), k.no_allowance j (omega arith))
  ]

  pub keeping : Kept t s → OnWay t s → state_keeps t s ≡ true
  unfolding state_keeps sized
  keeping k w = simp tests (
    (
      ((((k.waiting_size, k.admitted_size), k.last_size), k.allowance_size), k.returning_size),
      (λ a l. record_keeps_lem k w a),
    ),
    (λ j l. turn_keeps_lem k j),
  )

-- a parent is smaller than its child, so more crossings than the number has change nothing
module _ (t : Tree) (S : Sound t) where
  enough : (n m j : ℕ) → j ≤ n → j ≤ m → j < t.ints → above n t j ≡ above m t j
  unfolding above
  enough zero zero j a b l = refl
  enough zero (suc m) j a b l = sym (picked _ _ _ (eq-eqb j 0 (omega arith)))
  enough (suc n) zero j a b l = picked _ _ _ (eq-eqb j 0 (omega arith))
  enough (suc n) (suc m) j a b l = elim (ℕ_discrete j 0) [
    | yes e ↦ picked _ _ _ (eq-eqb j 0 e) ∙ sym (picked _ _ _ (eq-eqb j 0 e))
    | no d ↦ let p : parent_of t j < j = S.parent j (omega arith) l in
        ap (λ r. pick (eqb j 0) [] (record { interconnect = parent_of t j; port = parent_port_of t j } ∷ r))
        (enough n m (parent_of t j) (omega arith) (omega arith) (omega arith))
  ]

  pub above_root : above 15 t 0 ≡ []
  unfolding above
  above_root = refl

  pub above_step : (k : ℕ) → 0 < k → k < t.ints
      → above 15 t k ≡ record { interconnect = parent_of t k; port = parent_port_of t k } ∷ above 15 t (parent_of t k)
  unfolding above
  above_step k z l =
      let p : parent_of t k < k = S.parent k z l in
      passed _ _ _ (ne_eqb k 0 (omega arith)) ∙ ap
      (λ r. record { interconnect = parent_of t k; port = parent_port_of t k } ∷ r)
      (enough 14 15 (parent_of t k) (omega (arith, S.most_ints)) (omega (arith, S.most_ints)) (omega arith))

  pub level_root : level_of t 0 ≡ 1
  level_root = ap (λ l. suc (length l)) above_root

  pub level_step : (k : ℕ) → 0 < k → k < t.ints → level_of t k ≡ suc (level_of t (parent_of t k))
  level_step k z l = ap (λ r. suc (length r)) (above_step k z l)

-- configuration and state that keep their rules, read as those facts
pub sound_of : (t : Tree) (s : State) → keeps t s ≡ true → Sound t
sound_of t s e = sound t (both (tree_keeps t) (state_keeps t s) e).0

pub kept_of : (t : Tree) (s : State) → keeps t s ≡ true → Kept t s
kept_of t s e = kept t s (sound_of t s e) (both (tree_keeps t) (state_keeps t s) e).1

pub way_of : (t : Tree) (s : State) → keeps t s ≡ true → OnWay t s
way_of t s e = on_way t s (sound_of t s e) (both (tree_keeps t) (state_keeps t s) e).1

-- another state of the same tree keeps its rules
pub keeps_of : (t : Tree) (s r : State) → keeps t s ≡ true → Kept t r → OnWay t r → keeps t r ≡ true
keeps_of t s r e k w = joined (tree_keeps t) (state_keeps t r) (both (tree_keeps t) (state_keeps t s) e).0 (keeping t r k w)
