-- How many of an accelerator are outstanding. What waits is as long as its queue; what returns is followed call by call: an offer leaves
-- it, and a slot makes each return one slot older and adds the service, if it was one. By the digits of a number.
use Prim.Native.Nat.{ℕ, zero, suc, ◌+◌, ◌-◌, ◌*◌, ◌/◌, ◌%◌, ◌^◌, ◌≤◌, ◌<◌}
use mathlib.Core.Bool.{Bool, true, false}
use mathlib.Core.List.{List, ◌++◌}
use mathlib.Core.Logic.{◌↔◌}
use mathlib.Core.Path.{◌≡◌, refl, sym, ◌∙◌, ap, subst}
use native.Mathlib.Decide.{dec_lt, ℕ_discrete}
use native.Mathlib.Nat.{mod-lt, one-le-pow, mod-eq_of_lt}
use native.Mathlib.Omega.{arith}
use lib.Count.{ones, ones_cat}
use lib.Dec.{eqb, leb, ltb, lit<}
use lib.Pow.{mod-pow-add, mod-mod-pow}
use borrow.Author.Tests.{lt-ltb, le-ltb, le-leb, lt-leb, eq-eqb, ne_eqb}
use Rattle.model.specs.declared.Tree.{Tree}
use Rattle.model.specs.declared.State.{State}
use Rattle.folds.specs.Fold.{pick, sum}
use Rattle.folds.proofs.Folds.{picked, passed, clash}
use Rattle.model.specs.Tree.{phi_of, job_of, limit_of, budget_of, delay_of, bit, waiting_of, returns_of, returning_of, outstanding_of, admitted_of}
use Rattle.rules.specs.Rules.{keeps}
use Rattle.rules.proofs.Sound.{limit_phi, kept_of, way_of}
use Rattle.rules.proofs.Beneath.{only}
use Rattle.machine.specs.Machine.{Answer, admitted, refused, limits_answer, offered, older}
use Rattle.machine.specs.Calls.{Call, offer, state_after, step}
use Rattle.machine.proofs.Returns.{no_ones, older_even, parts}
use Rattle.machine.proofs.Laws.{offer_verdict}
use Rattle.guarantee.specs.Guarantee.{Event, events_of, starting_queue, slot_counts, slots_in}
use Rattle.guarantee.specs.Homecoming.{serves_own, recent_in, not_home, outstanding_after, Homecoming}
use Rattle.guarantee.proofs.Leads.{Does, admits, declines, serves, idles, halts, Leads, stay, go, calls_lead}
use Rattle.guarantee.proofs.Queue.{start_length, queue_length}
use Rattle.guarantee.proofs.Theorem.{guarantee}

-- digits: one alone, and a number that has none above it
digit : (b : ℕ) → b < 2 → ones b ≡ b
unfolding ones
digit zero h = refl
digit (suc zero) h = refl
digit (suc (suc b)) h = absurd (omega arith)

power_pos : (k : ℕ) → 0 < 2 ^ k
power_pos k = one-le-pow k 2 (lit< tt)

twice : (x : ℕ) → ones (x * 2) ≡ ones x
twice x = ap ones {x = x * 2} {y = x * 2 ^ 1 + 0} (omega arith) ∙ ones_cat 1 x 0 (lit< tt) ∙ omega (arith, no_ones 0 refl)

-- the bits below m, summed, are the ones of the low m digits
count : (m x : ℕ) → sum m (λ d. bit d x) ≡ ones (x % 2 ^ m)
unfolding sum
count zero x = sym (no_ones (x % 2 ^ 0) (omega (arith, mod-lt x (power_pos 0))))
count (suc m) x =
    omega (arith, count m x, digit (bit m x) (mod-lt (x / 2 ^ m) (lit< tt)), top)
  where
    top : ones (x % 2 ^ suc m) ≡ ones (bit m x) + ones (x % 2 ^ m)
    top = ap (λ n. ones (x % 2 ^ n)) {x = suc m} {y = 1 + m} (omega arith) ∙ ap ones (mod-pow-add x 1 m)
        ∙ ones_cat m (bit m x) (x % 2 ^ m) (mod-lt x (power_pos m))

-- the low k + 1 digits: the lowest, and the others
lowest : (k y : ℕ) → ones (y % 2 ^ (k + 1)) ≡ y % 2 + ones (y / 2 % 2 ^ k)
lowest k y =
    ap ones (mod-pow-add y k 1) ∙ ones_cat 1 (y / 2 % 2 ^ k) (y % 2) (mod-lt y (lit< tt))
    ∙ omega (arith, digit (y % 2) (mod-lt y (lit< tt)))

-- one slot older: the low m digits stand one place higher
moved_up : (r m y : ℕ) → m ≤ r → ones (older r y % 2 ^ (m + 1)) ≡ ones (y % 2 ^ m)
moved_up r m y h =
    ap (λ z. ones (z % 2 ^ (m + 1))) (parts r y) ∙ ap ones (parts m (y % 2 ^ r)) ∙ twice (y % 2 ^ r % 2 ^ m)
    ∙ ap ones (ap (λ n. y % 2 ^ n % 2 ^ m) {x = r} {y = r - m + m} (omega arith) ∙ mod-mod-pow y (r - m) m)

-- a service is the lowest digit of an even number
one_served : (k x n : ℕ) → x % 2 ≡ 0 → n ≤ 1 → ones ((x + n) % 2 ^ (k + 1)) ≡ n + ones (x % 2 ^ (k + 1))
one_served k x n e h =
    lowest k (x + n)
    ∙ omega (arith, lowest k x, ap (λ z. ones (z % 2 ^ k)) {x = (x + n) / 2} {y = x / 2} (omega arith))

-- of what returns after a slot, in which n were served, those not home i slots later
later : (r i x n : ℕ) → x % 2 ≡ 0 → n ≤ 1 → not_home r i (older r (x + n)) ≡ pick (ltb i r) n 0 + not_home r (1 + i) x
later r i x n e h = elim (dec_lt i r) [
  | yes l ↦ soon l ∙ ap (λ c. pick c n 0 + not_home r (1 + i) x) (sym (lt-ltb i r l))
  | no d ↦ late (omega arith) ∙ ap (λ c. pick c n 0 + not_home r (1 + i) x) (sym (le-ltb i r (omega arith)))
]
  where
    soon : i < r → not_home r i (older r (x + n)) ≡ n + not_home r (1 + i) x
    soon l =
        let m = r - i - 1 in
        ap (λ j. sum j (λ d. bit d (older r (x + n)))) {x = r + 1 - i} {y = m + 1 + 1} (omega arith)
        ∙ count (m + 1 + 1) (older r (x + n)) ∙ moved_up r (m + 1) (x + n) (omega arith) ∙ one_served m x n e h
        ∙ ap (λ z. n + z) (sym (count (m + 1) x) ∙ ap (λ j. sum j (λ d. bit d x)) {x = m + 1} {y = r + 1 - (1 + i)} (omega arith))

    none : (j : ℕ) → j ≤ 1 → ones (older r (x + n) % 2 ^ j) ≡ 0
    none zero g = no_ones _ (omega (arith, mod-lt (older r (x + n)) (power_pos 0)))
    none (suc zero) g = no_ones _ (older_even r (x + n))
    none (suc (suc j)) g = absurd (omega arith)

    late : r ≤ i → not_home r i (older r (x + n)) ≡ 0 + not_home r (1 + i) x
    late g =
        count (r + 1 - i) (older r (x + n)) ∙ none (r + 1 - i) (omega arith)
        ∙ sym (no_ones _ (none_left (r + 1 - (1 + i)) (omega arith))) ∙ sym (count (r + 1 - (1 + i)) x) ∙ omega arith
      where
        none_left : (j : ℕ) → j ≡ 0 → x % 2 ^ j ≡ 0
        none_left zero z = omega (arith, mod-lt x (power_pos 0))
        none_left (suc j) z = absurd (omega arith)

nothing : (c : Bool) → ◌≡◌ {A = ℕ} (pick c 0 0) 0
nothing true = refl
nothing false = refl

single : (c : Bool) → pick {A = ℕ} c 1 0 ≤ 1
single true = omega arith
single false = omega arith

-- a call, with i unrefused slots after it
module _ (t : Tree) (s : State) (a i : ℕ) (e : returns_of s a % 2 ≡ 0) where
  abbrev r : ℕ
  r = delay_of t

  -- a call that moves no return
  stays : (x : ℕ) → x ≡ returns_of s a → not_home r i x ≡ pick (ltb i r) 0 0 + not_home r (0 + i) (returns_of s a)
  stays x f = ap (not_home r i) f
      ∙ omega (arith, nothing (ltb i r), ap (λ j. not_home r j (returns_of s a)) {x = i} {y = 0 + i} (omega arith))

  home_step : (m : State) (c : Call) (x : Answer) → Does t s c x m
      → not_home r i (returns_of m a) ≡ pick (ltb i r) (serves_own a x) 0 + not_home r (slot_counts x c + i) (returns_of s a)
  home_step m c x (admits A) = stays _ (A.returns a)
  home_step m c x (declines w) = stays _ refl
  home_step m c x (serves {b = b} v) = ap (not_home r i) (v.returns a) ∙ later r i (returns_of s a) (only a b) e (single (eqb a b))
  home_step m c x (idles v) =
      ap (not_home r i) (v.returns a ∙ ap (older r) {x = returns_of s a} {y = returns_of s a + 0} (omega arith))
      ∙ later r i (returns_of s a) 0 e (omega arith)
  home_step m c x (halts f) = stays _ refl

returning_after : {t : Tree} {s r : State} {es : List Event} (a : ℕ) → a < t.accs → Leads t s es r
    → returning_of r a ≡ recent_in (delay_of t) a es + not_home (delay_of t) (slots_in es) (returns_of s a)
unfolding recent_in slots_in
returning_after {t} {s} a la (stay K) =
    ap ones (sym (mod-eq_of_lt ((way_of t s K).recent a la))) ∙ sym (count (delay_of t + 1) (returns_of s a))
    ∙ ap (λ j. sum j (λ d. bit d (returns_of s a))) {x = delay_of t + 1} {y = delay_of t + 1 - 0} (omega arith) ∙ omega arith
returning_after {t} {s} a la (go {m = m} {e = v} {es = es} K d w) =
    omega (arith, returning_after a la w, home_step t s a (slots_in es) ((way_of t s K).even a la) m v.call v.answer d)

-- 8 is answered exactly if the limit is met
by_limit : (l o b n : ℕ) → (limits_answer l o b n ≡ refused 8) ↔ (l ≤ o)
by_limit l o b n = (
  λ e. elim (dec_lt o l) [
    | yes h ↦ absurd (other (leb b n) (sym (passed _ _ _ (lt-leb l o h)) ∙ e))
    | no d ↦ omega arith
  ],
  λ h. picked _ _ _ (le-leb l o h),
)
  where
    other : (c : Bool) → pick c (refused 9) admitted ≡ refused 8 → ⊥
    other true e = let z : ◌≡◌ {A = ℕ} 9 8 = cc in omega arith
    other false e = clash cc

-- 14 is none of the limits' answers
pub not_by_limits : (l o b n : ℕ) → limits_answer l o b n ≡ refused 14 → ⊥
not_by_limits l o b n = go (leb l o) (leb b n)
  where
    go : (c d : Bool) → pick c (refused 8) (pick d (refused 9) admitted) ≡ refused 14 → ⊥
    go true d e = let z : ◌≡◌ {A = ℕ} 8 14 = cc in omega arith
    go false true e = let z : ◌≡◌ {A = ℕ} 9 14 = cc in omega arith
    go false false e = clash cc

module _ (t : Tree) (s : State) (a : ℕ) (k : keeps t s ≡ true) (la : a < t.accs) where
  -- what an offer of an accelerator of the tree answers, with and without a job on the channel
  without_job : job_of t s.channel a ≡ 0 → (offered t s a).answer ≡ refused 14
  without_job j = offer_verdict t s a k ∙ passed _ _ _ (lt-leb t.accs a la) ∙ picked _ _ _ (eq-eqb _ _ j)

  with_job_lem : (job_of t s.channel a ≡ 0 → ⊥)
      → (offered t s a).answer ≡ limits_answer (phi_of t a) (outstanding_of s a) (budget_of t a) (admitted_of s a)
  with_job_lem d =
      offer_verdict t s a k ∙ passed _ _ _ (lt-leb t.accs a la) ∙ passed _ _ _ (ne_eqb _ _ d)
      ∙ ap (λ l. limits_answer l (outstanding_of s a) (budget_of t a) (admitted_of s a)) (limit_phi t s.channel a d)

  at_limit : ((offered t s a).answer ≡ refused 8) ↔ ((0 < job_of t s.channel a) × (phi_of t a ≤ outstanding_of s a))
  at_limit = elim (ℕ_discrete (job_of t s.channel a) 0) [
    | yes z ↦ (
      λ e. absurd (let f = sym (without_job z) ∙ e in let y : ◌≡◌ {A = ℕ} 14 8 = cc in omega arith),
      λ h. absurd (omega (arith, h)),
    )
    | no d ↦
        let by = by_limit (phi_of t a) (outstanding_of s a) (budget_of t a) (admitted_of s a) in
        (λ e. (omega arith, by.0 (sym (with_job_lem d) ∙ e)), λ h. with_job_lem d ∙ by.1 h.1)
  ]

  no_job : ((offered t s a).answer ≡ refused 14) ↔ (job_of t s.channel a ≡ 0)
  no_job = (
    λ e. elim (ℕ_discrete (job_of t s.channel a) 0) [
      | yes z ↦ z
      | no d ↦ absurd (not_by_limits (phi_of t a) (outstanding_of s a) (budget_of t a) (admitted_of s a) (sym (with_job_lem d) ∙ e))
    ],
    without_job,
  )

pub homecoming : (t : Tree) (s : State) (cs : List Call) → keeps t s ≡ true → Homecoming t s cs
homecoming t s cs k = record {
  outstanding = λ front back e a la. counted front a la;
  within_limit = λ front back e a la.
      omega (
        arith,
        counted front a la,
        (kept_of t (state_after t s front) (kept front back e)).outstanding a la,
        ap (λ c. limit_of t c a) (channel front back e),
      );
  refused_8 = λ front back e a la.
      let x = state_after t s front in
      subst (λ n. ((step t x (offer a)).answer ≡ refused 8) ↔ ((0 < job_of t s.channel a) × (phi_of t a ≤ n))) (counted front a la)
      (subst (λ c. ((step t x (offer a)).answer ≡ refused 8) ↔ ((0 < job_of t c a) × (phi_of t a ≤ outstanding_of x a))) (channel front back e)
      (at_limit t x a (kept front back e) la));
  refused_14 = λ front back e a la.
      subst (λ c. ((step t (state_after t s front) (offer a)).answer ≡ refused 14) ↔ (job_of t c a ≡ 0)) (channel front back e)
      (no_job t (state_after t s front) a (kept front back e) la);
}
  where
    channel : (front back : List Call) → cs ≡ front ++ back → (state_after t s front).channel ≡ s.channel
    channel front back e = (guarantee t s cs k).same_channel_lem front back e

    kept : (front back : List Call) → cs ≡ front ++ back → keeps t (state_after t s front) ≡ true
    kept front back e = (guarantee t s cs k).every_state_keeps front back e

    counted : (front : List Call) (a : ℕ) → a < t.accs
        → outstanding_of (state_after t s front) a ≡ outstanding_after t s a (events_of t s front)
    counted front a la =
        let w = calls_lead t s front k in
        omega (arith, returning_after a la w, queue_length a 0 (starting_queue (waiting_of s a)) w (start_length (waiting_of s a)))
