-- What is left to wait for of a job of n: the slots until the last of it that waits is served, and one share for each that is still to be
-- admitted. An admission moves one from the second to the first, and each slot in which some of it waits takes one off.
--
-- left s x y           that, in state s, where x were admitted and y served since the job began, none of its accelerator waiting then
use Prim.Native.Nat.{ℕ, suc, ◌+◌, ◌-◌, ◌*◌, ◌≤◌, ◌<◌, min}
use mathlib.Core.Bool.{Bool, true, false}
use mathlib.Core.List.{List}
use mathlib.Core.Logic.{◌⊎◌, inl, inr}
use mathlib.Core.Path.{◌≡◌, refl, sym, ◌∙◌, ap, ap₂, subst}
use native.Mathlib.Decide.{dec_lt, ℕ_discrete}
use native.Mathlib.Nat.{add-mul, mul-le-mul}
use native.Mathlib.Omega.{arith}
use lib.Dec.{eqb, ltb}
use borrow.Author.Tests.{eq-eqb, ne_eqb, lt-ltb, le-ltb}
use Rattle.model.specs.declared.Tree.{Tree}
use Rattle.model.specs.declared.State.{State}
use Rattle.model.specs.declared.Channel.{Channel}
use Rattle.folds.specs.Fold.{pick}
use Rattle.folds.proofs.Folds.{picked, passed}
use Rattle.model.specs.Tree.{path, limit_of, waiting_of}
use Rattle.rules.specs.Rules.{keeps}
use Rattle.rules.proofs.Sound.{sound_of, kept_of}
use Rattle.machine.specs.Machine.{Answer}
use Rattle.machine.specs.Calls.{Call}
use Rattle.shares.specs.Shares.{share_of}
use Rattle.guarantee.specs.Guarantee.{Event, slot_counts, admits_one}
use Rattle.guarantee.specs.Windows.{admissions_by}
use Rattle.guarantee.proofs.Path.{wait_of, wait_least, wait_grows, wait_same, wait_most, wait_other, wait_own}
use Rattle.guarantee.proofs.Queue.{waits_within}
use Rattle.guarantee.proofs.Leads.{Service, Does, admits, declines, serves, idles, halts, does_channel, Leads, stay, go, leads_start}
use Rattle.runs.specs.Waits.{serves_one, services_of}
use Rattle.runs.proofs.Tickets.{balance_step}

module _ (t : Tree) (c : Channel) (a : ℕ) (la : a < t.accs) (n : ℕ) where
  abbrev waits : State → ℕ → ℕ
  waits s w = wait_of t (limit_of t c) s a w

  abbrev pub left : State → ℕ → ℕ → ℕ
  left s x y = waits s (min x n - y) + (n - x) * share_of t c a

  -- 1 in a slot, not refused, in which some of accelerator a waits
  abbrev pub busy : State → Call → Answer → ℕ
  busy s k x = pick (ltb 0 (waiting_of s a)) (slot_counts x k) 0

  nothing : (d : Bool) → ◌≡◌ {A = ℕ} (pick d 0 0) 0
  nothing true = refl
  nothing false = refl

  -- as many are still to be admitted
  as_many : (x z : ℕ) → n - (x + z) ≡ n - x → (n - (x + z)) * share_of t c a ≡ (n - x) * share_of t c a
  as_many x z e = ap (λ i. i * share_of t c a) e

  still : (x z : ℕ) → (z ≡ 0) ⊎ (n ≤ x) → n - (x + z) ≡ n - x
  still x z (inl e) = omega arith
  still x z (inr l) = omega arith

  index : (x y z : ℕ) → (z ≡ 0) ⊎ (n ≤ x) → min (x + z) n - (y + 0) ≤ min x n - y + 0
  index x y z (inl e) = omega arith
  index x y z (inr l) = omega arith

  index_more : (x y : ℕ) → min (x + 1) n - (y + 0) ≤ min x n - y + 1
  index_more x y = omega arith

  -- in a state with the same turns, where none of the job is admitted
  stays : (s m : State) (x y z : ℕ) → ((w : ℕ) → waits m w ≡ waits s w) → (z ≡ 0) ⊎ (n ≤ x) → left m (x + z) (y + 0) ≤ left s x y
  stays s m x y z e h = omega (
    arith,
    e (min (x + z) n - (y + 0)),
    wait_grows t (limit_of t c) s (path t a) (min (x + z) n - (y + 0)) (min x n - y) 0 (index x y z h),
    as_many x z (still x z h),
  )

  -- and where one of it is
  one_more : (s m : State) (x y : ℕ) → ((w : ℕ) → waits m w ≡ waits s w) → x < n → left m (x + 1) (y + 0) ≤ left s x y
  one_more s m x y e h = omega (
    arith,
    e (min (x + 1) n - (y + 0)),
    wait_grows t (limit_of t c) s (path t a) (min (x + 1) n - (y + 0)) (min x n - y) 1 (index_more x y),
    add-mul 1 (n - (x + 1)) (share_of t c a),
    ap (λ i. i * share_of t c a) {x = 1 + (n - (x + 1))} {y = n - x} (omega arith),
  )

  admission : (s m : State) (x y : ℕ) (d : Bool) → ((w : ℕ) → waits m w ≡ waits s w) → left m (x + pick d 1 0) (y + 0) ≤ left s x y
  admission s m x y false e = stays s m x y 0 e (inl refl)
  admission s m x y true e = elim (dec_lt x n) [ yes l ↦ one_more s m x y e l | no d ↦ stays s m x y 1 e (inr (omega arith)) ]

  module _ (s m : State) (K : keeps t s ≡ true) (L : keeps t m ≡ true) (f : s.channel ≡ c) (g : m.channel ≡ c) (x y : ℕ)
      (h : waiting_of s a + y ≡ x) where
    so_many : (n - (x + 0)) * share_of t c a ≡ (n - x) * share_of t c a
    so_many = as_many x 0 (still x 0 (inl refl))

    -- none of accelerator a waits in m: then none of the job does
    none : waiting_of s a ≡ 0 → left m (x + 0) (y + 0) ≤ left s x y
    none z =
        let v = min (x + 0) n - (y + 0) in
        omega (
          arith,
          so_many,
          wait_most t (limit_of t c) (sound_of t m L) m (kept_of t m L) (waits_within t c m L g) a v la,
          ap (λ i. i * share_of t c a) {x = v} {y = 0} (omega arith),
        )

    own : Service t s a m → y + 1 < n → 1 + left m (x + 0) (y + 1) ≤ left s x y
    own v l =
        let w = min (x + 0) n - (y + 1) in
        omega (
          arith,
          so_many,
          wait_own t (limit_of t c) (sound_of t s K) s m (kept_of t s K) (kept_of t m L) (waits_within t c s K f) (waits_within t c m L g)
              a la v.on v.off w,
          wait_grows t (limit_of t c) s (path t a) (suc w) (min x n - y) 0 (omega (arith, v.waited)),
        )

    other : (b : ℕ) → Service t s b m → (b ≡ a → ⊥) → 0 < waiting_of s a → y < n → 1 + left m (x + 0) (y + 0) ≤ left s x y
    other b v d w l =
        let i = min (x + 0) n - (y + 0) in
        omega (
          arith,
          so_many,
          wait_other t (limit_of t c) (sound_of t s K) s m (kept_of t s K) (kept_of t m L) (waits_within t c s K f) (waits_within t c m L g)
              b v.acc v.on v.off a la w d i (omega arith),
          wait_grows t (limit_of t c) s (path t a) i (min x n - y) 0 (omega arith),
        )

    service : (b : ℕ) → Service t s b m → y + pick (eqb a b) 1 0 < n
        → pick (ltb 0 (waiting_of s a)) 1 0 + left m (x + 0) (y + pick (eqb a b) 1 0) ≤ left s x y
    service b v l = elim (ℕ_discrete a b) [
      | yes e ↦
          let p = picked {A = ℕ} (eqb a b) 1 0 (eq-eqb a b e) in
          let u = subst (λ i. Service t s i m) (sym e) v in
          omega (
            arith,
            ap (λ i. left m (x + 0) (y + i)) p,
            picked {A = ℕ} (ltb 0 (waiting_of s a)) 1 0 (lt-ltb 0 (waiting_of s a) u.waited),
            own u (omega arith),
          )
      | no d ↦
          let p = passed {A = ℕ} (eqb a b) 1 0 (ne_eqb a b d) in
          elim (dec_lt 0 (waiting_of s a)) as
          (λ _. pick (ltb 0 (waiting_of s a)) 1 0 + left m (x + 0) (y + pick (eqb a b) 1 0) ≤ left s x y) [
            | yes w ↦ omega (
              arith,
              ap (λ i. left m (x + 0) (y + i)) p,
              picked {A = ℕ} (ltb 0 (waiting_of s a)) 1 0 (lt-ltb 0 (waiting_of s a) w),
              other b v (λ e. d (sym e)) w (omega arith),
            )
            | no w ↦ omega (
              arith,
              ap (λ i. left m (x + 0) (y + i)) p,
              passed {A = ℕ} (ltb 0 (waiting_of s a)) 1 0 (le-ltb 0 (waiting_of s a) (omega arith)),
              none (omega arith),
            )
          ]
    ]

  pub left_step : (s m : State) (k : Call) (v : Answer) (x y : ℕ) → keeps t s ≡ true → keeps t m ≡ true → s.channel ≡ c → Does t s k v m
      → waiting_of s a + y ≡ x → y + serves_one a v k < n → busy s k v + left m (x + admits_one a v k) (y + serves_one a v k) ≤ left s x y
  left_step s m k v x y K L f (admits {b = b} A) h l = omega (
    arith,
    nothing (ltb 0 (waiting_of s a)),
    admission s m x y (eqb a b) (wait_same t (limit_of t c) s m A.turns (path t a)),
  )
  left_step s m k v x y K L f (declines w) h l = omega (arith, nothing (ltb 0 (waiting_of s a)), stays s s x y 0 (λ w. refl) (inl refl))
  left_step s m k v x y K L f (serves {b = b} w) h l = service s m K L f (w.channel ∙ f) x y h b w l
  left_step s m k v x y K L f (idles i) h l = omega (
    arith,
    passed {A = ℕ} (ltb 0 (waiting_of s a)) 1 0 (le-ltb 0 (waiting_of s a) (omega (arith, i.none a))),
    none s m K L f (i.channel ∙ f) x y h (i.none a),
  )
  left_step s m k v x y K L f (halts e) h l = omega (arith, nothing (ltb 0 (waiting_of s a)), stays s s x y 0 (λ w. refl) (inl refl))

  pub left_same : (r : State) (x u y v : ℕ) → x ≡ u → y ≡ v → left r x y ≡ left r u v
  left_same r x u y v e f = ap₂ (left r) e f

  pub left_leads : {s r : State} {es : List Event} (x y : ℕ) → Leads t s es r → s.channel ≡ c → waiting_of s a + y ≡ x
      → y + services_of a es < n → left r (x + admissions_by a es) (y + services_of a es) ≤ left s x y
  unfolding services_of admissions_by
  left_leads {s} x y (stay K) f h l = stays s s x y 0 (λ w. refl) (inl refl)
  left_leads {s} {r} x y (go {m = m} {e = e} {es = es} K d w) f h l =
      let p = admits_one a e.answer e.call in
      let q = serves_one a e.answer e.call in
      omega (
        arith,
        left_step s m e.call e.answer x y K (leads_start w) f d h (omega arith),
        left_leads (x + p) (y + q) w (does_channel d ∙ f) (omega (arith, balance_step t s m a e.call e.answer d)) (omega arith),
        left_same r (x + p + admissions_by a es) (x + (p + admissions_by a es)) (y + q + services_of a es) (y + (q + services_of a es))
            (omega arith) (omega arith),
      )

  -- the last of the job is not served: something is left
  pub left_some : (s : State) (x y : ℕ) → 1 ≤ share_of t c a → y < n → y ≤ x → 1 ≤ left s x y
  left_some s x y h l u = elim (dec_lt x n) [
    | yes v ↦ omega (arith, mul-le-mul {n₁ = 1} {n₂ = n - x} (omega arith) h)
    | no v ↦ omega (arith, wait_least t (limit_of t c) s (path t a) (min x n - y))
  ]

  -- at its start: n times the share
  pub left_start : (s : State) → keeps t s ≡ true → s.channel ≡ c → left s 0 0 ≤ n * share_of t c a
  left_start s K f =
      omega (
        arith,
        wait_most t (limit_of t c) (sound_of t s K) s (kept_of t s K) (waits_within t c s K f) a (min 0 n - 0) la,
        ap (λ i. i * share_of t c a) {x = min 0 n - 0} {y = 0} (omega arith),
        ap (λ i. i * share_of t c a) {x = n - 0} {y = n} (omega arith),
      )
