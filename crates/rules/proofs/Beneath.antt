-- What lies beneath a port, summed by a weight: linear in the weight, settled once the levels suffice, and an accelerator
-- lies beneath the crossings of its path, once, and beneath no other port, since what a port carries names its place.
use Prim.Native.Nat.{ℕ, zero, suc, ◌+◌, ◌≤◌, ◌<◌}
use mathlib.Core.List.{List, [], ◌∷◌}
use mathlib.Core.Logic.{◌↔◌, ◌⊎◌, inl, inr}
use mathlib.Core.Path.{◌≡◌, refl, sym, ◌∙◌, ap, ap₂, subst, subst₂}
use native.Mathlib.Decide.{dec_lt, ℕ_discrete}
use native.Mathlib.Omega.{arith}
use lib.Dec.{eqb}
use borrow.Author.Tests.{eq-eqb, ne_eqb}
use Rattle.model.specs.declared.Tree.{Tree}
use Rattle.model.specs.declared.Port.{Port}
use Rattle.model.specs.declared.Port.TheVariants.{Empty, Acc, Int}
use Rattle.folds.specs.Fold.{pick}
use Rattle.model.specs.Tree.{Crossing, port_of, parent_of, parent_port_of, home_of, home_port_of, level_of, above, path}
use Rattle.model.specs.Beneath.{under, inside, weight_under}
use Rattle.folds.proofs.Folds.{sum_cong, sum_mono, sum_add, term_le, Term, some_term, sum_single, clash}
use Rattle.rules.proofs.Sound.{Sound, above_root, above_step, level_step}

-- the weight of a alone
abbrev pub only : ℕ → ℕ → ℕ
only a b = pick (eqb a b) 1 0

pub only_same : (a b : ℕ) → a ≡ b → only a b ≡ 1
only_same a b e = ap (λ c. pick c 1 0) (eq-eqb a b e)

pub only_other : (a b : ℕ) → (a ≡ b → ⊥) → only a b ≡ 0
only_other a b d = ap (λ c. pick c 1 0) (ne_eqb a b d)

under_add : (v w x y z : ℕ → ℕ) → ((k : ℕ) → z k ≡ x k + y k) → (P : Port)
    → under (λ a. v a + w a) z P ≡ under v x P + under w y P
under_add v w x y z h Empty = refl
under_add v w x y z h (Acc a) = refl
under_add v w x y z h (Int k) = h k

pub inside_add : (n : ℕ) (t : Tree) (v w : ℕ → ℕ) (j : ℕ)
    → inside n t (λ a. v a + w a) j ≡ inside n t v j + inside n t w j
unfolding inside
inside_add zero t v w j = refl
inside_add (suc n) t v w j =
    sum_cong 8 _ _ (λ p b. under_add v w (inside n t v) (inside n t w) _ (inside_add n t v w) (port_of t j p))
    ∙ sum_add 8 _ _

pub under_sum : (n : ℕ) (t : Tree) (v w : ℕ → ℕ) (P : Port)
    → under (λ a. v a + w a) (inside n t (λ a. v a + w a)) P ≡ under v (inside n t v) P + under w (inside n t w) P
under_sum n t v w = under_add v w (inside n t v) (inside n t w) _ (inside_add n t v w)

-- what has weight inside an interconnect is beneath one of its ports
pub some_port : (n : ℕ) (t : Tree) (w : ℕ → ℕ) (j : ℕ) → 0 < inside (suc n) t w j
    → Term 8 (λ p. under w (inside n t w) (port_of t j p))
unfolding inside
some_port n t w j h = some_term 8 _ h

-- what is beneath a port is inside its interconnect
pub port_le : (n : ℕ) (t : Tree) (w : ℕ → ℕ) (j p : ℕ) → p < 8
    → under w (inside n t w) (port_of t j p) ≤ inside (suc n) t w j
unfolding inside
port_le n t w j p b = term_le 8 (λ q. under w (inside n t w) (port_of t j q)) p b

-- interconnect i and port p are a crossing of the list
pub data On (i p : ℕ) : List Crossing → Type 0 where
  here : {c : Crossing} {l : List Crossing} → c.interconnect ≡ i → c.port ≡ p → On i p (c ∷ l)
  there : {c : Crossing} {l : List Crossing} → On i p l → On i p (c ∷ l)

-- port p of interconnect i carries the interconnect of another crossing of the path
pub record Below (t : Tree) (a i p : ℕ) : Type 0 where
  pub int : ℕ
  pub port : ℕ
  pub carries : port_of t i p ≡ Int int
  pub on : On int port (path t a)

-- port q of interconnect k and what is above it
abbrev pub lane : Tree → ℕ → ℕ → List Crossing
lane t k q = record { interconnect = k; port = q } ∷ above 15 t k

pub no_crossing : {i p : ℕ} (l : List Crossing) → l ≡ [] → On i p l → ⊥
no_crossing l e (here x y) = clash cc
no_crossing l e (there o) = clash cc

pub on? : (i p : ℕ) (l : List Crossing) → Dec (On i p l)
on? i p [] = no (no_crossing [] refl)
on? i p (c ∷ l) = join (ℕ_discrete c.interconnect i) (ℕ_discrete c.port p) (on? i p l)
  where
    neither : ((c.interconnect ≡ i) × (c.port ≡ p) → ⊥) → (On i p l → ⊥) → On i p (c ∷ l) → ⊥
    neither f g (here x y) = f (x, y)
    neither f g (there o) = g o

    join : Dec (c.interconnect ≡ i) → Dec (c.port ≡ p) → Dec (On i p l) → Dec (On i p (c ∷ l))
    join d f (yes o) = yes (there o)
    join (yes x) (yes y) (no g) = yes (here x y)
    join (yes x) (no y) (no g) = no (neither (λ h. y h.1) g)
    join (no x) f (no g) = no (neither (λ h. x h.0) g)

module _ (t : Tree) (S : Sound t) where
  -- what a port carries is nothing, or names this port as its place
  pub at_port : (Q : Port → Type 0) (j p : ℕ) → j < t.ints → p < 8
      → Q Empty
      → ((a : ℕ) → a < t.accs → home_of t a ≡ j → home_port_of t a ≡ p → Q (Acc a))
      → ((k : ℕ) → 0 < k → k < t.ints → parent_of t k ≡ j → parent_port_of t k ≡ p → Q (Int k))
      → Q (port_of t j p)
  at_port Q j p l b none acc int = go (port_of t j p) refl
    where
      go : (P : Port) → port_of t j p ≡ P → Q P
      go Empty e = none
      go (Acc a) e = let f = S.acc_place j p a l b e in acc a f.0 f.1 f.2
      go (Int k) e = let f = S.int_place j p k l b e in int k f.0 f.1 f.2 f.3

  pub child_level : (k j : ℕ) → 0 < k → k < t.ints → parent_of t k ≡ j → level_of t k ≡ suc (level_of t j)
  child_level k j z l e = level_step t S k z l ∙ ap (λ i. suc (level_of t i)) e

  under_mono : (n : ℕ) (v w : ℕ → ℕ) → ((a : ℕ) → a < t.accs → v a ≤ w a)
      → ((k : ℕ) → k < t.ints → inside n t v k ≤ inside n t w k) → (j p : ℕ) → j < t.ints → p < 8
      → under v (inside n t v) (port_of t j p) ≤ under w (inside n t w) (port_of t j p)
  under_mono n v w h below j p l b =
      at_port (λ P. under v (inside n t v) P ≤ under w (inside n t w) P) j p l b
      (omega arith) (λ a la _ _. h a la) (λ k _ lk _ _. below k lk)

  pub inside_mono : (n : ℕ) (v w : ℕ → ℕ) → ((a : ℕ) → a < t.accs → v a ≤ w a) → (j : ℕ) → j < t.ints
      → inside n t v j ≤ inside n t w j
  unfolding inside
  inside_mono zero v w h j l = omega arith
  inside_mono (suc n) v w h j l = sum_mono 8 _ _ (λ p b. under_mono n v w h (inside_mono n v w h) j p l b)

  pub weight_mono : (v w : ℕ → ℕ) → ((a : ℕ) → a < t.accs → v a ≤ w a) → (j p : ℕ) → j < t.ints → p < 8
      → weight_under t v j p ≤ weight_under t w j p
  weight_mono v w h = under_mono 3 v w h (inside_mono 3 v w h)

  pub inside_cong : (n : ℕ) (v w : ℕ → ℕ) → ((a : ℕ) → a < t.accs → v a ≡ w a) → (j : ℕ) → j < t.ints
      → inside n t v j ≡ inside n t w j
  inside_cong n v w h j l =
      omega (
        arith,
        inside_mono n v w (λ a la. omega (arith, h a la)) j l,
        inside_mono n w v (λ a la. omega (arith, h a la)) j l,
      )

  pub inside_zero : (n : ℕ) (w : ℕ → ℕ) → ((a : ℕ) → a < t.accs → w a ≡ 0) → (j : ℕ) → j < t.ints → inside n t w j ≡ 0
  inside_zero n w h j l = omega (arith, inside_cong n w (λ _. 0) h j l, inside_add n t (λ _. 0) (λ _. 0) j)

  -- levels that suffice: one more changes nothing
  pub settled : (n : ℕ) (w : ℕ → ℕ) (j : ℕ) → j < t.ints → 5 ≤ n + level_of t j → inside n t w j ≡ inside (suc n) t w j
  unfolding inside
  settled zero w j l h = absurd (omega (arith, S.level j l))
  settled (suc n) w j l h =
      sum_cong 8 _ _ (λ p b. at_port (λ P. under w (inside n t w) P ≡ under w (inside (suc n) t w) P) j p l b refl
      (λ _ _ _ _. refl) (λ k z lk e _. settled n w k lk (omega (arith, child_level k j z lk e))))

  pub child_lane : (k j q : ℕ) → 0 < k → k < t.ints → parent_of t k ≡ j → parent_port_of t k ≡ q
      → above 15 t k ≡ lane t j q
  child_lane k j q z l e f = above_step t S k z l ∙ ap₂ (lane t) e f

  above_on : {i p : ℕ} (k : ℕ) → k < t.ints → On i p (above 15 t k)
      → (0 < k) × On i p (lane t (parent_of t k) (parent_port_of t k))
  above_on {i} {p} k l o = elim (dec_lt 0 k) [
    | yes z ↦ (z, subst (On i p) (above_step t S k z l) o)
    | no d ↦ absurd (no_crossing _ (ap (above 15 t) {y = 0} (omega arith) ∙ above_root t S) o)
  ]

  on_above : {i p : ℕ} (k : ℕ) → 0 < k → k < t.ints → On i p (lane t (parent_of t k) (parent_port_of t k))
      → On i p (above 15 t k)
  on_above {i} {p} k z l o = subst (On i p) (sym (above_step t S k z l)) o

  -- a parent is smaller than its child: what follows from the parent holds of every interconnect
  pub rising : (P : ℕ → ℕ → Type 0) → ((k q : ℕ) → k < t.ints → (0 < k → P (parent_of t k) (parent_port_of t k)) → P k q)
      → (k q : ℕ) → k < t.ints → P k q
  rising P step k q l = go (suc k) k q (omega arith) l
    where
      go : (n k q : ℕ) → k < n → k < t.ints → P k q
      go zero k q b l = absurd (omega arith)
      go (suc n) k q b l =
          step k q l (λ z. let c = S.parent k z l in
          go n (parent_of t k) (parent_port_of t k) (omega arith) (omega arith))

  -- what holds at the first crossing and passes from a crossing to the one above it holds along the lane
  along : (P : ℕ → ℕ → Type 0) → ((k q : ℕ) → 0 < k → k < t.ints → P k q → P (parent_of t k) (parent_port_of t k))
      → (k q : ℕ) → k < t.ints → P k q → (i p : ℕ) → On i p (lane t k q) → P i p
  along P step = rising Along go
    where
      Along : ℕ → ℕ → Type 0
      Along k q = P k q → (i p : ℕ) → On i p (lane t k q) → P i p

      go : (k q : ℕ) → k < t.ints → (0 < k → Along (parent_of t k) (parent_port_of t k)) → Along k q
      go k q l ih g i p (here e f) = subst₂ P e f g
      go k q l ih g i p (there o) = let v = above_on k l o in ih v.0 (step k q v.0 l g) i p v.1

  pub lane_bounds : (k q : ℕ) → k < t.ints → q < 8 → (i p : ℕ) → On i p (lane t k q) → (i ≤ k) × (i < t.ints) × (p < 8)
  lane_bounds k q l b i p o =
      along (λ x y. (x ≤ k) × (x < t.ints) × (y < 8))
      (λ x y z lx h. let c : parent_of t x < x = S.parent x z lx in (omega arith, omega arith, S.parent_port x z lx))
      k q l (omega arith) i p o

  -- the numbers fall going up
  pub falls : {i p : ℕ} (k : ℕ) → k < t.ints → On i p (above 15 t k) → i < k
  falls {i} {p} k l o =
      let v = above_on k l o in
      let c : parent_of t k < k = S.parent k v.0 l in
      omega (arith, lane_bounds (parent_of t k) (parent_port_of t k) (omega arith) (S.parent_port k v.0 l) i p v.1)

  lane_unique : (k q : ℕ) → k < t.ints → (i p r : ℕ) → On i p (lane t k q) → On i r (lane t k q) → p ≡ r
  lane_unique = rising Unique go
    where
      Unique : ℕ → ℕ → Type 0
      Unique k q = (i p r : ℕ) → On i p (lane t k q) → On i r (lane t k q) → p ≡ r

      go : (k q : ℕ) → k < t.ints → (0 < k → Unique (parent_of t k) (parent_port_of t k)) → Unique k q
      go k q l ih i p r (here e f) (here g h) = sym f ∙ h
      go k q l ih i p r (here e f) (there u) = absurd (omega (arith, falls k l u))
      go k q l ih i p r (there o) (here g h) = absurd (omega (arith, falls k l o))
      go k q l ih i p r (there o) (there u) = let v = above_on k l o in ih v.0 i p r v.1 (above_on k l u).1

  lane_up : (k q : ℕ) → k < t.ints → (i p : ℕ) → 0 < i → On i p (lane t k q)
      → On (parent_of t i) (parent_port_of t i) (lane t k q)
  lane_up = rising Up go
    where
      Up : ℕ → ℕ → Type 0
      Up k q = (i p : ℕ) → 0 < i → On i p (lane t k q) → On (parent_of t i) (parent_port_of t i) (lane t k q)

      go : (k q : ℕ) → k < t.ints → (0 < k → Up (parent_of t k) (parent_port_of t k)) → Up k q
      go k q l ih i p z (here e f) =
          there (on_above k (omega arith) l (here (ap (parent_of t) e) (ap (parent_port_of t) e)))
      go k q l ih i p z (there o) = let v = above_on k l o in there (on_above k v.0 l (ih v.0 i p z v.1))

  lane_root : (k q : ℕ) → k < t.ints → (p : ℕ) × On 0 p (lane t k q)
  lane_root = rising (λ k q. (p : ℕ) × On 0 p (lane t k q)) (λ k q l ih. elim (dec_lt 0 k) [
    | yes z ↦ let r = ih z in (r.0, there (on_above k z l r.1))
    | no d ↦ let e : k ≡ 0 = omega arith in (q, here e refl)
  ])

  module _ (a : ℕ) (la : a < t.accs) where
    pub path_bounds : (i p : ℕ) → On i p (path t a) → (i < t.ints) × (p < 8)
    path_bounds i p o = let h = lane_bounds (home_of t a) (home_port_of t a) (S.home a la) (S.home_port a la) i p o in
        (h.1, h.2)

    pub path_unique : (i p r : ℕ) → On i p (path t a) → On i r (path t a) → p ≡ r
    path_unique i p r o u = lane_unique (home_of t a) (home_port_of t a) (S.home a la) i p r o u

    pub path_up : (i p : ℕ) → 0 < i → On i p (path t a) → On (parent_of t i) (parent_port_of t i) (path t a)
    path_up i p z o = lane_up (home_of t a) (home_port_of t a) (S.home a la) i p z o

    pub path_root : (p : ℕ) × On 0 p (path t a)
    path_root = lane_root (home_of t a) (home_port_of t a) (S.home a la)

    -- what a crossing carries: the accelerator, or the interconnect of the crossing below
    pub path_next : (i p : ℕ) → On i p (path t a) → (port_of t i p ≡ Acc a) ⊎ Below t a i p
    path_next i p o =
        (along (λ x y. On x y (path t a) × ((port_of t x y ≡ Acc a) ⊎ Below t a x y))
        (λ k q z l h. (
          path_up k q z h.0,
          inr (record { int = k; port = q; carries = S.parent_carries k z l; on = h.0 }),
        ))
        (home_of t a) (home_port_of t a) (S.home a la) (here refl refl, inl (S.home_carries a la)) i p o).1

    beneath_step : (n : ℕ)
        → ((k : ℕ) → 0 < k → k < t.ints → 0 < inside n t (only a) k → On (parent_of t k) (parent_port_of t k) (path t a))
        → (j p : ℕ) → j < t.ints → p < 8 → 0 < under (only a) (inside n t (only a)) (port_of t j p) → On j p (path t a)
    beneath_step n below j p l b =
        at_port (λ P. 0 < under (only a) (inside n t (only a)) P → On j p (path t a)) j p l b
        (λ h. absurd (omega arith))
        (λ c lc e f h. elim (ℕ_discrete a c) [
          | yes q ↦ here (ap (home_of t) q ∙ e) (ap (home_port_of t) q ∙ f)
          | no d ↦ absurd (omega (arith, only_other a c d))
        ])
        (λ k z lk e f h. subst₂ (λ x y. On x y (path t a)) e f (below k z lk h))

    inside_on : (n k : ℕ) → 0 < k → k < t.ints → 0 < inside n t (only a) k
        → On (parent_of t k) (parent_port_of t k) (path t a)
    unfolding inside
    inside_on zero k z l h = absurd (omega arith)
    inside_on (suc n) k z l h =
        let m = some_port n t (only a) k h in
        path_up k m.at z (beneath_step n (inside_on n) k m.at l m.below m.positive)

    -- only the crossings of its path have the accelerator beneath them
    pub beneath_on : (n j p : ℕ) → j < t.ints → p < 8 → 0 < under (only a) (inside n t (only a)) (port_of t j p)
        → On j p (path t a)
    beneath_on n = beneath_step n (inside_on n)

    -- what holds of the weight of a, and passes from beneath a crossing to its interconnect, holds beneath each crossing
    climb : (w : ℕ → ℕ) (R : ℕ → Type 0) → R (w a)
        → ((k q n : ℕ) → q < 8 → On k q (path t a) → R (under w (inside n t w) (port_of t k q))
        → R (inside (suc n) t w k))
        → (i p : ℕ) → On i p (path t a) → (n : ℕ) → 4 ≤ n + level_of t i → R (under w (inside n t w) (port_of t i p))
    climb w R base step i p o = (along P up (home_of t a) (home_port_of t a) (S.home a la) start i p o).1
      where
        P : ℕ → ℕ → Type 0
        P x y = On x y (path t a) × ((n : ℕ) → 4 ≤ n + level_of t x → R (under w (inside n t w) (port_of t x y)))

        start : P (home_of t a) (home_port_of t a)
        start = (here refl refl, λ n h. subst (λ X. R (under w (inside n t w) X)) (sym (S.home_carries a la)) base)

        up : (k q : ℕ) → 0 < k → k < t.ints → P k q → P (parent_of t k) (parent_port_of t k)
        up k q z l g = (path_up k q z g.0, go)
          where
            go : (n : ℕ) → 4 ≤ n + level_of t (parent_of t k)
                → R (under w (inside n t w) (port_of t (parent_of t k) (parent_port_of t k)))
            go zero h = absurd (omega (arith, S.level k l, level_step t S k z l))
            go (suc m) h =
                subst (λ X. R (under w (inside (suc m) t w) X)) (sym (S.parent_carries k z l))
                (step k q m (path_bounds k q g.0).1 g.0 (g.1 m (omega (arith, level_step t S k z l))))

    -- the accelerator is beneath each crossing of its path exactly once
    pub beneath_once : (i p : ℕ) → On i p (path t a) → (n : ℕ) → 4 ≤ n + level_of t i
        → under (only a) (inside n t (only a)) (port_of t i p) ≡ 1
    unfolding inside
    beneath_once =
        climb (only a) (λ x. x ≡ 1) (only_same a a refl)
        (λ k q n b o e. sum_single 8 _ q b (λ r c d. go k q n r b c o d) ∙ e)
      where
        go : (k q n r : ℕ) → q < 8 → r < 8 → On k q (path t a) → (r ≡ q → ⊥)
            → under (only a) (inside n t (only a)) (port_of t k r) ≡ 0
        go k q n r b c o d = elim (dec_lt 0 (under (only a) (inside n t (only a)) (port_of t k r))) [
          | yes h ↦ absurd (d (path_unique k r q (beneath_on n k r (path_bounds k q o).0 c h) o))
          | no f ↦ omega arith
        ]

    -- with one more at the accelerator, one more is beneath each crossing of its path, and no more beneath any other port
    pub weight_on : (w : ℕ → ℕ) (j p : ℕ) → On j p (path t a)
        → weight_under t (λ b. w b + only a b) j p ≡ suc (weight_under t w j p)
    weight_on w j p o = omega (arith, under_sum 3 t w (only a) (port_of t j p), beneath_once j p o 3 (omega arith))

    pub weight_off : (w : ℕ → ℕ) (j p : ℕ) → j < t.ints → p < 8 → (On j p (path t a) → ⊥)
        → weight_under t (λ b. w b + only a b) j p ≡ weight_under t w j p
    weight_off w j p l b d =
        elim (dec_lt 0 (weight_under t (only a) j p)) [
          | yes h ↦ absurd (d (beneath_on 3 j p l b h))
          | no f ↦ omega (arith, under_sum 3 t w (only a) (port_of t j p))
        ]

    -- what the accelerator weighs is beneath each crossing of its path, the root's too
    pub path_holds : (w : ℕ → ℕ) (i p : ℕ) → On i p (path t a) → w a ≤ weight_under t w i p
    path_holds w i p o =
        climb w (λ x. w a ≤ x) (omega arith) (λ k q n b u e. omega (arith, e, port_le n t w k q b)) i p o 3
        (omega arith)

    pub root_holds : (w : ℕ → ℕ) → w a ≤ inside 4 t w 0
    root_holds w =
        let r = path_root in
        omega (arith, path_holds w 0 r.0 r.1, port_le 3 t w 0 r.0 (path_bounds 0 r.0 r.1).1)

  pub root_zero : (w : ℕ → ℕ) → (inside 4 t w 0 ≡ 0) ↔ ((a : ℕ) → a < t.accs → w a ≡ 0)
  root_zero w = (λ e a la. omega (arith, root_holds a la w), λ h. inside_zero 4 w h 0 S.some_ints)
