-- The path. What a slot serves lowers the wait of every other path with something waiting: above the interconnect at which
-- the two paths part the turns taken are those of both, at it another port's turn takes one off what comes ahead, and below
-- it nothing changes.
--
-- layer_of t φ s i p w   the slots until the w-th service beneath port p of interconnect i, counted in turns of i, with
--                        outstanding limits φ
-- wait_along t φ s xs w  the slots until the w-th service beneath the first of the crossings xs, as their turns stand in
--                        state s: the wait at each crossing is what is counted at the crossing above it
-- wait_of t φ s a m      the slots until the m-th of the transactions of accelerator a is served, at most
use Prim.Native.Nat.{ℕ, suc, ◌+◌, ◌*◌, ◌≤◌, ◌<◌}
use mathlib.Core.List.{List, [], ◌∷◌}
use mathlib.Core.Logic.{◌⊎◌, inl, inr}
use mathlib.Core.Path.{◌≡◌, refl, ◌∙◌, ap, subst}
use native.Mathlib.Decide.{dec_lt}
use native.Mathlib.Nat.{mul_assoc, mul-one, mul-le-mul_right, le_trans}
use native.Mathlib.Omega.{arith}
use Rattle.folds.proofs.Folds.{clash}
use Rattle.model.specs.declared.Tree.{Tree}
use Rattle.model.specs.declared.State.{State}
use Rattle.model.specs.declared.Port.TheVariants.{Acc, Int}
use Rattle.model.specs.Tree.{Crossing, port_of, parent_of, parent_port_of, home_of, home_port_of, above, path, waiting_of}
use Rattle.rules.proofs.Sound.{Sound, Kept, above_root, above_step}
use Rattle.rules.proofs.Beneath.{On, here, there, Below, lane, on?, rising, path_bounds, path_up, path_root, path_next, path_holds}
use Rattle.turns.specs.Turns.{turn_port}
use Rattle.turns.proofs.Descent.{Turned, Unturned}
use Rattle.shares.specs.Shares.{others_at, share_along}
use Rattle.guarantee.proofs.Ahead.{WaitsWithin, ahead_of, ahead_same, ahead_most, ahead_turn, layer, layer_grows, layer_most, layer_least, layer_own, layer_other}

abbrev pub layer_of : Tree → (ℕ → ℕ) → State → ℕ → ℕ → ℕ → ℕ
layer_of t φ s i p w = layer (ahead_of t φ s i p) (others_at t φ i p) w

unfoldable pub wait_along : Tree → (ℕ → ℕ) → State → List Crossing → ℕ → ℕ
wait_along t φ s [] w = w
wait_along t φ s (x ∷ xs) w = wait_along t φ s xs (layer_of t φ s x.interconnect x.port w)

abbrev pub wait_of : Tree → (ℕ → ℕ) → State → ℕ → ℕ → ℕ
wait_of t φ s a m = wait_along t φ s (path t a) m

pub wait_least : (t : Tree) (φ : ℕ → ℕ) (s : State) (xs : List Crossing) (w : ℕ) → w ≤ wait_along t φ s xs w
unfolding wait_along
wait_least t φ s [] w = omega arith
wait_least t φ s (x ∷ xs) w =
    le_trans (layer_least _ _ w) (wait_least t φ s xs (layer_of t φ s x.interconnect x.port w))

-- e transactions more wait at most e times the share longer
pub wait_grows : (t : Tree) (φ : ℕ → ℕ) (s : State) (xs : List Crossing) (v w e : ℕ) → v ≤ w + e
    → wait_along t φ s xs v ≤ wait_along t φ s xs w + e * share_along t φ xs
unfolding wait_along share_along
wait_grows t φ s [] v w e h = omega (arith, mul-one e)
wait_grows t φ s (x ∷ xs) v w e h =
    let i = x.interconnect in
    let d = others_at t φ i x.port in
    omega (
      arith,
      wait_grows t φ s xs (layer_of t φ s i x.port v) (layer_of t φ s i x.port w) (e * (1 + d))
          (layer_grows (ahead_of t φ s i x.port) d v w e h),
      mul_assoc e (1 + d) (share_along t φ xs),
    )

pub wait_same : (t : Tree) (φ : ℕ → ℕ) (s r : State) → ((i : ℕ) → Unturned s r i) → (xs : List Crossing) (w : ℕ)
    → wait_along t φ r xs w ≡ wait_along t φ s xs w
unfolding wait_along
wait_same t φ s r u [] w = refl
wait_same t φ s r u (x ∷ xs) w =
    wait_same t φ s r u xs _
    ∙ ap (λ n. wait_along t φ s xs (layer n (others_at t φ x.interconnect x.port) w))
    (ahead_same t φ s r x.interconnect x.port (u x.interconnect))

module _ (t : Tree) (φ : ℕ → ℕ) (S : Sound t) where
  most : (s : State) → Kept t s → WaitsWithin t φ s → (xs : List Crossing)
      → ((i p : ℕ) → On i p xs → (i < t.ints) × (p < 8)) → (w : ℕ) → wait_along t φ s xs w ≤ w * share_along t φ xs
  unfolding wait_along share_along
  most s K F [] h w = omega (arith, mul-one w)
  most s K F (x ∷ xs) h w =
      let b = h x.interconnect x.port (here refl refl) in
      let d = others_at t φ x.interconnect x.port in
      let y = layer_of t φ s x.interconnect x.port w in
      omega (
        arith,
        most s K F xs (λ i p o. h i p (there o)) y,
        mul-le-mul_right (share_along t φ xs)
            (layer_most _ d w (ahead_most t φ S s K F x.interconnect x.port b.0 b.1)),
        mul_assoc w (1 + d) (share_along t φ xs),
      )

  -- (k + 1) times the share is the most that a transaction with k before it waits
  pub wait_most : (s : State) → Kept t s → WaitsWithin t φ s → (a m : ℕ) → a < t.accs
      → wait_of t φ s a m ≤ m * share_along t φ (path t a)
  wait_most s K F a m la = most s K F (path t a) (path_bounds t S a la) m

  -- the wait above an interconnect: none above the root, else that of its crossing on the parent
  above_wait : (s : State) (k w : ℕ) → 0 < k → k < t.ints
      → wait_along t φ s (above 15 t k) w ≡ wait_along t φ s (lane t (parent_of t k) (parent_port_of t k)) w
  above_wait s k w z l = ap (λ xs. wait_along t φ s xs w) (above_step t S k z l)

  root_wait : (s : State) (k w : ℕ) → k ≡ 0 → wait_along t φ s (above 15 t k) w ≡ w
  unfolding wait_along
  root_wait s k w e = ap (λ xs. wait_along t φ s xs w) (ap (above 15 t) e ∙ above_root t S)

  -- a slot that serves b, and what waits for a
  module _ (s r : State) (K : Kept t s) (L : Kept t r) (F : WaitsWithin t φ s) (G : WaitsWithin t φ r)
      (b : ℕ) (lb : b < t.accs)
      (on : (i p : ℕ) → On i p (path t b) → Turned t s r i p)
      (off : (i : ℕ) → ((p : ℕ) → On i p (path t b) → ⊥) → Unturned s r i) where
    -- along crossings of b's path
    Drops : ℕ → ℕ → Type 0
    Drops k q = On k q (path t b) → (v w : ℕ) → v + 1 ≤ w
        → wait_along t φ r (lane t k q) v + 1 ≤ wait_along t φ s (lane t k q) w

    abbrev Above : ℕ → Type 0
    Above k = (v w : ℕ) → v + 1 ≤ w → wait_along t φ r (above 15 t k) v + 1 ≤ wait_along t φ s (above 15 t k) w

    drops_above : (k q : ℕ) → k < t.ints → On k q (path t b) → (0 < k → Drops (parent_of t k) (parent_port_of t k))
        → Above k
    unfolding Drops
    drops_above k q l o ih v w h = elim (dec_lt 0 k) [
      | yes z ↦ omega (arith, above_wait r k v z l, above_wait s k w z l, ih z (path_up t S b lb k q z o) v w h)
      | no d ↦ omega (arith, root_wait r k v (omega arith), root_wait s k w (omega arith))
    ]

    drops : (k q : ℕ) → k < t.ints → Drops k q
    unfolding Drops wait_along
    drops = rising t S Drops (λ k q l ih o v w h.
        drops_above k q l o ih (layer_of t φ r k q v) (layer_of t φ s k q w)
        (layer_own (ahead_of t φ s k q) (others_at t φ k q) (ahead_of t φ r k q) v w
        (ahead_most t φ S r L G k q l (path_bounds t S b lb k q o).1) h))

    -- b's path goes on down from a crossing that carries an interconnect
    down : (k : ℕ) → 0 < k → k < t.ints → On (parent_of t k) (parent_port_of t k) (path t b) → (q : ℕ) × On k q (path t b)
    down k z l o = go (path_next t S b lb (parent_of t k) (parent_port_of t k) o)
      where
        carried : port_of t (parent_of t k) (parent_port_of t k) ≡ Int k
        carried = S.parent_carries k z l

        go : (port_of t (parent_of t k) (parent_port_of t k) ≡ Acc b) ⊎ Below t b (parent_of t k) (parent_port_of t k)
            → (q : ℕ) × On k q (path t b)
        go (inl e) = clash (cc carried)
        go (inr f) =
            let e : port_of t (parent_of t k) (parent_port_of t k) ≡ Int f.int = f.carries in
            let y : f.int ≡ k = cc carried in
            (f.port, subst (λ j. On j f.port (path t b)) y f.on)

    -- b's path does not end at the port of another accelerator
    apart : (a : ℕ) → a < t.accs → (b ≡ a → ⊥) → On (home_of t a) (home_port_of t a) (path t b) → ⊥
    apart a la d o = go (path_next t S b lb (home_of t a) (home_port_of t a) o)
      where
        carried : port_of t (home_of t a) (home_port_of t a) ≡ Acc a
        carried = S.home_carries a la

        go : (port_of t (home_of t a) (home_port_of t a) ≡ Acc b) ⊎ Below t b (home_of t a) (home_port_of t a) → ⊥
        go (inl e) = d (cc carried)
        go (inr f) =
            let e : port_of t (home_of t a) (home_port_of t a) ≡ Int f.int = f.carries in
            clash (cc carried)

    -- along crossings of a's path, from one that is not of b's
    module _ (a : ℕ) (la : a < t.accs) (some : 0 < waiting_of s a) where
      Falls : ℕ → ℕ → Type 0
      Falls k q = On k q (path t a) → (On k q (path t b) → ⊥) → (w : ℕ) → 0 < w
          → wait_along t φ r (lane t k q) w + 1 ≤ wait_along t φ s (lane t k q) w

      -- the paths part here
      parting : (k q : ℕ) → k < t.ints → On k q (path t a) → (On k q (path t b) → ⊥) → (w : ℕ) → 0 < w
          → On k (turn_port t s k) (path t b) → wait_along t φ r (lane t k q) w + 1 ≤ wait_along t φ s (lane t k q) w
      unfolding wait_along
      parting k q l oa d w h o =
          let v = on k (turn_port t s k) o in
          drops_above k (turn_port t s k) l o
          (λ z. let c = S.parent k z l in drops (parent_of t k) (parent_port_of t k) (omega arith))
          (layer_of t φ r k q w) (layer_of t φ s k q w)
          (layer_other (ahead_of t φ s k q) (others_at t φ k q) (ahead_of t φ r k q) w
          (ahead_turn t φ S s K F k q l (path_bounds t S a la k q oa).1 v.turn
          (λ e. d (subst (λ x. On k x (path t b)) e o))
          (omega (arith, path_holds t S a la (waiting_of s) k q oa)) r (turn_port t s k) v) h)

      -- b's path does not come here
      passing_by : (k q : ℕ) → k < t.ints → (0 < k → Falls (parent_of t k) (parent_port_of t k)) → On k q (path t a)
          → (w : ℕ) → 0 < w → (On k (turn_port t s k) (path t b) → ⊥)
          → wait_along t φ r (lane t k q) w + 1 ≤ wait_along t φ s (lane t k q) w
      unfolding wait_along Falls
      passing_by k q l ih oa w h c = elim (dec_lt 0 k) [
        | yes z ↦
            omega (
              arith,
              ap (λ n. wait_along t φ r (above 15 t k) (layer n (others_at t φ k q) w)) (ahead_same t φ s r k q (off k none)),
              above_wait r k (layer_of t φ s k q w) z l,
              above_wait s k (layer_of t φ s k q w) z l,
              ih z (path_up t S a la k q z oa) (λ o. let f = down k z l o in none f.0 f.1) (layer_of t φ s k q w)
                  (omega (arith, layer_least (ahead_of t φ s k q) (others_at t φ k q) w)),
            )
        | no d ↦
            let f = path_root t S b lb in
            absurd (none f.0 (subst (λ x. On x f.0 (path t b)) {y = k} (omega arith) f.1))
      ]
        where
          none : (p : ℕ) → On k p (path t b) → ⊥
          none p o = c (subst (λ x. On k x (path t b)) (on k p o).port o)

      falls : (k q : ℕ) → k < t.ints → Falls k q
      unfolding Falls
      falls = rising t S Falls (λ k q l ih oa d w h. elim (on? k (turn_port t s k) (path t b)) [
        | yes o ↦ parting k q l oa d w h o
        | no c ↦ passing_by k q l ih oa w h c
      ])

      -- a transaction of b is served while m of a's wait
      pub wait_other : (b ≡ a → ⊥) → (m : ℕ) → 0 < m → wait_of t φ r a m + 1 ≤ wait_of t φ s a m
      unfolding Falls
      wait_other d m h = falls (home_of t a) (home_port_of t a) (S.home a la) (here refl refl) (apart a la d) m h

    -- a transaction of b's own is served
    pub wait_own : (m : ℕ) → wait_of t φ r b m + 1 ≤ wait_of t φ s b (suc m)
    unfolding Drops
    wait_own m = drops (home_of t b) (home_port_of t b) (S.home b lb) (here refl refl) m (suc m) (omega arith)
