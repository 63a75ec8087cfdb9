-- The choice of a slot. An interconnect with something waiting has a turn at a port with something waiting under it, so
-- the choice goes down to an accelerator that waits, and the turns that change are those of the crossings of its path.
use Prim.Native.Nat.{ℕ, zero, suc, ◌+◌, ◌-◌, ◌≤◌, ◌<◌, min}
use mathlib.Core.Bool.{Bool, true, false}
use mathlib.Core.List.{List}
use mathlib.Core.Logic.{◌⊎◌, inl, inr}
use mathlib.Core.Path.{◌≡◌, refl, sym, ◌∙◌, ap, ap₂, subst, subst₂}
use native.Mathlib.Decide.{ℕ_discrete}
use native.Mathlib.Omega.{arith}
use lib.ListN.{length, length-set}
use lib.Seq.{get_or-set_same, get_or-set_other}
use lib.Dec.{ltb}
use borrow.Author.Tests.{ltb-true, lt-ltb}
use Rattle.model.specs.declared.Tree.{Tree}
use Rattle.model.specs.declared.State.{State}
use Rattle.model.specs.declared.Port.{Port}
use Rattle.model.specs.Tree.{Crossing, port_of, granularity_of, parent_of, parent_port_of, home_of, home_port_of, level_of, above, path, waiting_of, last_of, allowance_of}
use Rattle.model.specs.Beneath.{under, inside, waits_under}
use Rattle.folds.proofs.Folds.{picked, passed}
use Rattle.rules.proofs.Sound.{Sound, Kept, above_root}
use Rattle.rules.proofs.Beneath.{On, here, there, no_crossing, lane, at_port, child_level, settled, some_port, child_lane, path_unique, path_up}
use Rattle.turns.specs.Turns.{live_set, next_port, goes_on, turn_port, turn_allowance, reached, who, with_turn, turned, after}
use Rattle.turns.proofs.Next.{bit_of, next_found}
use Rattle.turns.proofs.Steps.{choice_same}

-- the turn of interconnect j: its port has something waiting, and its allowance is above zero and within both its limits
pub record Turn (t : Tree) (s : State) (j : ℕ) : Type 0 where
  pub port : turn_port t s j < 8
  pub some : 1 ≤ turn_allowance t s j
  pub granted : turn_allowance t s j ≤ granularity_of t j
  pub covered : turn_allowance t s j ≤ waits_under t s j (turn_port t s j)

-- interconnect i has had its turn, at port p; or has not
pub record Turned (t : Tree) (s r : State) (i p : ℕ) : Type 0 where
  pub turn : Turn t s i
  pub port : p ≡ turn_port t s i
  pub last : last_of r i ≡ turn_port t s i
  pub allowance : allowance_of r i ≡ turn_allowance t s i - 1

pub record Unturned (s r : State) (i : ℕ) : Type 0 where
  pub last : last_of r i ≡ last_of s i
  pub allowance : allowance_of r i ≡ allowance_of s i

-- nothing but turns differs
pub record Frame (s r : State) : Type 0 where
  pub waiting : r.waiting ≡ s.waiting
  pub returning : r.returning ≡ s.returning
  pub admitted : r.admitted ≡ s.admitted
  pub slot : r.slot ≡ s.slot
  pub channel : r.channel ≡ s.channel
  pub last_size : length r.last ≡ length s.last
  pub allowance_size : length r.allowance ≡ length s.allowance

-- the choice has come to accelerator a, and the turns of its path are taken but for the crossings l
pub record Went (t : Tree) (s : State) (l : List Crossing) (a : ℕ) (r : State) : Type 0 where
  pub acc : a < t.accs
  pub waits : 0 < waiting_of s a
  pub on : (i p : ℕ) → On i p (path t a) → On i p l ⊎ Turned t s r i p
  pub off : (i : ℕ) → On i (turn_port t s i) (path t a) ⊎ Unturned s r i
  pub last_size : length r.last ≡ length s.last
  pub allowance_size : length r.allowance ≡ length s.allowance

-- the choice has come to accelerator a from the root: the turns of its path are taken, and no other
pub record Choice (t : Tree) (s : State) (a : ℕ) (r : State) : Type 0 where
  pub acc : a < t.accs
  pub waits : 0 < waiting_of s a
  pub on : (i p : ℕ) → On i p (path t a) → Turned t s r i p
  pub off : (i : ℕ) → (On i (turn_port t s i) (path t a) → ⊥) → Unturned s r i
  pub frame : Frame s r

module _ (t : Tree) (S : Sound t) (s : State) (K : Kept t s) where
  turn_of : (j : ℕ) {x y : ℕ} → turn_port t s j ≡ x → turn_allowance t s j ≡ y → x < 8 → 1 ≤ y → y ≤ granularity_of t j
      → y ≤ waits_under t s j x → Turn t s j
  turn_of j p q b c d f = record {
    port = omega arith;
    some = omega arith;
    granted = omega arith;
    covered = subst₂ (λ x y. y ≤ waits_under t s j x) (sym p) (sym q) f;
  }

  going_on : (j : ℕ) → j < t.ints → goes_on s j ≡ true → Turn t s j
  unfolding turn_port turn_allowance
  going_on j l e = turn_of j (picked _ _ _ e) (picked _ _ _ e) (K.last j l) (ltb-true 0 (allowance_of s j) e)
      (K.allowance j l) (K.allowance_waits j l)

  passing : (j : ℕ) → j < t.ints → 0 < inside 4 t (waiting_of s) j → goes_on s j ≡ false → Turn t s j
  unfolding turn_port turn_allowance
  passing j l w e =
      let live : ℕ → Bool = λ p. ltb 0 (waits_under t s j p) in
      let next : ℕ = next_port (live_set t s j) (last_of s j) in
      let m = some_port 3 t (waiting_of s) j w in
      let bit = bit_of 8 live m.at m.below ∙ lt-ltb _ _ m.positive in
      let f = next_found (live_set t s j) (last_of s j) m.at m.below bit in
      let h = ltb-true 0 (waits_under t s j next) (sym (bit_of 8 live next f.0) ∙ f.1) in
      let r : turn_port t s j ≡ next = passed _ _ _ e in
      turn_of j r (passed _ _ _ e ∙ ap (λ p. min (granularity_of t j) (waits_under t s j p)) r)
      f.0 (omega (arith, S.granularity j l)) (omega arith) (omega arith)

  pub turn : (j : ℕ) → j < t.ints → 0 < inside 4 t (waiting_of s) j → Turn t s j
  turn j l w = go (goes_on s j) refl
    where
      go : (c : Bool) → goes_on s j ≡ c → Turn t s j
      go true e = going_on j l e
      go false e = passing j l w e

  -- the choice has gone down from port q of interconnect j; from interconnect j
  abbrev Inner : ℕ → ℕ → ℕ → State → Type 0
  Inner j q a r = Went t s (lane t j q) a r × On j q (path t a)

  abbrev pub Outer : ℕ → ℕ → State → Type 0
  Outer j a r = Went t s (above 15 t j) a r × On j (turn_port t s j) (path t a)

  ends : (j q a : ℕ) → a < t.accs → home_of t a ≡ j → home_port_of t a ≡ q → 0 < waiting_of s a → Inner j q a s
  ends j q a la e f h = (
    record {
      acc = la;
      waits = h;
      on = λ i p o. inl (subst (On i p) (ap₂ (lane t) e f) o);
      off = λ i. inr (record { last = refl; allowance = refl });
      last_size = refl;
      allowance_size = refl;
    },
    here e f,
  )

  goes_down : (j q k a : ℕ) (r : State) → 0 < k → k < t.ints → parent_of t k ≡ j → parent_port_of t k ≡ q → Outer k a r
      → Inner j q a r
  goes_down j q k a r z l e f g = (
    subst (λ x. Went t s x a r) (child_lane t S k j q z l e f) g.0,
    subst₂ (λ x y. On x y (path t a)) e f (path_up t S a g.0.acc k (turn_port t s k) z g.1),
  )

  -- the choice comes to the accelerator that the port carries, or goes on down in its interconnect
  below : (n j q : ℕ) → j < t.ints → q < 8
      → ((k : ℕ) → 0 < k → k < t.ints → parent_of t k ≡ j → 0 < inside 4 t (waiting_of s) k
      → Outer k (who n t s k) (after n t s k))
      → 0 < waits_under t s j q → Inner j q (reached (who n t s) (port_of t j q)) (turned s (after n t s) (port_of t j q))
  below n j q l b inner = at_port t S Q j q l b (λ h. absurd (omega arith)) (λ a la e f h. ends j q a la e f h)
      (λ k z lk e f h. goes_down j q k _ _ z lk e f (inner k z lk e (deeper k z lk e h)))
    where
      Q : Port → Type 0
      Q P = 0 < under (waiting_of s) (inside 3 t (waiting_of s)) P
          → Inner j q (reached (who n t s) P) (turned s (after n t s) P)

      deeper : (k : ℕ) → 0 < k → k < t.ints → parent_of t k ≡ j → 0 < inside 3 t (waiting_of s) k
          → 0 < inside 4 t (waiting_of s) k
      deeper k z lk e h = omega (arith, settled t S 3 (waiting_of s) k lk (omega (arith, child_level t S k j z lk e)))

  -- one more turn is taken, at interconnect j
  taking : (j a : ℕ) (r : State) → j < t.ints → Turn t s j → Inner j (turn_port t s j) a r
      → Outer j a (with_turn r j (turn_port t s j) (turn_allowance t s j - 1))
  taking j a r l u g = (
    record {
      acc = g.0.acc;
      waits = g.0.waits;
      on = λ i p o. elim (ℕ_discrete i j) [ yes e ↦ inr (own i p e o) | no d ↦ still i p d (g.0.on i p o) ];
      off = λ i. elim (ℕ_discrete i j) [
        | yes e ↦ inl (subst (λ x. On x (turn_port t s x) (path t a)) (sym e) g.1)
        | no d ↦ other i d (g.0.off i)
      ];
      last_size = length-set r.last _ _ ∙ g.0.last_size;
      allowance_size = length-set r.allowance _ _ ∙ g.0.allowance_size;
    },
    g.1,
  )
    where
      r' : State
      r' = with_turn r j (turn_port t s j) (turn_allowance t s j - 1)

      at : (p : ℕ) → On j p (path t a) → Turned t s r' j p
      at p o = record {
        turn = u;
        port = path_unique t S a g.0.acc j p (turn_port t s j) o g.1;
        last = get_or-set_same r.last j _ 0 (omega (arith, S.most_ints, K.last_size, g.0.last_size));
        allowance = get_or-set_same r.allowance j _ 0
            (omega (arith, S.most_ints, K.allowance_size, g.0.allowance_size));
      }

      own : (i p : ℕ) → i ≡ j → On i p (path t a) → Turned t s r' i p
      own i p e o = subst (λ x. Turned t s r' x p) (sym e) (at p (subst (λ x. On x p (path t a)) e o))

      still : (i p : ℕ) → (i ≡ j → ⊥) → On i p (lane t j (turn_port t s j)) ⊎ Turned t s r i p
          → On i p (above 15 t j) ⊎ Turned t s r' i p
      still i p d (inl (here e f)) = absurd (d (sym e))
      still i p d (inl (there o)) = inl o
      still i p d (inr h) =
          inr (record {
            turn = h.turn;
            port = h.port;
            last = get_or-set_other r.last j i _ 0 d ∙ h.last;
            allowance = get_or-set_other r.allowance j i _ 0 d ∙ h.allowance;
          })

      other : (i : ℕ) → (i ≡ j → ⊥) → On i (turn_port t s i) (path t a) ⊎ Unturned s r i
          → On i (turn_port t s i) (path t a) ⊎ Unturned s r' i
      other i d (inl o) = inl o
      other i d (inr h) = inr
          (record {
            last = get_or-set_other r.last j i _ 0 d ∙ h.last;
            allowance = get_or-set_other r.allowance j i _ 0 d ∙ h.allowance;
          })

  -- from any interconnect with something waiting inside, over enough levels
  pub went : (n j : ℕ) → j < t.ints → 5 ≤ n + level_of t j → 0 < inside 4 t (waiting_of s) j
      → Outer j (who n t s j) (after n t s j)
  unfolding who after
  went zero j l h w = absurd (omega (arith, S.level j l))
  went (suc n) j l h w =
      let u = turn j l w in
      taking j _ _ l u (below n j (turn_port t s j) l u.port
      (λ k z lk e. went n k lk (omega (arith, child_level t S k j z lk e)))
      (omega (arith, u.some, u.covered)))

  pub choice : 0 < inside 4 t (waiting_of s) 0 → Choice t s (who 4 t s 0) (after 4 t s 0)
  choice w = record {
    acc = g.acc;
    waits = g.waits;
    on = λ i p o. rooted i p (g.on i p o);
    off = λ i d. elim (g.off i) [ inl o ↦ absurd (d o) | inr u ↦ u ];
    frame = record {
      waiting = choice_same (λ x. x.waiting) (λ x j p o. refl) 4 t s 0;
      returning = choice_same (λ x. x.returning) (λ x j p o. refl) 4 t s 0;
      admitted = choice_same (λ x. x.admitted) (λ x j p o. refl) 4 t s 0;
      slot = choice_same (λ x. x.slot) (λ x j p o. refl) 4 t s 0;
      channel = choice_same (λ x. x.channel) (λ x j p o. refl) 4 t s 0;
      last_size = g.last_size;
      allowance_size = g.allowance_size;
    };
  }
    where
      g : Went t s (above 15 t 0) (who 4 t s 0) (after 4 t s 0)
      g = (went 4 0 S.some_ints (omega arith) w).0

      rooted : (i p : ℕ) → On i p (above 15 t 0) ⊎ Turned t s (after 4 t s 0) i p → Turned t s (after 4 t s 0) i p
      rooted i p (inl o) = absurd (no_crossing _ (above_root t S) o)
      rooted i p (inr h) = h
