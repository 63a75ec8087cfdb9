-- The counts stay the counts when they are brought up to date along one path: a path crosses an interconnect at most once,
-- so each entry is changed at most once, and where it is, the weight beneath that port changed by as much.
use Prim.Native.Nat.{ℕ, zero, suc, ◌+◌, ◌*◌, ◌-◌, ◌%◌, ◌^◌, ◌≤◌, ◌<◌, min}
use mathlib.Core.Bool.{Bool, true, false}
use mathlib.Core.List.{List, [], ◌∷◌}
use mathlib.Core.Logic.{◌↔◌}
use mathlib.Core.Path.{◌≡◌, refl, sym, ◌∙◌, ap, ap₂, subst, subst₂, fun_ext}
use native.Mathlib.Decide.{dec_lt, ℕ_discrete}
use native.Mathlib.Nat.{zero-div}
use native.Mathlib.Omega.{arith}
use lib.Dec.{ltb, eqb}
use lib.ListN.{get_or, length, replicate, length-replicate, get_or-replicate}
use borrow.Author.Tests.{ltb-false, lt-ltb, le-ltb, ne_eqb}
use Rattle.model.specs.declared.Tree.{Tree}
use Rattle.folds.specs.Fold.{pick, sum}
use Rattle.model.specs.Tree.{port_of, home_of, home_port_of, level_of, above, path}
use Rattle.model.specs.Beneath.{under, inside, weight_under}
use Rattle.folds.proofs.Folds.{picked, passed, sum_mono}
use Rattle.rules.proofs.Sound.{Sound, above_root, above_step, level_step}
use Rattle.rules.proofs.Beneath.{only, On, there, lane, at_port, port_le, inside_zero, rising, lane_bounds, falls, path_bounds, path_unique, path_root, path_holds, weight_on, weight_off}
use Rattle.turns.specs.Turns.{bits_below, has_port}
use Rattle.turns.proofs.Next.{bit_of}
use Rattle.counts.specs.declared.Table.{Table}
use Rattle.counts.specs.Table.{port_number}
use Rattle.counts.specs.Counts.{up, path_ports, with_port, raised, opened}
use Rattle.counts.proofs.Entries.{TableOf}
use Rattle.counts.proofs.Steps.{number_interconnect, up_root, up_next}
use Rattle.counts.proofs.Changed.{numbers, lowered, closed, changed, changed_size, Apart, changed_at, own, shuts, raised_changed, lowered_changed, Ported, opened_changed, closed_changed}

-- u has the sum of the weight w beneath each port of t, and v the set of the ports of each interconnect beneath which it is
-- above 0; with what waits for the weight: the number waiting under each port, and the live ports
pub record Counted (t : Tree) (w : ℕ → ℕ) (u v : List ℕ) : Type 0 where
  pub counts_size : length u ≡ 120
  pub sets_size : length v ≡ 15
  pub count : (j p : ℕ) → j < t.ints → p < 8 → get_or u (port_number j p) 0 ≡ weight_under t w j p
  pub live : (j : ℕ) → j < t.ints → get_or v j 0 ≡ bits_below 8 (λ p. ltb 0 (weight_under t w j p))

bits_cong : (n : ℕ) (f g : ℕ → Bool) → ((p : ℕ) → p < n → f p ≡ g p) → bits_below n f ≡ bits_below n g
unfolding bits_below
bits_cong zero f g h = refl
bits_cong (suc n) f g h =
    ap₂ (λ x c. x + pick c (2 ^ n) 0) (bits_cong n f g (λ p b. h p (omega arith))) (h n (omega arith))

-- sets that agree but for one port differ by that port
bits_but : (n : ℕ) (f g : ℕ → Bool) (p : ℕ) → p < n → ((q : ℕ) → q < n → (q ≡ p → ⊥) → f q ≡ g q)
    → bits_below n g + pick (f p) (2 ^ p) 0 ≡ bits_below n f + pick (g p) (2 ^ p) 0
unfolding bits_below
bits_but zero f g p b h = absurd (omega arith)
bits_but (suc n) f g p b h = elim (ℕ_discrete n p) [
  | yes e ↦ subst (λ k. bits_below n g + pick (g n) (2 ^ n) 0 + pick (f k) (2 ^ k) 0
      ≡ bits_below n f + pick (f n) (2 ^ n) 0 + pick (g k) (2 ^ k) 0) e
      (omega (arith, bits_cong n f g (λ q c. h q (omega arith) (omega arith))))
  | no d ↦ omega (
    arith,
    bits_but n f g p (omega arith) (λ q c. h q (omega arith)),
    ap (λ c. pick c (2 ^ n) 0) (h n (omega arith) d),
  )
]

-- a set s with a port of value x put in, or taken out where nothing is left under it, is r if r differs from s by that port
put_in : (c : Bool) (s r x : ℕ) → r + pick c x 0 ≡ s + x → pick c s (s + x) ≡ r
put_in true s r x e = omega arith
put_in false s r x e = omega arith

taken_out : (m s r x : ℕ) → r + x ≡ s + pick (ltb 0 m) x 0 → pick (eqb m 0) (s - x) s ≡ r
taken_out zero s r x e = omega arith
taken_out (suc m) s r x e =
    omega (
      arith,
      passed (eqb (suc m) 0) (s - x) s (ne_eqb (suc m) 0 (omega arith)),
      picked (ltb 0 (suc m)) x 0 (lt-ltb 0 (suc m) (omega arith)),
    )

module _ (t : Tree) (S : Sound t) where
  -- something is beneath the port
  abbrev lit : (ℕ → ℕ) → ℕ → ℕ → Bool
  lit w j p = ltb 0 (weight_under t w j p)

  -- four levels are enough to come up to the root
  up_lane : (g : Table) → TableOf t g → (k q : ℕ) → k < t.ints → (n : ℕ) → q < 8 → level_of t k ≤ n
      → up n g.parent_port (port_number k q) ≡ numbers (lane t k q)
  up_lane g T = rising t S _ (λ k q l ih n b v. let m = S.most_ints in elim (dec_lt 0 k) [
    | yes z ↦
        up_next n (n - 1) g.parent_port (port_number k q) _ (omega arith) (omega arith) (omega arith)
        (sym (ap (λ i. get_or g.parent_port i 0) (number_interconnect k q b) ∙ T.parent k (omega arith)))
        ∙ ap (λ r. port_number k q ∷ r)
        (ih z (n - 1) (S.parent_port k z l) (omega (arith, level_step t S k z l)) ∙ sym (ap numbers (above_step t S k z l)))
    | no f ↦
        up_root n g.parent_port (port_number k q) (omega arith) (omega arith) (omega arith)
        ∙ ap (λ r. port_number k q ∷ numbers r) (sym (ap (above 15 t) {y = 0} (omega arith) ∙ above_root t S))
  ])

  -- the interconnects fall going up, so their places are apart
  lane_apart : (at : ℕ → ℕ → ℕ) → ((i p j q : ℕ) → i < j → p < 8 → q < 8 → at i p ≡ at j q → ⊥) → (k q : ℕ)
      → k < t.ints → q < 8 → Apart at (lane t k q)
  lane_apart at d = rising t S (λ k q. q < 8 → Apart at (lane t k q)) (λ k q l ih b. (
    (λ j p o. d j p k q (falls t S k l o) (lane_bounds t S k q l b j p (there o)).2 b),
    elim (dec_lt 0 k) [
      | yes z ↦ subst (Apart at) (sym (above_step t S k z l)) (ih z (S.parent_port k z l))
      | no f ↦ subst (Apart at) {x = []} (sym (ap (above 15 t) {y = 0} (omega arith) ∙ above_root t S)) tt
    ],
  ))

  module _ (a : ℕ) (la : a < t.accs) where
    up_path : (g : Table) → TableOf t g → path_ports g a ≡ numbers (path t a)
    up_path g T =
        ap (up 4 g.parent_port) (T.own a (omega (arith, S.most_accs)))
        ∙ up_lane g T (home_of t a) (home_port_of t a) (S.home a la) 4 (S.home_port a la)
        (S.level (home_of t a) (S.home a la))

    ported : Ported (path t a)
    ported j p o = (path_bounds t S a la j p o).1

    path_apart : (at : ℕ → ℕ → ℕ) → ((i p j q : ℕ) → i < j → p < 8 → q < 8 → at i p ≡ at j q → ⊥) → Apart at (path t a)
    path_apart at d = lane_apart at d (home_of t a) (home_port_of t a) (S.home a la) (S.home_port a la)

    ports_apart : Apart port_number (path t a)
    ports_apart = path_apart port_number (λ i p j q x y z e. omega arith)

    abbrev OffPath : (ℕ → ℕ) → (ℕ → ℕ) → Type 0
    OffPath w w' =
        (j p : ℕ) → j < t.ints → p < 8 → (On j p (path t a) → ⊥) → weight_under t w j p ≡ weight_under t w' j p

    -- the weight changes from w to w' beneath the path only
    module _ (w w' : ℕ → ℕ) (off : OffPath w w') where
      set_but : (j p : ℕ) → On j p (path t a)
          → bits_below 8 (lit w' j) + pick (lit w j p) (2 ^ p) 0 ≡ bits_below 8 (lit w j) + pick (lit w' j p) (2 ^ p) 0
      set_but j p o =
          let b = path_bounds t S a la j p o in
          bits_but 8 (lit w j) (lit w' j) p b.1
          (λ q c d. ap (ltb 0) (off j q b.0 c (λ x. d (path_unique t S a la j q p x o))))

      -- updates that are right at each crossing of the path are right
      counted_along : (f g : ℕ → ℕ → ℕ → ℕ)
          → ((j p : ℕ) → On j p (path t a) → f j p (weight_under t w j p) ≡ weight_under t w' j p)
          → ((j p : ℕ) → On j p (path t a) → g j p (bits_below 8 (lit w j)) ≡ bits_below 8 (lit w' j)) → (c v : List ℕ)
          → Counted t w c v → Counted t w' (changed port_number f (path t a) c) (changed own g (path t a) v)
      counted_along f g on-f on-g c v C =
          record {
            counts_size = changed_size port_number f (path t a) c ∙ C.counts_size;
            sets_size = changed_size own g (path t a) v ∙ C.sets_size;
            count = λ j p l b. changed_at port_number f (path t a) c ports_apart (port_number j p)
                (omega (arith, C.counts_size, S.most_ints)) (weight_under t w' j p)
                (λ d. C.count j p l b ∙ off j p l b (λ o. d j p o refl))
                (λ i q o x. let r = path_bounds t S a la i q o in
                let y : i ≡ j = omega arith in let z : q ≡ p = omega arith in
                subst₂ (λ k m. f i q (get_or c (port_number k m) 0) ≡ weight_under t w' k m) y z
                (ap (f i q) (C.count i q r.0 r.1) ∙ on-f i q o));
            live = λ j l. changed_at own g (path t a) v (path_apart own (λ i p k q x y z e. omega arith)) j
                (omega (arith, C.sets_size, S.most_ints)) (bits_below 8 (lit w' j))
                (λ d. C.live j l ∙ bits_cong 8 (lit w j) (lit w' j) (λ p b. ap (ltb 0) (off j p l b (λ o. d j p o refl))))
                (λ i q o x. subst (λ k. g i q (get_or v k 0) ≡ bits_below 8 (lit w' k)) x
                (ap (g i q) (C.live i (path_bounds t S a la i q o).0) ∙ on-g i q o));
          }

  -- one more at accelerator a: brought up to date along its path
  pub counted_more : (g : Table) → TableOf t g → (a : ℕ) → a < t.accs → (w w' : ℕ → ℕ)
      → ((b : ℕ) → w' b ≡ w b + only a b)
      → ((j p : ℕ) → j < t.ints → p < 8 → weight_under t w' j p < 65536)
      → (c v : List ℕ) → Counted t w c v
      → Counted t w' (raised (path_ports g a) c) (opened (path_ports g a) v)
  counted_more g T a la w w' e small c v C =
      subst (λ l. Counted t w' (raised l c) (opened l v)) (sym (up_path a la g T))
      (subst₂ (Counted t w') (sym (raised_changed (path t a) c)) (sym (opened_changed (path t a) (ported a la) v))
      (counted_along a la w w' off _ _ count_on set_on c v C))
    where
      same : (j p : ℕ) → weight_under t w' j p ≡ weight_under t (λ b. w b + only a b) j p
      same j p = ap (λ f. weight_under t f j p) (fun_ext e)

      on : (j p : ℕ) → On j p (path t a) → weight_under t w' j p ≡ suc (weight_under t w j p)
      on j p o = same j p ∙ weight_on t S a la w j p o

      off : OffPath a la w w'
      off j p l b d = sym (same j p ∙ weight_off t S a la w j p l b d)

      count_on : (j p : ℕ) → On j p (path t a) → min 65535 (weight_under t w j p + 1) ≡ weight_under t w' j p
      count_on j p o = let b = path_bounds t S a la j p o in omega (arith, on j p o, small j p b.0 b.1)

      set_on : (j p : ℕ) → On j p (path t a) → with_port (bits_below 8 (lit w j)) p ≡ bits_below 8 (lit w' j)
      set_on j p o =
          let s = bits_below 8 (lit w j) in
          ap (λ k. pick k s (s + 2 ^ p)) (bit_of 8 (lit w j) p (ported a la j p o))
          ∙ put_in (lit w j p) s _ (2 ^ p) (set_but a la w w' off j p o
          ∙ ap (λ k. s + pick k (2 ^ p) 0) (lt-ltb 0 (weight_under t w' j p) (omega (arith, on j p o))))

  -- one less at accelerator a
  pub counted_less : (a : ℕ) → a < t.accs → (w w' : ℕ → ℕ)
      → ((b : ℕ) → w b ≡ w' b + only a b)
      → (c v : List ℕ) → Counted t w c v
      → Counted t w' (lowered (numbers (path t a)) c) (closed (numbers (path t a)) c v)
  counted_less a la w w' e c v C =
      subst₂ (Counted t w') (sym (lowered_changed (path t a) c))
      (sym (closed_changed (weight_under t w) (path t a) (ported a la) (ports_apart a la) c v
      (λ j p o. let b = path_bounds t S a la j p o in C.count j p b.0 b.1)))
      (counted_along a la w w' off _ _ (λ j p o. omega (arith, on j p o)) set_on c v C)
    where
      same : (j p : ℕ) → weight_under t w j p ≡ weight_under t (λ b. w' b + only a b) j p
      same j p = ap (λ f. weight_under t f j p) (fun_ext e)

      on : (j p : ℕ) → On j p (path t a) → weight_under t w j p ≡ suc (weight_under t w' j p)
      on j p o = same j p ∙ weight_on t S a la w' j p o

      off : OffPath a la w w'
      off j p l b d = same j p ∙ weight_off t S a la w' j p l b d

      set_on : (j p : ℕ) → On j p (path t a) → shuts (weight_under t w) j p (bits_below 8 (lit w j)) ≡ bits_below 8 (lit w' j)
      set_on j p o =
          let s = bits_below 8 (lit w j) in
          let was : lit w j p ≡ true = lt-ltb 0 (weight_under t w j p) (omega (arith, on j p o)) in
          let left : weight_under t w j p - 1 ≡ weight_under t w' j p = omega (arith, on j p o) in
          ap₂ (λ m k. pick (eqb m 0) (pick k (s - 2 ^ p) s) s) left (bit_of 8 (lit w j) p (ported a la j p o) ∙ was)
          ∙ taken_out (weight_under t w' j p) s (bits_below 8 (lit w' j)) (2 ^ p)
          (ap (λ k. bits_below 8 (lit w' j) + pick k (2 ^ p) 0) (sym was) ∙ set_but a la w w' off j p o)

  weight_none : (w : ℕ → ℕ) → ((a : ℕ) → a < t.accs → w a ≡ 0) → (j p : ℕ) → j < t.ints → p < 8 → weight_under t w j p ≡ 0
  weight_none w h j p l b = omega (arith, port_le 3 t w j p b, inside_zero t S 4 w h j l)

  unlit : (w : ℕ → ℕ) → ((a : ℕ) → a < t.accs → w a ≡ 0) → (j : ℕ) → j < t.ints → bits_below 8 (lit w j) ≡ 0
  unfolding bits_below
  unlit w h j l =
      bits_cong 8 (lit w j) (λ _. false) (λ p b. le-ltb 0 (weight_under t w j p) (omega (arith, weight_none w h j p l b)))

  -- nothing waits: all counts are 0, and no port is live
  pub counted_none : (w : ℕ → ℕ) → ((a : ℕ) → a < t.accs → w a ≡ 0) → Counted t w (replicate 120 0) (replicate 15 0)
  counted_none w h =
      record {
        counts_size = length-replicate {A = ℕ} 120 0;
        sets_size = length-replicate {A = ℕ} 15 0;
        count = λ j p l b. get_or-replicate {A = ℕ} 120 (port_number j p) 0 0 (omega (arith, S.most_ints))
            ∙ sym (weight_none w h j p l b);
        live = λ j l. get_or-replicate {A = ℕ} 15 j 0 0 (omega (arith, S.most_ints)) ∙ sym (unlit w h j l);
      }

  -- the root has no live port exactly if nothing waits
  pub none_live : (w : ℕ → ℕ) (c v : List ℕ) → Counted t w c v → (get_or v 0 0 ≡ 0) ↔ ((a : ℕ) → a < t.accs → w a ≡ 0)
  none_live w c v C = (
    (λ e a la.
        let r = path_root t S a la in
        let q : lit w 0 r.0 ≡ false =
        sym (bit_of 8 (lit w 0) r.0 (ported a la 0 r.0 r.1))
        ∙ ap (λ s. has_port s r.0) (sym (C.live 0 S.some_ints) ∙ e) ∙ ap (λ x. eqb (x % 2) 1) (zero-div (2 ^ r.0)) in
        omega (arith, path_holds t S a la w 0 r.0 r.1, ltb-false 0 (weight_under t w 0 r.0) q)),
    (λ h. C.live 0 S.some_ints ∙ unlit w h 0 S.some_ints),
  )

  module _ (w : ℕ → ℕ) (h : (a : ℕ) → a < t.accs → w a ≤ 16) where
    -- eight ports to an interconnect
    module _ (n m : ℕ) (z : 16 ≤ m) (f : (k : ℕ) → k < t.ints → inside n t w k ≤ m) where
      port_most : (j p : ℕ) → j < t.ints → p < 8 → under w (inside n t w) (port_of t j p) ≤ m
      port_most j p l b =
          at_port t S (λ P. under w (inside n t w) P ≤ m) j p l b (omega arith) (λ a la _ _. omega (arith, h a la))
          (λ k _ lk _ _. f k lk)

      inside_most : (j : ℕ) → j < t.ints → inside (suc n) t w j ≤ 8 * m
      unfolding inside sum
      inside_most j l = omega (arith, sum_mono 8 _ (λ _. m) (λ p b. port_most j p l b))

    -- what waits under a port fits 16 bits
    pub weight_small : (j p : ℕ) → j < t.ints → p < 8 → weight_under t w j p < 65536
    unfolding inside
    weight_small j p l b =
        let one = inside_most 0 16 (omega arith) (λ k _. omega arith) in
        let two = inside_most 1 128 (omega arith) one in
        let three = inside_most 2 1024 (omega arith) two in
        omega (arith, port_most 3 8192 (omega arith) three j p l b)
