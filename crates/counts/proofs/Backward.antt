-- A transaction passes each interconnect on the way down; the definition of the machine takes the turns on the way back. On the table of
-- a configuration that keeps its rules both come to the same: the way down leads to interconnects of greater numbers, whose ports what
-- is stored before them leaves.
use Prim.Native.Nat.{ℕ, zero, suc, ◌-◌, ◌/◌, ◌%◌, ◌<◌, min}
use mathlib.Core.List.{List}
use mathlib.Core.Path.{◌≡◌, refl, sym, ◌∙◌, ap, ap₂, subst}
use native.Mathlib.Decide.{dec_lt}
use native.Mathlib.Omega.{arith}
use lib.ListN.{get_or, set}
use lib.Seq.{get_or-set_other, set_comm}
use lib.Dec.{eqb, ltb}
use borrow.Author.Tests.{lt-ltb, le-ltb}
use Rattle.folds.specs.Fold.{pick}
use Rattle.folds.proofs.Folds.{picked, passed}
use Rattle.model.specs.declared.Tree.{Tree}
use Rattle.model.specs.declared.Port.{Port}
use Rattle.model.specs.declared.Port.TheVariants.{Empty, Acc, Int}
use Rattle.rules.proofs.Sound.{Sound}
use Rattle.rules.proofs.Beneath.{at_port}
use Rattle.turns.specs.declared.Turn.{Turn}
use Rattle.counts.specs.declared.Table.{Table}
use Rattle.counts.specs.declared.Ports.{Ports}
use Rattle.counts.specs.Table.{port_number, carried_at}
use Rattle.counts.specs.Counts.{without_port, lower, close_port}
use Rattle.counts.specs.Choice.{count_at, port_on, turn_on, turn_at, pass, Choice, choice, below_on, choose_on}
use Rattle.counts.proofs.Steps.{number_interconnect, ports_same}
use Rattle.counts.proofs.Entries.{TableOf}

-- c once one transaction has passed interconnect j in its turn x
abbrev pub passed_on : ℕ → Turn → Choice → Choice
passed_on j x c = choice c.served (pass j x c.ports)

-- what the port of the turn x of interconnect j carries
abbrev pub turn_carries : Table → ℕ → Turn → Port
turn_carries w j x = carried_at w (port_number j x.port)

unfoldable pub back_on : ℕ → Table → ℕ → Ports → Choice
back_on zero w j d = choice 255 d
back_on (suc m) w j d =
    pick (ltb 14 j) (choice 255 d)
    (pick (ltb 7 (turn_at w d j).port) (choice 255 d)
    (passed_on j (turn_at w d j) (below_on (back_on m w) (turn_carries w j (turn_at w d j)) d)))

pub back_step : (w : Table) (m j : ℕ) (d : Ports) → 0 < m → j < 15 → (turn_at w d j).port < 8
    → passed_on j (turn_at w d j) (below_on (back_on (m - 1) w) (turn_carries w j (turn_at w d j)) d) ≡ back_on m w j d
unfolding back_on
back_step w zero j d z h b = absurd (omega arith)
back_step w (suc m) j d z h b =
    let x = turn_at w d j in
    let e : suc m - 1 ≡ m = omega arith in
    ap (λ (i : ℕ). passed_on j x (below_on (back_on i w) (turn_carries w j x) d)) e
    ∙ sym (passed _ _ _ (le-ltb 14 j (omega arith)) ∙ passed _ _ _ (le-ltb 7 x.port (omega arith)))

-- stores at two places
lower_twice : (c e : ℕ) (u : List ℕ) → (c ≡ e → ⊥) → lower e (lower c u) ≡ lower c (lower e u)
lower_twice c e u d =
    ap (λ (n : ℕ). set (lower c u) e (n - 1)) (get_or-set_other u c e _ 0 (λ q. d (sym q))) ∙ set_comm u c e _ _ d
    ∙ sym (ap (λ (n : ℕ). set (lower e u) c (n - 1)) (get_or-set_other u e c _ 0 d))

abbrev shut_at : ℕ → ℕ → ℕ → ℕ
shut_at c n s = pick (eqb n 0) (without_port s (c % 8)) s

close_twice : (c e n m : ℕ) (v : List ℕ) → (c / 8 ≡ e / 8 → ⊥) → close_port e m (close_port c n v) ≡ close_port c n (close_port e m v)
close_twice c e n m v d =
    ap (λ (s : ℕ). set (close_port c n v) (e / 8) (shut_at e m s)) (get_or-set_other v (c / 8) (e / 8) _ 0 (λ q. d (sym q)))
    ∙ set_comm v (c / 8) (e / 8) _ _ d
    ∙ sym (ap (λ (s : ℕ). set (close_port e m v) (c / 8) (shut_at c n s)) (get_or-set_other v (e / 8) (c / 8) _ 0 d))

count_other : (u : List ℕ) (c n k p : ℕ) → (p < 8 → port_number k p ≡ c → ⊥) → count_at (set u c n) k p ≡ count_at u k p
count_other u c n k p d = elim (dec_lt 7 p) [
  | yes h ↦ picked _ _ _ (lt-ltb _ _ h) ∙ sym (picked _ _ _ (lt-ltb _ _ h))
  | no h ↦
      let g = le-ltb 7 p (omega arith) in
      passed _ _ _ g ∙ get_or-set_other u c (port_number k p) n 0 (d (omega arith)) ∙ sym (passed _ _ _ g)
]

-- one transaction passes interconnect j in its turn x, whose port is one of the eight
module _ (j : ℕ) (x : Turn) (b : x.port < 8) (k : ℕ) (d : j < k) (e : Ports) where
  abbrev c : ℕ
  c = port_number j x.port

  at_j : c / 8 ≡ j
  at_j = number_interconnect j x.port b

  -- the turn of another interconnect is as it was
  pass_turn : (w : Table) → turn_at w (pass j x e) k ≡ turn_at w e k
  pass_turn w =
      let g : ℕ = min 255 (get_or w.granularity k 0) in
      let live = get_or-set_other e.live (c / 8) k _ 0 (λ q. omega (arith, at_j)) in
      let last = get_or-set_other e.last j k x.port 0 (λ q. omega arith) in
      let allowance = get_or-set_other e.allowance j k (x.allowance - 1) 0 (λ q. omega arith) in
      let p : ℕ = port_on (get_or e.live k 0) (get_or e.last k 0) (get_or e.allowance k 0) in
      ap (λ (v : ℕ). turn_on (pass j x e).under k g v (get_or (pass j x e).last k 0) (get_or (pass j x e).allowance k 0)) live
      ∙ ap₂ (λ (l o : ℕ). turn_on (pass j x e).under k g (get_or e.live k 0) l o) last allowance
      ∙ ap (λ (n : ℕ). record { port = p; allowance = pick (ltb 0 (get_or e.allowance k 0)) (get_or e.allowance k 0) (min g n) })
      (count_other e.under c _ k p (λ h q. omega arith))

  -- and so are both, whichever comes first
  pass_twice : (y : Turn) → y.port < 8 → pass k y (pass j x e) ≡ pass j x (pass k y e)
  pass_twice y h =
      let f = port_number k y.port in
      let n : ℕ = get_or e.under c 0 - 1 in
      let m : ℕ = get_or e.under f 0 - 1 in
      let apart : c ≡ f → ⊥ = λ q. omega arith in
      let sets : c / 8 ≡ f / 8 → ⊥ = λ q. omega (arith, at_j, number_interconnect k y.port h) in
      ports_same _ _ (lower_twice c f e.under apart)
      (ap (λ (i : ℕ). close_port f (i - 1) (close_port c n e.live)) (get_or-set_other e.under c f n 0 (λ q. apart (sym q)))
      ∙ close_twice c f n m e.live sets
      ∙ sym (ap (λ (i : ℕ). close_port c (i - 1) (close_port f m e.live)) (get_or-set_other e.under f c m 0 apart)))
      (set_comm e.last j k x.port y.port (λ q. omega arith))
      (set_comm e.allowance j k (x.allowance - 1) (y.allowance - 1) (λ q. omega arith))

module _ (t : Tree) (S : Sound t) (w : Table) (W : TableOf t w) where
  -- a port leads to an interconnect of a greater number
  abbrev Deeper : ℕ → Port → Type 0
  Deeper j Empty = Unit {0}
  Deeper j (Acc a) = Unit {0}
  Deeper j (Int k) = (j < k) × (k < t.ints)

  deeper : (j : ℕ) (x : Turn) → j < t.ints → x.port < 8 → Deeper j (turn_carries w j x)
  deeper j x h l =
      subst (Deeper j) (sym (W.carried j x.port (omega (arith, S.most_ints)) l))
      (at_port t S (Deeper j) j x.port h l tt (λ _ _ _ _. tt) (λ k z lk e _. (omega (arith, S.parent k z lk, e), lk)))

  -- where what lies below an interconnect goes on after a transaction has passed, so does what lies below its port
  below_pass : (f g : ℕ → Ports → Choice) (k : ℕ) (y : Turn) (j : ℕ) (x : Turn) (d : Ports) → k < t.ints → y.port < 8
      → ((i : ℕ) → i < t.ints → k < i → f i (pass j x d) ≡ passed_on j x (g i d))
      → below_on f (turn_carries w k y) (pass j x d) ≡ passed_on j x (below_on g (turn_carries w k y) d)
  below_pass f g k y j x d h l F = by_port (turn_carries w k y) (deeper k y h l)
    where
      by_port : (P : Port) → Deeper k P → below_on f P (pass j x d) ≡ passed_on j x (below_on g P d)
      by_port Empty D = refl
      by_port (Acc a) D = refl
      by_port (Int i) D = F i D.1 D.0

  -- what is stored at an interconnect of a smaller number is left
  shift : (m k j : ℕ) (x : Turn) (d : Ports) → k < t.ints → j < k → x.port < 8
      → back_on m w k (pass j x d) ≡ passed_on j x (back_on m w k d)
  unfolding back_on
  shift zero k j x d h l b = refl
  shift (suc m) k j x d h l b =
      let y = turn_at w d k in
      let past = le-ltb 14 k (omega (arith, S.most_ints)) in
      let from : Turn → Choice =
      λ i. pick (ltb 7 i.port) (choice 255 (pass j x d)) (passed_on k i (below_on (back_on m w) (turn_carries w k i) (pass j x d))) in
      passed _ _ _ past ∙ ap from (pass_turn j x b k l d w)
      ∙ elim (dec_lt 7 y.port) [
        | yes p ↦ picked _ _ _ (lt-ltb _ _ p) ∙ sym (ap (passed_on j x) (passed _ _ _ past ∙ picked _ _ _ (lt-ltb _ _ p)))
        | no p ↦
            let q : y.port < 8 = omega arith in
            let r = below_on (back_on m w) (turn_carries w k y) d in
            passed _ _ _ (le-ltb 7 y.port (omega arith))
            ∙ ap (passed_on k y) (below_pass (back_on m w) (back_on m w) k y j x d h q (λ i hi ki. shift m i j x d hi (omega arith) b))
            ∙ ap (choice r.served) (pass_twice j x b k l r.ports y q)
            ∙ sym (ap (passed_on j x) (passed _ _ _ past ∙ passed _ _ _ (le-ltb 7 y.port (omega arith))))
      ]

  pub same_back : (m j : ℕ) (d : Ports) → j < t.ints → choose_on m w j d ≡ back_on m w j d
  unfolding choose_on back_on
  same_back zero j d h = refl
  same_back (suc m) j d h =
      let x = turn_at w d j in
      let past = le-ltb 14 j (omega (arith, S.most_ints)) in
      passed _ _ _ past
      ∙ elim (dec_lt 7 x.port) [
        | yes p ↦ picked _ _ _ (lt-ltb _ _ p) ∙ sym (picked _ _ _ (lt-ltb _ _ p))
        | no p ↦
            let q = le-ltb 7 x.port (omega arith) in
            passed _ _ _ q
            ∙ below_pass (choose_on m w) (back_on m w) j x j x d h (omega arith)
            (λ i hi ji. same_back m i (pass j x d) hi ∙ shift m i j x d hi ji (omega arith))
            ∙ sym (passed _ _ _ q)
      ]
      ∙ sym (passed _ _ _ past)
