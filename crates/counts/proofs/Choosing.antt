-- The choice from the kept arrays is the choice of the definition: the turn read from them is the turn of the interconnect,
-- something waits under its port, so that it carries an accelerator, or an interconnect with something waiting inside.
use Prim.Native.Nat.{ℕ, zero, suc, ◌+◌, ◌-◌, ◌≤◌, ◌<◌, min}
use mathlib.Core.Bool.{Bool, true, false, ◌||◌}
use mathlib.Core.List.{List, [], ◌∷◌, ◌++◌, append_assoc, append-nil}
use mathlib.Core.Path.{◌≡◌, refl, sym, ◌∙◌, ap, ap₂, subst, subst₂}
use native.Mathlib.Omega.{arith}
use lib.ListN.{get_or, set}
use lib.Dec.{ltb, eqb}
use borrow.Author.Tests.{lt-ltb, le-ltb, ltb-false, eqb-false, ne_eqb}
use Rattle.model.specs.declared.Tree.{Tree}
use Rattle.model.specs.declared.State.{State}
use Rattle.model.specs.declared.PortCell.{PortCell}
use Rattle.model.specs.declared.Port.{Port}
use Rattle.folds.specs.Fold.{pick}
use Rattle.model.specs.Tree.{Crossing, empty_cell, port_of, granularity_of, above, path, level_of, waiting_of, last_of, allowance_of}
use Rattle.model.specs.Beneath.{under, inside}
use Rattle.folds.proofs.Folds.{picked, passed, clash}
use Rattle.rules.specs.Rules.{keeps}
use Rattle.rules.proofs.Sound.{Sound, Kept, sound_of, kept_of, above_root}
use Rattle.rules.proofs.Beneath.{only, lane, at_port, child_level, child_lane, settled}
use Rattle.turns.specs.declared.Turn.{Turn}
use Rattle.turns.specs.Turns.{live_set, next_port, goes_on, turn_port, turn_allowance, reached, who, turned, after}
use Rattle.turns.proofs.Descent as Descent
use Rattle.turns.proofs.Steps.{who_step, after_step}
use Rattle.counts.specs.declared.Table.{Table}
use Rattle.counts.specs.declared.Ports.{Ports}
use Rattle.counts.specs.Table.{port_number, carried_at}
use Rattle.counts.specs.Counts.{lower, close_port}
use Rattle.counts.specs.Choice.{count_at, port_on, turn_at, pass, Choice, choice, below_on, choose_on}
use Rattle.counts.proofs.Entries.{TableOf}
use Rattle.counts.proofs.Counted.{Counted, counted_less}
use Rattle.counts.proofs.Changed.{numbers, numbers_more, lowered, closed, lowered_more, closed_more}
use Rattle.counts.proofs.Backward.{passed_on, turn_carries, back_on, back_step, same_back}

neither : (a b : Bool) → (a || b) ≡ false → (a ≡ false) × (b ≡ false)
neither true b e = clash cc
neither false b e = (refl, e)

-- levels are left, and the interconnect is one of the fifteen
pub within : (m j : ℕ) → (eqb m 0 || ltb 14 j) ≡ false → (0 < m) × (j < 15)
within m j e =
    let h = neither _ _ e in
    let d = eqb-false m 0 h.0 in
    (omega arith, omega (arith, ltb-false 14 j h.1))

-- the steps of the choice on any arrays
module _ (w : Table) (d : Ports) where
  pub on_none : (m j : ℕ) → (eqb m 0 || ltb 14 j) ≡ true → choice 255 d ≡ choose_on m w j d
  unfolding choose_on
  on_none zero j e = refl
  on_none (suc m) j e = sym (picked _ _ _ (sym (ap (λ (b : Bool). b || ltb 14 j) (ne_eqb (suc m) 0 (λ i. omega arith))) ∙ e))

  on_portless : (m j : ℕ) → 0 < m → j < 15 → 7 < (turn_at w d j).port → choice 255 d ≡ choose_on m w j d
  unfolding choose_on
  on_portless zero j z h b = absurd (omega arith)
  on_portless (suc m) j z h b = sym (passed _ _ _ (le-ltb 14 j (omega arith)) ∙ picked _ _ _ (lt-ltb _ _ b))

  -- one transaction has passed in this turn; the choice goes on by what its port carries
  pub on_step : (m j : ℕ) → 0 < m → j < 15 → (turn_at w d j).port < 8
      → choose_on m w j d ≡ below_on (choose_on (m - 1) w) (turn_carries w j (turn_at w d j)) (pass j (turn_at w d j) d)
  unfolding choose_on
  on_step zero j z h b = absurd (omega arith)
  on_step (suc m) j z h b =
      let x = turn_at w d j in
      let e : m ≡ suc m - 1 = omega arith in
      passed _ _ _ (le-ltb 14 j (omega arith)) ∙ passed _ _ _ (le-ltb 7 x.port (omega arith))
      ∙ ap (λ (i : ℕ). below_on (choose_on i w) (turn_carries w j x) (pass j x d)) e

  -- the turn x is read from the arrays
  module _ (m j : ℕ) (h : (0 < m) × (j < 15)) (x : Turn) (e : x ≡ turn_at w d j) where
    pub stored_portless : 7 < x.port → choice 255 d ≡ choose_on m w j d
    stored_portless b = on_portless m j h.0 h.1 (subst (λ (z : Turn). 7 < z.port) e b)

    pub stored_goes : x.port ≤ 7 → (y : PortCell) → y ≡ get_or w.carried (port_number j x.port) empty_cell → (b : Ports) → b ≡ pass j x d → (P : Port) → y.port ≡ P
        → below_on (choose_on (m - 1) w) P b ≡ choose_on m w j d
    stored_goes l y f b s P q =
        ap₂ (below_on (choose_on (m - 1) w)) (sym q ∙ ap (λ (c : PortCell). c.port) f) s
        ∙ ap (λ (z : Turn). below_on (choose_on (m - 1) w) (turn_carries w j z) (pass j z d)) e
        ∙ sym (on_step m j h.0 h.1 (subst (λ (z : Turn). z.port < 8) e (omega arith)))

-- d is what a run keeps at state s of configuration t, which keep their rules, and w is the configuration's table
pub record Matches (t : Tree) (s : State) (w : Table) (d : Ports) : Type 0 where
  pub rules : keeps t s ≡ true
  pub table : TableOf t w
  pub counts : Counted t (waiting_of s) d.under d.live
  pub last : d.last ≡ s.last
  pub allowance : d.allowance ≡ s.allowance

-- from interconnect j, over at most n levels, the choice of the definitions comes to c
pub record Chosen (t : Tree) (s : State) (n j : ℕ) (c : Choice) : Type 0 where
  pub served : c.served ≡ who n t s j
  pub last : c.ports.last ≡ (after n t s j).last
  pub allowance : c.ports.allowance ≡ (after n t s j).allowance

-- z and x are the turn of interconnect j and what its port carries
record Read (t : Tree) (s : State) (j : ℕ) (z : Turn) (x : Port) : Type 0 where
  port : z.port ≡ turn_port t s j
  allowance : z.allowance ≡ turn_allowance t s j
  carried : x ≡ port_of t j (turn_port t s j)

-- the turn of interconnect j is taken in what the way down has left
taken : (t : Tree) (s : State) (m j : ℕ) (z : Turn) (x : Port) (c : Choice) → 0 < m → Read t s j z x
    → c.served ≡ reached (who (m - 1) t s) (port_of t j (turn_port t s j))
    → c.ports.last ≡ (turned s (after (m - 1) t s) (port_of t j (turn_port t s j))).last
    → c.ports.allowance ≡ (turned s (after (m - 1) t s) (port_of t j (turn_port t s j))).allowance
    → Chosen t s m j (passed_on j z c)
taken t s m j z x c b R q e f =
    let d : m ≡ 0 → ⊥ = λ i. omega arith in
    record {
      served = q ∙ who_step m t s j d;
      last = ap₂ (λ (k : List ℕ) (i : ℕ). set k j i) e R.port ∙ ap (λ (k : State). k.last) (after_step m t s j d);
      allowance = ap₂ (λ (k : List ℕ) (i : ℕ). set k j (i - 1)) f R.allowance ∙ ap (λ (k : State). k.allowance) (after_step m t s j d);
    }

module _ (t : Tree) (s : State) (w : Table) (d : Ports) (M : Matches t s w d) where
  S : Sound t
  S = sound_of t s M.rules

  K : Kept t s
  K = kept_of t s M.rules

  module _ (j : ℕ) (h : j < t.ints) (i : 0 < inside 4 t (waiting_of s) j) where
    T : Descent.Turn t s j
    T = Descent.turn t S s K j h i

    lj : j < 15
    lj = omega (arith, S.most_ints)

    last_same : get_or d.last j 0 ≡ last_of s j
    last_same = ap (λ (x : List ℕ). get_or x j 0) M.last

    allowance_same : get_or d.allowance j 0 ≡ allowance_of s j
    allowance_same = ap (λ (x : List ℕ). get_or x j 0) M.allowance

    next_same : next_port (get_or d.live j 0) (get_or d.last j 0) ≡ next_port (live_set t s j) (last_of s j)
    next_same = ap₂ next_port (M.counts.live j h) last_same

    port_from : (turn_at w d j).port ≡ turn_port t s j
    unfolding turn_port
    port_from =
        ap (port_on (get_or d.live j 0) (get_or d.last j 0)) allowance_same
        ∙ ap₂ (λ (x y : ℕ). pick (goes_on s j) x y) last_same next_same

    granularity_same : min 255 (get_or w.granularity j 0) ≡ granularity_of t j
    granularity_same = omega (arith, M.table.granularity j lj, (S.granularity j h).1)

    -- the allowance of the turn, were its port p
    abbrev allowance_by : ℕ → ℕ
    allowance_by p = pick (ltb 0 (get_or d.allowance j 0)) (get_or d.allowance j 0) (min (min 255 (get_or w.granularity j 0)) (count_at d.under j p))

    allowance_from : allowance_by (turn_port t s j) ≡ turn_allowance t s j
    unfolding turn_allowance
    allowance_from =
        ap (λ (a : ℕ). pick (ltb 0 a) a (min (min 255 (get_or w.granularity j 0)) (count_at d.under j (turn_port t s j)))) allowance_same
        ∙ ap₂ (λ (x y : ℕ). pick (goes_on s j) (allowance_of s j) (min x y)) granularity_same
        (passed _ _ _ (le-ltb 7 (turn_port t s j) (omega (arith, T.port))) ∙ M.counts.count j (turn_port t s j) h T.port)

    port_known : (turn_at w d j).port < 8
    port_known = omega (arith, port_from, T.port)

    read : Read t s j (turn_at w d j) (turn_carries w j (turn_at w d j))
    read = record {
      port = port_from;
      allowance = ap allowance_by port_from ∙ allowance_from;
      carried = ap (λ (p : ℕ). carried_at w (port_number j p)) port_from ∙ M.table.carried j (turn_port t s j) lj T.port;
    }

  -- the choice on a run's arrays is the choice of the definition, from any interconnect with something waiting inside
  abbrev ChosenFrom : ℕ → ℕ → Type 0
  ChosenFrom m j = j < t.ints → 0 < inside 4 t (waiting_of s) j → Chosen t s m j (back_on m w j d)

  step : (m j : ℕ) → 0 < m → ((k : ℕ) → ChosenFrom (m - 1) k) → ChosenFrom m j
  step m j z F h k =
      let R = read j h k in
      let x = turn_at w d j in
      let f : ℕ → Ports → Choice = back_on (m - 1) w in
      let C : Chosen t s m j (passed_on j x (below_on f (turn_carries w j x) d)) =
      subst (λ (P : Port). Chosen t s m j (passed_on j x (below_on f P d))) (sym R.carried)
      (at_port t S Q j (turn_port t s j) h (T j h k).port
      (λ c b. absurd (omega arith))
      (λ a la _ _ c b. taken t s m j x _ (choice a d) z R (ap (reached (who (m - 1) t s)) c) (M.last ∙ ap (λ (P : Port). (turned s (after (m - 1) t s) P).last) c)
      (M.allowance ∙ ap (λ (P : Port). (turned s (after (m - 1) t s) P).allowance) c))
      (λ i iz li e _ c b.
      let N = F i li (omega (arith, settled t S 3 (waiting_of s) i li (omega (arith, child_level t S i j iz li e)))) in
      taken t s m j x _ (f i d) z R (N.served ∙ ap (reached (who (m - 1) t s)) c) (N.last ∙ ap (λ (P : Port). (turned s (after (m - 1) t s) P).last) c)
      (N.allowance ∙ ap (λ (P : Port). (turned s (after (m - 1) t s) P).allowance) c))
      refl (omega (arith, (T j h k).some, (T j h k).covered))) in
      subst (Chosen t s m j) (back_step w m j d z (lj j h k) (port_known j h k)) C
    where
      Q : Port → Type 0
      Q P = P ≡ port_of t j (turn_port t s j) → 0 < under (waiting_of s) (inside 3 t (waiting_of s)) P
          → Chosen t s m j (passed_on j (turn_at w d j) (below_on (back_on (m - 1) w) P d))

  comes_back : (m j : ℕ) → ChosenFrom m j
  unfolding back_on who after
  comes_back zero j h k = record { served = refl; last = M.last; allowance = M.allowance }
  comes_back (suc m) j h k =
      let e : suc m - 1 ≡ m = omega arith in
      step (suc m) j (omega arith) (subst (λ (i : ℕ). (k : ℕ) → ChosenFrom i k) (sym e) (comes_back m)) h k

  pub chooses : (m j : ℕ) → j < t.ints → 0 < inside 4 t (waiting_of s) j → Chosen t s m j (choose_on m w j d)
  chooses m j h k = subst (Chosen t s m j) (sym (same_back t S w M.table m j d h)) (comes_back m j h k)

  -- e is what is kept once one transaction has passed the crossings of accelerator a but for those above, from its own on
  record Way (above : List Crossing) (a : ℕ) (e : Ports) : Type 0 where
    crossings : List Crossing
    path_is : crossings ++ above ≡ path t a
    under_is : e.under ≡ lowered (numbers crossings) d.under
    live_is : e.live ≡ closed (numbers crossings) d.under d.live

  way_none : (a : ℕ) → Way (path t a) a d
  unfolding lowered closed
  way_none a = record { crossings = []; path_is = refl; under_is = refl; live_is = refl }

  -- one more
  way_more : (a j : ℕ) (x : Turn) (e : Ports) (q r : List Crossing) → q ≡ record { interconnect = j; port = x.port } ∷ r → Way q a e
      → Way r a (pass j x e)
  way_more a j x e q r i R =
      let c : Crossing = record { interconnect = j; port = x.port } in
      let n = port_number j x.port in
      let l = R.crossings in
      let more = sym (numbers_more l c) in
      record {
        crossings = l ++ c ∷ [];
        path_is = append_assoc l (c ∷ []) r ∙ ap (λ (y : List Crossing). l ++ y) (sym i) ∙ R.path_is;
        under_is = ap (lower n) R.under_is ∙ sym (lowered_more (numbers l) n d.under) ∙ ap (λ (y : List ℕ). lowered y d.under) more;
        live_is =
            ap₂ (λ (u v : List ℕ). close_port n (get_or u n 0 - 1) v) R.under_is R.live_is
            ∙ sym (closed_more (numbers l) n d.under d.live) ∙ ap (λ (y : List ℕ). closed y d.under d.live) more;
      }

  -- from any interconnect with something waiting inside, over enough levels
  abbrev WayFrom : ℕ → ℕ → Type 0
  WayFrom m j = j < t.ints → 5 ≤ m + level_of t j → 0 < inside 4 t (waiting_of s) j → Way (above 15 t j) (who m t s j) (back_on m w j d).ports

  -- a port leads to its accelerator, or to an interconnect from which the way goes on
  module _ (m j : ℕ) (h : j < t.ints) (k : 0 < inside 4 t (waiting_of s) j) where
    abbrev x : Turn
    x = turn_at w d j

    abbrev y : Port
    y = turn_carries w j x

    abbrev f : ℕ → Ports → Choice
    f = back_on (m - 1) w

    abbrev WayTo : ℕ → Choice → Type 0
    WayTo a c = Way (above 15 t j) a (pass j x c.ports)

    to_port : ((i : ℕ) → WayFrom (m - 1) i) → 5 ≤ m + level_of t j → WayTo (reached (who (m - 1) t s) (port_of t j (turn_port t s j))) (below_on f y d)
    to_port F q =
        subst (λ (P : Port). WayTo (reached (who (m - 1) t s) (port_of t j (turn_port t s j))) (below_on f P d)) (sym (read j h k).carried)
        (at_port t S Q j (turn_port t s j) h (T j h k).port (λ b. absurd (omega arith))
        (λ a la e g b. way_more a j x d (path t a) (above 15 t j) (ap₂ (lane t) e (g ∙ sym (read j h k).port)) (way_none a))
        (λ i z li e g b.
        let v = child_level t S i j z li e in
        way_more _ j x (f i d).ports (above 15 t i) (above 15 t j) (child_lane t S i j x.port z li e (g ∙ sym (read j h k).port))
        (F i li (omega arith) (omega (arith, settled t S 3 (waiting_of s) i li (omega arith)))))
        (omega (arith, (T j h k).some, (T j h k).covered)))
      where
        Q : Port → Type 0
        Q P = 0 < under (waiting_of s) (inside 3 t (waiting_of s)) P → WayTo (reached (who (m - 1) t s) P) (below_on f P d)

  way_step : (m j : ℕ) → 0 < m → ((i : ℕ) → WayFrom (m - 1) i) → WayFrom m j
  way_step m j z F h q k =
      subst₂ (λ (a : ℕ) (c : Choice). Way (above 15 t j) a c.ports) (who_step m t s j (λ e. omega arith))
      (back_step w m j d z (lj j h k) (port_known j h k)) (to_port m j h k F q)

  way : (m j : ℕ) → WayFrom m j
  way zero j h q k = absurd (omega (arith, S.level j h))
  way (suc m) j h q k =
      let e : suc m - 1 ≡ m = omega arith in
      way_step (suc m) j (omega arith) (subst (λ (i : ℕ). (k : ℕ) → WayFrom i k) (sym e) (way m)) h q k

  -- one transaction has passed the whole path of the accelerator that is served
  pub passes : 0 < inside 4 t (waiting_of s) 0 → (r : ℕ → ℕ) → ((b : ℕ) → waiting_of s b ≡ r b + only (who 4 t s 0) b) → who 4 t s 0 < t.accs
      → Counted t r (choose_on 4 w 0 d).ports.under (choose_on 4 w 0 d).ports.live
  passes k r e l =
      let a = who 4 t s 0 in
      let R = way 4 0 S.some_ints (omega arith) k in
      let all : R.crossings ≡ path t a = sym (append-nil R.crossings) ∙ ap (λ (q : List Crossing). R.crossings ++ q) (sym (above_root t S)) ∙ R.path_is in
      let c = (back_on 4 w 0 d).ports in
      subst (λ (c : Choice). Counted t r c.ports.under c.ports.live) (sym (same_back t S w M.table 4 0 d S.some_ints))
      (subst₂ (Counted t r) (sym (R.under_is ∙ ap (λ (q : List Crossing). lowered (numbers q) d.under) all))
      (sym (R.live_is ∙ ap (λ (q : List Crossing). closed (numbers q) d.under d.live) all))
      (counted_less t S a l (waiting_of s) r e d.under d.live M.counts))
