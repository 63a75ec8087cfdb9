-- "Reading the written text must give the same tree, and two accepted texts of one tree give the same written bytes". The written text
-- writes its tree, since each accelerator stands once in the order of the ports. That order is the only one that rises by place: of two
-- rising lists with the same numbers the first ones are equal, and so on.
use Prim.Native.Nat.{ℕ, zero, suc, ◌+◌, ◌*◌, ◌≤◌, ◌<◌}
use mathlib.Core.Bool.{Bool, true, ◌&&◌, ◌||◌}
use mathlib.Core.List.{List, [], ◌∷◌, ◌++◌, map}
use mathlib.Core.Logic.{◌↔◌}
use mathlib.Core.Path.{◌≡◌, refl, sym, ◌∙◌, ap, ap₂, subst}
use native.Mathlib.Decide.{dec_lt, ℕ_discrete}
use native.Mathlib.Omega.{arith}
use lib.Dec.{eqb, ltb}
use borrow.Author.Tests.{lt-ltb, le-ltb, eq-eqb, ne_eqb, ltb-true, eqb-true}
use Rattle.text.specs.Text.{lines, unended}
use Rattle.text.specs.Write.{rows, file_text}
use Rattle.model.specs.declared.Tree.{Tree}
use Rattle.folds.specs.Fold.{pick}
use Rattle.folds.proofs.Folds.{both, joined, picked, passed}
use Rattle.model.specs.Tree.{port_of, home_of, home_port_of}
use Rattle.rules.specs.Rules.{tree_keeps}
use Rattle.rules.proofs.Sound.{Sound, sound}
use Rattle.rules.proofs.Beneath.{only, only_same, only_other, at_port}
use Rattle.lines.specs.Answer.{Accepted}
use Rattle.placing.specs.Placing.{TreeRead, given}
use Rattle.reader.specs.TreeFile.{read_tree}
use Rattle.put.specs.Page.{joined as gathered}
use Rattle.writer.specs.Lines.{bus_short, bus_text, int_text, acc_text}
use Rattle.writer.specs.Writer.{carried_by, carried_in, port_order, written_text, times}
use Rattle.writer.proofs.Order.{order_once}
use Rattle.accepts.specs.TreeText.{WritesBus, with_delay, without_delay, Writes}
use Rattle.accepts.specs.RoundTrip.{before, by_place, WritesOnly, rewritten}
use Rattle.accepts.proofs.Kept.{accepted_keeps}
use Rattle.accepts.proofs.Order.{Reordered, any_order}
use Rattle.accepts.proofs.Complete.{text_bus}
use Rattle.accepts.proofs.Exactly.{exactly_written}

-- the numbers of a list rise by f, from n on and below m
data Rising (f : ℕ → ℕ) : ℕ → ℕ → List ℕ → Type 0 where
  rise_none : {n m : ℕ} → n ≤ m → Rising f n m []
  rise_more : {n m x : ℕ} {xs : List ℕ} → n ≤ f x → Rising f (suc (f x)) m xs → Rising f n m (x ∷ xs)

rise_lower : {f : ℕ → ℕ} {n m k : ℕ} {xs : List ℕ} → n ≤ m → Rising f m k xs → Rising f n k xs
rise_lower {n = n} {k = k} h (rise_none l) = rise_none {n = n} {m = k} (omega arith)
rise_lower {f} {n = n} h (rise_more {x = x} l R) = rise_more {n = n} {x = x} (omega arith) R

rise_then : {f : ℕ → ℕ} {n m k : ℕ} {xs ys : List ℕ} → Rising f n m xs → Rising f m k ys → Rising f n k (xs ++ ys)
rise_then (rise_none h) Q = rise_lower h Q
rise_then (rise_more h R) Q = rise_more h (rise_then R Q)

-- what lies below does not stand in it
absent : {f : ℕ → ℕ} {n m : ℕ} {xs : List ℕ} → Rising f n m xs → (a : ℕ) → f a < n → times a xs ≡ 0
unfolding times
absent (rise_none h) a l = refl
absent {f} (rise_more {x = x} h R) a l =
    let d : a ≡ x → ⊥ = λ e. let q = ap f e in omega arith in
    omega (arith, only_other a x d, absent R a (omega arith))

-- one order rises
one_order : {f : ℕ → ℕ} {n m i k : ℕ} (xs ys : List ℕ) → Rising f n m xs → Rising f i k ys
    → ((a : ℕ) → times a xs ≡ times a ys) → xs ≡ ys
unfolding times
one_order [] [] R Q h = refl
one_order [] (y ∷ ys) R Q h = absurd (omega (arith, h y, only_same y y refl))
one_order (x ∷ xs) [] R Q h = absurd (omega (arith, h x, only_same x x refl))
one_order {f} (x ∷ xs) (y ∷ ys) (rise_more l R) (rise_more k Q) h = elim (ℕ_discrete x y) [
  | yes e ↦ ap₂ ◌∷◌ e (one_order xs ys R Q (λ a. let q = ap (only a) e in omega (arith, h a)))
  | no d ↦ elim (dec_lt (f x) (suc (f y))) [
    | yes b ↦ absurd (omega (arith, h x, only_same x x refl, only_other x y d, absent Q x b))
    | no b ↦ absurd (omega (arith, h y, only_same y y refl, only_other y x (λ e. d (sym e)), absent R y (omega arith)))
  ]
]

-- the place of an accelerator, counted over the ports of all interconnects
place : Tree → ℕ → ℕ
place t a = home_of t a * 8 + home_port_of t a

module _ (t : Tree) (S : Sound t) where
  port_rising : (j p : ℕ) → j < t.ints → p < 8 → Rising (place t) (j * 8 + p) (j * 8 + suc p) (carried_by (port_of t j p))
  unfolding place
  port_rising j p h k =
      at_port t S (λ x. Rising (place t) (j * 8 + p) (j * 8 + suc p) (carried_by x)) j p h k
      (rise_none (omega arith))
      (λ a _ f g. let q = ap₂ (λ i r. i * 8 + r) f g in rise_more {x = a} (omega arith) (rise_none (omega arith)))
      (λ _ _ _ _ _. rise_none (omega arith))

  ports_rising : (j p : ℕ) → j < t.ints → p ≤ 8 → Rising (place t) (j * 8) (j * 8 + p) (gathered p (λ i. carried_by (port_of t j i)))
  unfolding gathered
  ports_rising j zero h k = rise_none {n = j * 8} {m = j * 8 + 0} (omega arith)
  ports_rising j (suc p) h k = rise_then (ports_rising j p h (omega arith)) (port_rising j p h k)

  order_rising : (n : ℕ) → n ≤ t.ints → Rising (place t) 0 (n * 8) (gathered n (carried_in t))
  unfolding gathered
  order_rising zero h = rise_none {n = 0} {m = 0} (omega arith)
  order_rising (suc n) h =
      let q : n * 8 + 8 ≡ suc n * 8 = omega arith in
      rise_then (order_rising n (omega arith)) (subst (λ (m : ℕ). Rising (place t) (n * 8) m (carried_in t n)) q (ports_rising n 8 h (omega arith)))

  -- a comes before b on the same interconnect
  abbrev port_before : ℕ → ℕ → Bool
  port_before a b = eqb (home_of t a) (home_of t b) && ltb (home_port_of t a) (home_port_of t b)

  -- by place, in the words of the definition and as a number
  before_place : (a b : ℕ) → home_port_of t a < 8 → home_port_of t b < 8 → before t a b ≡ true → place t a < place t b
  unfolding place
  before_place a b h k e = elim (dec_lt (home_of t a) (home_of t b)) [
    | yes l ↦ omega arith
    | no l ↦
        let r = sym (ap (λ (x : Bool). x || port_before a b) (le-ltb (home_of t a) (home_of t b) (omega arith))) ∙ e in
        let c = both (eqb (home_of t a) (home_of t b)) (ltb (home_port_of t a) (home_port_of t b)) r in
        omega (arith, eqb-true (home_of t a) (home_of t b) c.0, ltb-true (home_port_of t a) (home_port_of t b) c.1)
  ]

  place_before_lem : (a b : ℕ) → home_port_of t a < 8 → home_port_of t b < 8 → place t a < place t b → before t a b ≡ true
  unfolding place
  place_before_lem a b h k l = elim (dec_lt (home_of t a) (home_of t b)) [
    | yes m ↦ ap (λ (x : Bool). x || port_before a b) (lt-ltb (home_of t a) (home_of t b) m)
    | no m ↦ ap (λ (x : Bool). x || port_before a b) (le-ltb (home_of t a) (home_of t b) (omega arith))
        ∙ joined _ _ (eq-eqb (home_of t a) (home_of t b) (omega arith)) (lt-ltb (home_port_of t a) (home_port_of t b) (omega arith))
  ]

  -- the ports of a list's accelerators
  OnPorts : List ℕ → Type 0
  OnPorts l = (a : ℕ) → 0 < times a l → home_port_of t a < 8

  first_port : (a : ℕ) (l : List ℕ) → OnPorts (a ∷ l) → home_port_of t a < 8
  unfolding OnPorts times
  first_port a l P = P a (omega (arith, only_same a a refl))

  other_ports : (a : ℕ) (l : List ℕ) → OnPorts (a ∷ l) → OnPorts l
  unfolding OnPorts times
  other_ports a l P b h = P b (omega arith)

  -- a list that stands by place rises
  places_rise : (a : ℕ) (l : List ℕ) → OnPorts (a ∷ l) → by_place t (a ∷ l) ≡ true → (n : ℕ) → n ≤ place t a
      → (m : ℕ) × Rising (place t) n m (a ∷ l)
  unfolding by_place
  places_rise a [] P e n h = (suc (place t a), rise_more h (rise_none {n = suc (place t a)} {m = suc (place t a)} (omega arith)))
  places_rise a (b ∷ l) P e n h =
      let c = both (before t a b) (by_place t (b ∷ l)) e in
      let Q = other_ports a (b ∷ l) P in
      let q = before_place a b (first_port a (b ∷ l) P) (first_port b l Q) c.0 in
      let r = places_rise b l Q c.1 (suc (place t a)) q in
      (r.0, rise_more h r.1)

  rise_places : (l : List ℕ) → OnPorts l → (n m : ℕ) → Rising (place t) n m l → by_place t l ≡ true
  unfolding by_place
  rise_places [] P n m R = refl
  rise_places (a ∷ []) P n m R = refl
  rise_places (a ∷ (b ∷ l)) P n m (rise_more h (rise_more k R)) =
      let Q = other_ports a (b ∷ l) P in
      joined _ _ (place_before_lem a b (first_port a (b ∷ l) P) (first_port b l Q) (omega arith)) (rise_places (b ∷ l) Q (suc (place t a)) m (rise_more k R))

  -- numbers that each stand once are those of accelerators
  on_ports : (l : List ℕ) → ((a : ℕ) → times a l ≡ pick (ltb a t.accs) 1 0) → OnPorts l
  unfolding OnPorts
  on_ports l o a h = elim (dec_lt a t.accs) [
    | yes k ↦ S.home_port a k
    | no k ↦ absurd (omega (arith, o a, passed {A = ℕ} (ltb a t.accs) 1 0 (le-ltb a t.accs (omega arith))))
  ]

  -- so the order of the ports is the only one by place
  pub order_by_place : by_place t (port_order t) ≡ true
  order_by_place = rise_places (port_order t) (on_ports (port_order t) (order_once t S)) 0 (t.ints * 8) (order_rising t.ints (omega arith))

  pub only_order : (l : List ℕ) → ((a : ℕ) → times a l ≡ pick (ltb a t.accs) 1 0) → by_place t l ≡ true → l ≡ port_order t
  unfolding times
  only_order [] o e = absurd (omega (arith, o 0, picked {A = ℕ} (ltb 0 t.accs) 1 0 (lt-ltb 0 t.accs S.some_accs)))
  only_order (a ∷ l) o e =
      let r = places_rise a l (on_ports (a ∷ l) o) e 0 (omega arith) in
      one_order (a ∷ l) (port_order t) r.1 (order_rising t.ints (omega arith)) (λ b. o b ∙ sym (order_once t S b))

module _ (t : Tree) (e : tree_keeps t ≡ true) where
  -- the written text writes the tree
  pub text_writes : Writes (written_text t) t
  unfolding written_text
  text_writes = record { bus = bus_text t; writes_bus = text_bus t; order = port_order t; once = order_once t (sound t e); text = refl }

  -- "Reading the written text must give the same tree"
  pub round_trip : read_tree (written_text t) ≡ given t
  round_trip = (exactly_written (written_text t) t).1 (e, text_writes)

  own_bus : (l : List ℕ) → WritesBus t.bus l → (t.bus.delay ≡ 0 → l ≡ bus_short t.bus) → l ≡ bus_text t
  own_bus l W s = elim (ℕ_discrete t.bus.delay 0) [
    | yes z ↦ s z ∙ sym (picked _ _ _ (eq-eqb _ _ z))
    | no d ↦ whole d W
  ]
    where
      whole : (t.bus.delay ≡ 0 → ⊥) → WritesBus t.bus l → l ≡ bus_text t
      whole d (with_delay q) = q ∙ sym (passed _ _ _ (ne_eqb _ _ d))
      whole d (without_delay z q) = absurd (d z)

  -- it is the only text of the tree with its acc lines in this order and without a return delay of 0
  only_text : (s : List ℕ) → WritesOnly s t → s ≡ written_text t
  unfolding written_text
  only_text s W =
      let X = W.writes in
      X.text
      ∙ ap₂ (λ (bus order : List ℕ). file_text (bus ∷ (rows t.ints 0 (int_text t) ++ map (acc_text t) order)))
      (own_bus X.bus X.writes_bus W.short) (only_order t (sound t e) X.order X.once W.order)

  pub exactly_only : (s : List ℕ) → WritesOnly s t ↔ (s ≡ written_text t)
  unfolding text_writes
  exactly_only s = (
    only_text s,
    λ q. subst (λ (r : List ℕ). WritesOnly r t) (sym q)
        (record { writes = text_writes; order = order_by_place t (sound t e); short = λ z. picked _ _ _ (eq-eqb _ _ z) }),
  )

-- an accepted file and its tree
pub accepted_given : (s : List ℕ) → (read_tree s).answer ≡ Accepted → read_tree s ≡ given (read_tree s).tree
accepted_given s e = λ i. record { answer = e i; tree = (read_tree s).tree }

-- a file that is accepted is read as the same tree after it was written back
pub rewritten_read : (s : List ℕ) → (read_tree s).answer ≡ Accepted → read_tree (rewritten s) ≡ read_tree s
rewritten_read s e = round_trip (read_tree s).tree (accepted_keeps s e) ∙ sym (accepted_given s e)

-- "two accepted texts of one tree give the same written bytes", and two that give the same bytes are of one tree
pub one_text : (s r : List ℕ) → (read_tree s).answer ≡ Accepted → (read_tree r).answer ≡ Accepted
    → ((read_tree s).tree ≡ (read_tree r).tree) ↔ (rewritten s ≡ rewritten r)
one_text s r e f = (
  λ q. ap written_text q,
  λ q. ap (λ (x : TreeRead). x.tree) (sym (rewritten_read s e) ∙ ap read_tree q ∙ rewritten_read r f),
)

-- so also where only acc lines change places
pub reordered_text : (s r : List ℕ) → Reordered (lines s) (lines r) → unended r ≡ unended s → (read_tree s).answer ≡ Accepted
    → rewritten r ≡ rewritten s
reordered_text s r o u e = ap (λ (x : TreeRead). written_text x.tree) (any_order s r o u e)

-- writing back what was written back changes nothing
pub written_again : (s : List ℕ) → (read_tree s).answer ≡ Accepted → rewritten (rewritten s) ≡ rewritten s
written_again s e = ap (λ (x : TreeRead). written_text x.tree) (rewritten_read s e)
