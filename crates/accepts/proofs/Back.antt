-- "A file [is accepted] as exactly the tree that it writes": the lines of an accepted file are those of the tree that it gives.
-- Each accepted line stores what it writes (`Stands`), no later line changes it (`Keeps`), so the tree given at the end has it,
-- and the line is a line of that tree. By cases along the tests, and by induction on the lines.
use Prim.Native.Nat.{ℕ, suc, ◌+◌, ◌-◌, ◌≤◌, ◌<◌}
use mathlib.Core.Bool.{Bool, true, false, ◌&&◌, not}
use mathlib.Core.List.{List, [], ◌∷◌, ◌++◌, map}
use mathlib.Core.Path.{◌≡◌, refl, sym, ◌∙◌, ap, ap₂, subst}
use native.Mathlib.Decide.{dec_lt, ℕ_discrete}
use native.Mathlib.Numerals.{add-one}
use native.Mathlib.Omega.{arith}
use lib.Dec.{ltb, leb, eqb, lit<}
use lib.ListN.{length, get_or}
use borrow.Author.Tests.{lt-ltb, le-ltb, eq-eqb, ne_eqb, ltb-true, eqb-true, ltb-false, leb-false, not-false, not-true}
use Rattle.text.specs.Text.{lines, unended}
use Rattle.text.specs.Write.{decimal_text, dash, field_text, numbers, rows, line_text, file_text}
use Rattle.text.proofs.Back.{file_back, nothing}
use Rattle.model.specs.declared.Tree.{Tree}
use Rattle.model.specs.declared.Bus.{Bus}
use Rattle.model.specs.declared.Interconnect.{Interconnect}
use Rattle.model.specs.declared.Accelerator.{Accelerator}
use Rattle.model.specs.declared.Port.TheVariants.{Empty, Acc}
use Rattle.model.specs.declared.Refusal.{Refusal}
use Rattle.model.specs.declared.Refusal.TheVariants.{Order, Shape, Limit, Taken, Level}
use Rattle.folds.specs.Fold.{pick, all}
use Rattle.model.specs.Tree.{no_accelerator, accelerator_of, port_of, granularity_of, parent_of, parent_port_of, phi_of, level_of}
use Rattle.rules.specs.Rules.{is_empty, bus_keeps, tree_keeps}
use Rattle.rules.proofs.Sound.{sound}
use Rattle.rules.proofs.Beneath.{only, only_same, only_other}
use Rattle.folds.proofs.Folds.{picked, passed, both, tests}
use Rattle.lines.specs.Answer.{Accepted}
use Rattle.lines.specs.declared.Kind.{Kind}
use Rattle.lines.specs.declared.Kind.TheVariants.{NoRecord, BusLine, IntLine, AccLine, OfferLine, Bus3Line}
use Rattle.lines.specs.declared.Line.{Line}
use Rattle.lines.specs.Lines.{bus_kind, form_of, name_of, no_dashes, line_of, value_at, dash_at, in_tree, shaped, limits_kept}
use Rattle.lines.proofs.Limits.{least, most}
use Rattle.lines.proofs.Back.{field_at, absent_zero, shape_count, shape_exact, line_written, numbers_written, no_dash_at}
use Rattle.model.specs.Builders.{with_bus}
use Rattle.records.specs.Records.{empty_tree, bus_of, with_root, with_child, acc_of, with_acc}
use Rattle.placing.specs.Placing.{TreeRead, refused_at, given, int_in_order, bus_line, child_line, int_line, complete, finish, record_line, tree_line}
use Rattle.placing.proofs.Tests.{bus_record, line_record, int_root, int_child, child_given}
use Rattle.reader.specs.TreeFile.{onward, read_lines, read_tree}
use Rattle.reader.proofs.Files.{tree_size, tree_start}
use Rattle.writer.specs.Lines.{bus_whole, bus_short, root_written, child_written, acc_written}
use Rattle.accepts.specs.TreeText.{WritesBus, with_delay, without_delay}
use Rattle.writer.specs.Lines.{int_text, acc_text}
use Rattle.writer.specs.Writer.{times}
use Rattle.accepts.specs.TreeText.{Writes}
use Rattle.accepts.specs.TreeRefused.{Stands, bus_stands, root_stands, child_stands, acc_stands}
use Rattle.accepts.proofs.Kept.{Partial, accepted_keeps, partial_empty, bus_rules, fine_line, never_refused, is_empty_lem}
use Rattle.accepts.proofs.Kept.{order_start, order_accs, order_number, order_parent, new_here, root_size}
use Rattle.accepts.proofs.Kept.{child_new, child_parent, child_parent_port, child_granularity}
use Rattle.accepts.proofs.Kept.{acc_new, acc_old, home_size, stored_parent, stored_parent_port, stored_granularity}
use Rattle.accepts.proofs.Order.{passed_test, placed, placing, went_on, goes}

module _ (n : ℕ) (u : Tree) (s : List ℕ) (e : (tree_line n u (line_of s)).answer ≡ Accepted) where
  abbrev pub l : Line
  l = line_of s

  line_tests : (in_tree l.kind && shaped l ≡ true) × (limits_kept l.kind l.values ≡ true)
      × ((record_line l.kind n u l).answer ≡ Accepted)
  unfolding tree_line
  line_tests =
      let a = passed_test (not (in_tree l.kind && shaped l)) Shape n _ e in
      let b = passed_test (not (limits_kept l.kind l.values)) Limit n _ a.1 in
      (not-false _ a.0, not-false _ b.0, b.1)

  shape : shaped l ≡ true
  shape = (both (in_tree l.kind) (shaped l) line_tests.0).1

  module _ (k : Kind) (q : l.kind ≡ k) where
    limits : limits_kept k l.values ≡ true
    limits = subst (λ (x : Kind). limits_kept x l.values ≡ true) q line_tests.1

    answer : (record_line k n u l).answer ≡ Accepted
    answer = subst (λ (x : Kind). (record_line x n u l).answer ≡ Accepted) q line_tests.2

    result : tree_line n u l ≡ record_line k n u l
    result = line_record n u l k q line_tests.0 line_tests.1

  abbrev pub Stepped : Type 0
  Stepped = (w : Tree) × (tree_line n u l ≡ given w) × Stands u s w

  -- a bus line of eleven fields has the return delay, one of ten has not; under either name
  module _ (a : Bool) (q : l.kind ≡ bus_kind a) where
    bus_count : (10 ≤ l.count) × (l.count ≤ 11)
    bus_count = go a q where
      go : (a : Bool) → l.kind ≡ bus_kind a → (10 ≤ l.count) × (l.count ≤ 11)
      go true q = shape_count l Bus3Line q shape
      go false q = shape_count l BusLine q shape

    no_dashes_lem : (form_of (bus_kind a)).dashes ≡ no_dashes
    no_dashes_lem = go a where
      go : (a : Bool) → (form_of (bus_kind a)).dashes ≡ no_dashes
      go true = refl
      go false = refl

    bus_written_lem : WritesBus (bus_of a l.values) s
    unfolding rows numbers
    bus_written_lem = elim (ℕ_discrete l.count 11) [
      | yes c ↦ with_delay (whole c)
      | no d ↦ without_delay (omega (arith, absent_zero s 10 (ten d))) (short d)
    ]
      where
        ten : (l.count ≡ 11 → ⊥) → l.count ≤ 10
        ten d = omega (arith, bus_count.1)

        whole : l.count ≡ 11 → s ≡ bus_whole (bus_of a l.values)
        whole c = numbers_written s (bus_kind a) 11 q no_dashes_lem shape c

        short : (l.count ≡ 11 → ⊥) → s ≡ bus_short (bus_of a l.values)
        short d = numbers_written s (bus_kind a) 10 q no_dashes_lem shape (omega (arith, bus_count.0, ten d))

    bus_stepped : Stepped
    unfolding bus_line
    bus_stepped =
        let r = bus_record n u l a in
        let f = passed_test (ltb 0 u.bus.window) Order n _ (sym (ap (λ (x : TreeRead). x.answer) r) ∙ answer (bus_kind a) q) in (
          with_bus u (bus_of a l.values),
          result (bus_kind a) q ∙ r ∙ passed _ _ _ f.0,
          bus_stands (bus_of a l.values) (sym (bus_rules a l.values) ∙ limits (bus_kind a) q)
              (let z = ltb-false 0 u.bus.window f.0 in omega arith) bus_written_lem,
        )

  acc_stepped : l.kind ≡ AccLine → Stepped
  unfolding rows numbers
  acc_stepped q =
      let P = placed n u l q e in (
        with_acc u l.values,
        placing n u l q P,
        acc_stands l.values P.limits P.known P.once P.free
            (numbers_written s AccLine 9 q refl shape (shape_exact l AccLine q shape refl)),
      )

  module _ (q : l.kind ≡ IntLine) (o : int_in_order u l ≡ true) where
    window : 0 < u.bus.window
    window = ltb-true _ _ (both _ (eqb u.accs 0) (both _ (eqb (value_at l 0) u.ints) (order_start u l o).0).0).0

    number_at : (i : ℕ) → dash_at l i ≡ false → field_text (field_at l i) ≡ decimal_text (value_at l i)
    number_at i d = ap field_text (passed _ _ _ d)

    dash_at_lem : (i : ℕ) → dash_at l i ≡ true → field_text (field_at l i) ≡ dash
    dash_at_lem i d = ap field_text (picked _ _ _ d)

    int_line_lem : s ≡ line_text (name_of IntLine) (map field_text (field_at l 0 ∷ field_at l 1 ∷ field_at l 2 ∷ field_at l 3 ∷ []))
    unfolding rows
    int_line_lem = line_written s IntLine 4 q shape (shape_exact l IntLine q shape refl)

    low : (i : ℕ) → i < 4 → get_or (form_of IntLine).lows i 0 ≤ value_at l i
    low = least IntLine l.values (limits IntLine q)

    high : (i : ℕ) → i < 4 → value_at l i ≤ get_or (form_of IntLine).highs i 0
    high = most IntLine l.values (limits IntLine q)

    first : dash_at l 0 ≡ false
    first = no_dash_at l IntLine q shape 0 (lit< tt) refl

    fourth : dash_at l 3 ≡ false
    fourth = no_dash_at l IntLine q shape 3 (lit< tt) refl

    root_stepped : value_at l 0 ≡ 0 → Stepped
    root_stepped z =
        let d = both (dash_at l 1) (dash_at l 2) (sym (picked _ _ _ (eq-eqb _ _ z)) ∙ (order_start u l o).1) in
        let f = number_at 0 first ∙ ap decimal_text z in (
          with_root u (value_at l 3),
          result IntLine q ∙ int_root n u l o z,
          root_stands (value_at l 3) (low 3 (lit< tt)) (high 3 (lit< tt)) window (order_accs u l o) (sym (order_number u l o) ∙ z)
              (int_line_lem ∙ λ i. line_text (name_of IntLine) (f i ∷ dash_at_lem 1 d.0 i ∷ dash_at_lem 2 d.1 i ∷ number_at 3 fourth i ∷ [])),
        )

    child_stepped : (value_at l 0 ≡ 0 → ⊥) → Stepped
    unfolding numbers child_line
    child_stepped z =
        let c = sym (passed _ _ _ (ne_eqb _ _ z)) ∙ (order_start u l o).1 in
        let d = both (not (dash_at l 1)) (not (dash_at l 2)) (both _ (ltb (value_at l 1) (value_at l 0)) c).0 in
        let a = sym (ap (λ (r : TreeRead). r.answer) (int_child n u l o z)) ∙ answer IntLine q in
        let f = passed_test (not (is_empty (port_of u (value_at l 1) (value_at l 2)))) Taken n _ a in
        let g = passed_test (leb 4 (level_of u (value_at l 1))) Level n _ f.1 in
        let b = not-false _ f.0 in (
          _,
          result IntLine q ∙ int_child n u l o z ∙ child_given n u l.values b (leb-false _ _ g.0),
          child_stands (value_at l 0) (value_at l 1) (value_at l 2) (value_at l 3) (low 3 (lit< tt)) (high 3 (lit< tt)) window (order_accs u l o)
              (order_number u l o) (omega (arith, z)) (omega (arith, high 0 (lit< tt))) (order_parent u l o z) (omega (arith, high 2 (lit< tt)))
              (is_empty_lem _ b) (leb-false _ _ g.0)
              (int_line_lem ∙ λ i. line_text (name_of IntLine)
              (number_at 0 first i ∷ number_at 1 (not-true _ d.0) i ∷ number_at 2 (not-true _ d.1) i ∷ number_at 3 fourth i ∷ [])),
        )

  int_stepped : l.kind ≡ IntLine → Stepped
  unfolding int_line
  int_stepped q =
      let o : int_in_order u l ≡ true = not-false _ (passed_test (not (int_in_order u l)) Order n _ (answer IntLine q)).0 in
      elim (ℕ_discrete (value_at l 0) 0) [ yes z ↦ root_stepped q o z | no z ↦ child_stepped q o z ]

  pub stepped : Stepped
  stepped = go l.kind refl
    where
      go : (k : Kind) → l.kind ≡ k → Stepped
      go NoRecord q = never_refused _ _ n (answer NoRecord q)
      go BusLine q = bus_stepped false q
      go IntLine q = int_stepped q
      go AccLine q = acc_stepped q
      go OfferLine q = never_refused _ _ n (answer OfferLine q)
      go Bus3Line q = bus_stepped true q

bus_window : (b : Bus) → bus_keeps b ≡ true → 0 < b.window
unfolding bus_keeps
bus_window b e = let h = simp tests at e in omega arith

-- what is in a tree stays in it
record Keeps (u t : Tree) : Type 0 where
  bus : 0 < u.bus.window → t.bus ≡ u.bus
  ints : u.ints ≤ t.ints
  accs : u.accs ≤ t.accs
  whole : 0 < u.accs → t.ints ≡ u.ints
  parent : (j : ℕ) → j < u.ints → parent_of t j ≡ parent_of u j
  parent_port : (j : ℕ) → j < u.ints → parent_port_of t j ≡ parent_port_of u j
  granularity : (j : ℕ) → j < u.ints → granularity_of t j ≡ granularity_of u j
  acc : (a : ℕ) → 0 < phi_of u a → accelerator_of t a ≡ accelerator_of u a

keeps_same : (t : Tree) → Keeps t t
keeps_same t =
    record {
      bus = λ h. refl;
      ints = omega arith;
      accs = omega arith;
      whole = λ h. refl;
      parent = λ j h. refl;
      parent_port = λ j h. refl;
      granularity = λ j h. refl;
      acc = λ a h. refl;
    }

keeps_on : (u w t : Tree) → Keeps u w → Keeps w t → Keeps u t
keeps_on u w t A B =
    record {
      bus = λ h. B.bus (subst (λ (b : Bus). 0 < b.window) (sym (A.bus h)) h) ∙ A.bus h;
      ints = omega (arith, A.ints, B.ints);
      accs = omega (arith, A.accs, B.accs);
      whole = λ h. B.whole (omega (arith, A.accs)) ∙ A.whole h;
      parent = λ j h. B.parent j (omega (arith, A.ints)) ∙ A.parent j h;
      parent_port = λ j h. B.parent_port j (omega (arith, A.ints)) ∙ A.parent_port j h;
      granularity = λ j h. B.granularity j (omega (arith, A.ints)) ∙ A.granularity j h;
      acc = λ a h. B.acc a (subst (λ (x : Accelerator). 0 < x.phi) (sym (A.acc a h)) h) ∙ A.acc a h;
    }

keeps_step : {u w : Tree} {l : List ℕ} → Partial u → Stands u l w → Keeps u w
keeps_step {u} P (bus_stands b h z q) =
    record {
      bus = λ k. absurd (omega arith);
      ints = omega arith;
      accs = omega arith;
      whole = λ k. refl;
      parent = λ j k. refl;
      parent_port = λ j k. refl;
      granularity = λ j k. refl;
      acc = λ a k. refl;
    }
keeps_step {u} P (root_stands g b d k m z q) =
    record {
      bus = λ h. refl;
      ints = omega arith;
      accs = omega arith;
      whole = λ h. absurd (omega arith);
      parent = λ j h. absurd (omega arith);
      parent_port = λ j h. absurd (omega arith);
      granularity = λ j h. absurd (omega arith);
      acc = λ a h. refl;
    }
keeps_step {u} P (child_stands j p q g y v k m z d b c r f w t) =
    record {
      bus = λ h. refl;
      ints = omega arith;
      accs = omega arith;
      whole = λ h. absurd (omega arith);
      parent = λ i h. child_parent u j p q g P z b c r f i (λ x. omega arith);
      parent_port = λ i h. child_parent_port u j p q g P z b c r f i (λ x. omega arith);
      granularity = λ i h. child_granularity u j p q g P z b c r f i (λ x. omega arith);
      acc = λ a h. refl;
    }
keeps_step {u} P (acc_stands v e k o f q) =
    let home = get_or v 1 0 in
    let port = get_or v 2 0 in
    let size = home_size u v P e k o f in
    record {
      bus = λ h. refl;
      ints = omega arith;
      accs = omega arith;
      whole = λ h. refl;
      parent = λ j h. stored_parent u home port (Acc (get_or v 0 0)) size j;
      parent_port = λ j h. stored_parent_port u home port (Acc (get_or v 0 0)) size j;
      granularity = λ j h. stored_granularity u home port (Acc (get_or v 0 0)) size j;
      acc = λ a h. acc_old u v P e k o f a (λ x. let y = ap (phi_of u) x in omega arith);
    }

-- the bus line, where it is still to come
abbrev bus_part : Tree → List ℕ → List (List ℕ)
bus_part u bus = pick (ltb 0 u.bus.window) [] (bus ∷ [])

-- it is not, once it is read
bus_over : (u : Tree) (bus : List ℕ) (ls : List (List ℕ)) → 0 < u.bus.window → bus_part u bus ++ ls ≡ ls
bus_over u bus ls h = ap (λ (p : List (List ℕ)). p ++ ls) (picked _ [] (bus ∷ []) (lt-ltb 0 u.bus.window h))

-- the lines ls carry on from u to t: they are what t has and u has not
record Rest (u t : Tree) (ls : List (List ℕ)) : Type 0 where
  part : Partial t
  keeps : Keeps u t
  bus : List ℕ
  writes_bus : u.bus.window ≡ 0 → WritesBus t.bus bus
  order : List ℕ
  read : (a : ℕ) → 0 < phi_of u a → times a order ≡ 0
  left : (a : ℕ) → phi_of u a ≡ 0 → times a order ≡ pick (ltb 0 (phi_of t a)) 1 0
  text : ls ≡ bus_part u bus ++ (rows (t.ints - u.ints) u.ints (int_text t) ++ map (acc_text t) order)

rows_next : (n k : ℕ) (f : ℕ → List ℕ) → k + 1 ≤ n → rows (n - k) k f ≡ f k ∷ rows (n - (k + 1)) (k + 1) f
unfolding rows
rows_next n k f h =
    let m : n - k ≡ suc (n - (k + 1)) = omega arith in
    ap (λ (c : ℕ). rows c k f) m ∙ ap (λ (c : ℕ). f k ∷ rows (n - (k + 1)) c f) (sym (add-one k))

bus_rest : (u t : Tree) (b : Bus) (l : List ℕ) (ls : List (List ℕ)) → Partial u → u.bus.window ≡ 0 → 0 < b.window → WritesBus b l
    → Keeps u (with_bus u b) → Rest (with_bus u b) t ls → Rest u t (l ∷ ls)
bus_rest u t b l ls P z h q K R =
    let X = rows (t.ints - u.ints) u.ints (int_text t) ++ map (acc_text t) R.order in
    record {
      part = R.part;
      keeps = keeps_on u (with_bus u b) t K R.keeps;
      bus = l;
      writes_bus = λ k. subst (λ (x : Bus). WritesBus x l) (sym (R.keeps.bus h)) q;
      order = R.order;
      read = R.read;
      left = R.left;
      text = ap (λ (p : List (List ℕ)). l ∷ p) (R.text ∙ bus_over (with_bus u b) R.bus X h)
          ∙ ap (λ (p : List (List ℕ)). p ++ X) (sym (passed _ _ _ (le-ltb 0 u.bus.window (omega arith))));
    }

int_rest : (u w t : Tree) (l : List ℕ) (ls : List (List ℕ)) → 0 < u.bus.window → w.bus ≡ u.bus → w.ints ≡ u.ints + 1
    → w.accelerators ≡ u.accelerators → Keeps u w → l ≡ int_text t u.ints → Rest w t ls → Rest u t (l ∷ ls)
int_rest u w t l ls h b i a K q R =
    let M = map (acc_text t) R.order in
    let left : ℕ → List (List ℕ) = λ k. rows (t.ints - k) k (int_text t) ++ M in
    let read : 0 < w.bus.window = subst (λ (c : Bus). 0 < c.window) (sym b) h in
    let same : (x : ℕ) → phi_of w x ≡ phi_of u x = λ x. ap (λ (y : List Accelerator). (get_or y x no_accelerator).phi) a in
    record {
      part = R.part;
      keeps = keeps_on u w t K R.keeps;
      bus = R.bus;
      writes_bus = λ z. absurd (omega arith);
      order = R.order;
      read = λ x k. R.read x (omega (arith, same x));
      left = λ x k. R.left x (same x ∙ k);
      text = ap₂ ◌∷◌ q (R.text ∙ bus_over w R.bus (left w.ints) read ∙ ap left i)
          ∙ ap (λ (p : List (List ℕ)). p ++ M) (sym (rows_next t.ints u.ints (int_text t) (omega (arith, R.keeps.ints))))
          ∙ sym (bus_over u R.bus (left u.ints) h);
    }

-- a number counts once in a list that begins with it
module _ (u t : Tree) (v : List ℕ) (l : List ℕ) (ls : List (List ℕ)) (P : Partial u) (e : limits_kept AccLine v ≡ true)
    (k : get_or v 1 0 < u.ints) (o : phi_of u (get_or v 0 0) ≡ 0) (f : port_of u (get_or v 1 0) (get_or v 2 0) ≡ Empty)
    (q : l ≡ acc_written (get_or v 0 0) (acc_of v)) (h : 0 < u.bus.window) (K : Keeps u (with_acc u v)) (R : Rest (with_acc u v) t ls) where
  abbrev a : ℕ
  a = get_or v 0 0

  new : accelerator_of (with_acc u v) a ≡ acc_of v
  new = acc_new u v P e k o f

  some_limit : 0 < (acc_of v).phi
  some_limit = least AccLine v e 3 (lit< tt)

  here : 0 < phi_of (with_acc u v) a
  here = omega (arith, ap (λ (x : Accelerator). x.phi) new, some_limit)

  kept : accelerator_of t a ≡ acc_of v
  kept = R.keeps.acc a here ∙ new

  counted : pick {A = ℕ} (ltb 0 (phi_of t a)) 1 0 ≡ 1
  counted = picked _ _ _ (lt-ltb 0 (phi_of t a) (omega (arith, ap (λ (y : Accelerator). y.phi) kept, some_limit)))

  other : (x : ℕ) → (x ≡ a → ⊥) → phi_of (with_acc u v) x ≡ phi_of u x
  other x d = ap (λ (y : Accelerator). y.phi) (acc_old u v P e k o f x d)

  acc_left : (x : ℕ) → phi_of u x ≡ 0 → times x (a ∷ R.order) ≡ pick (ltb 0 (phi_of t x)) 1 0
  unfolding times
  acc_left x z = elim (ℕ_discrete x a) [
    | yes w ↦ subst (λ (y : ℕ). only y a + times y R.order ≡ pick (ltb 0 (phi_of t y)) 1 0) (sym w)
        (omega (arith, only_same a a refl, R.read a here, counted))
    | no d ↦ omega (arith, only_other x a d, R.left x (other x d ∙ z))
  ]

  acc_read : (x : ℕ) → 0 < phi_of u x → times x (a ∷ R.order) ≡ 0
  unfolding times
  acc_read x y =
      let d : x ≡ a → ⊥ = λ w. (let c = ap (phi_of u) w in omega arith) in
      omega (arith, only_other x a d, R.read x (omega (arith, other x d)))

  acc_rest : Rest u t (l ∷ ls)
  unfolding times rows
  acc_rest =
      let M = map (acc_text t) R.order in
      let z : t.ints - u.ints ≡ 0 = omega (arith, R.keeps.whole (omega arith)) in
      let none : rows (t.ints - u.ints) u.ints (int_text t) ≡ [] = ap (λ (c : ℕ). rows c u.ints (int_text t)) z in
      let front : (N : List (List ℕ)) → bus_part u R.bus ++ (rows (t.ints - u.ints) u.ints (int_text t) ++ N) ≡ N =
      λ N. bus_over u R.bus _ h ∙ ap (λ (p : List (List ℕ)). p ++ N) none in
      record {
        part = R.part;
        keeps = keeps_on u (with_acc u v) t K R.keeps;
        bus = R.bus;
        writes_bus = λ z. absurd (omega arith);
        order = a ∷ R.order;
        read = acc_read;
        left = acc_left;
        text = ap₂ ◌∷◌ (q ∙ ap (acc_written a) (sym kept)) (R.text ∙ front M) ∙ sym (front (acc_text t a ∷ M));
      }

rest_step : {u w : Tree} {l : List ℕ} (t : Tree) (ls : List (List ℕ)) → Partial u → (0 < u.ints → 0 < u.bus.window) → Stands u l w → Rest w t ls
    → Rest u t (l ∷ ls)
unfolding numbers
rest_step {u} {w} {l} t ls P B (bus_stands b h z q) R = bus_rest u t b l ls P z (bus_window b h) q (keeps_step P (bus_stands b h z q)) R
rest_step {u} {w} {l} t ls P B (root_stands g b d k m z q) R =
    let c = R.keeps.granularity 0 (omega arith) ∙ ap (λ (x : Interconnect). x.granularity) (new_here u 0 0 0 g (root_size u g P z b d)) in
    int_rest u (with_root u g) t l ls k refl refl refl (keeps_step P (root_stands g b d k m z q)) (q ∙ ap root_written (sym c) ∙ ap (int_text t) (sym z)) R
rest_step {u} {w} {l} t ls P B (child_stands j p x g y v k m z d b c r f h q) R =
    let new = child_new u j p x g P z b c r f in
    let n : j < u.ints + 1 = omega arith in
    let a1 = R.keeps.parent j n ∙ ap (λ (c : Interconnect). c.parent) new in
    let a2 = R.keeps.parent_port j n ∙ ap (λ (c : Interconnect). c.port) new in
    let a3 = R.keeps.granularity j n ∙ ap (λ (c : Interconnect). c.granularity) new in
    int_rest u (with_child u j p x g) t l ls k refl refl refl (keeps_step P (child_stands j p x g y v k m z d b c r f h q))
    (q ∙ (λ i. child_written j (sym a1 i) (sym a2 i) (sym a3 i)) ∙ sym (passed _ _ _ (ne_eqb j 0 (omega arith))) ∙ ap (int_text t) z) R
rest_step {u} {w} {l} t ls P B (acc_stands v e k o f q) R = acc_rest u t v l ls P e k o f q (B (omega arith)) (keeps_step P (acc_stands v e k o f q)) R

begun_step : {u w : Tree} {l : List ℕ} → (0 < u.ints → 0 < u.bus.window) → Stands u l w → 0 < w.ints → 0 < w.bus.window
begun_step B (bus_stands b h z q) m = bus_window b h
begun_step B (root_stands g b d k m z q) n = k
begun_step B (child_stands j p x g y v k m z d b c r f w q) n = k
begun_step B (acc_stands v e k o f q) n = B n

-- the end of the file
given_same : (t u : Tree) → given t ≡ given u → t ≡ u
given_same t u e = ap (λ (r : TreeRead). r.tree) e

rest_end : (n : ℕ) (u : Tree) (r : List ℕ) (t : Tree) → Partial u → read_lines n u [] r ≡ given t → (r ≡ []) × Rest u t []
unfolding read_lines finish rows times
rest_end n u r t P e =
    let a = passed_end (eqb (length r) 0) Shape n (pick (complete u) (given u) (refused_at Order n)) e in
    let b = passed_end (complete u) Order n (given u) a.1 in
    let q = given_same u t b.1 in
    let c = both _ (ltb 0 u.accs) (both _ (all u.accs (λ x. ltb 0 (phi_of u x))) b.0).0 in
    let w : 0 < u.bus.window = ltb-true _ _ (both (ltb 0 u.bus.window) (ltb 0 u.ints) c.0).0 in
    let z : u.ints - u.ints ≡ 0 = omega arith in (
      nothing r (eqb-true _ _ a.0),
      subst (λ (x : Tree). Rest u x []) q
          (record {
            part = P;
            keeps = keeps_same u;
            bus = [];
            writes_bus = λ h. absurd (omega arith);
            order = [];
            read = λ x h. refl;
            left = λ x h. sym (passed _ _ _ (le-ltb 0 (phi_of u x) (omega arith)));
            text = sym (bus_over u [] _ w ∙ ap (λ (c : ℕ). rows c u.ints (int_text u) ++ []) z);
          }),
    )
  where
    passed_end : (c : Bool) (x : Refusal) (n : ℕ) (y : TreeRead) → pick c y (refused_at x n) ≡ given t → (c ≡ true) × (y ≡ given t)
    passed_end true x n y e = (refl, e)
    passed_end false x n y e = never_refused _ x n (ap (λ (r : TreeRead). r.answer) e)

pub line_first : (n : ℕ) (u : Tree) (l : List ℕ) (ls : List (List ℕ)) (r : List ℕ)
    → read_lines n u (l ∷ ls) r ≡ onward (tree_line n u (line_of l)).answer (tree_line n u (line_of l)) (read_lines (n + 1) (tree_line n u (line_of l)).tree ls r)
unfolding read_lines
line_first n u l ls r = refl

rest : (ls : List (List ℕ)) (n : ℕ) (u : Tree) (r : List ℕ) (t : Tree) → Partial u → (0 < u.ints → 0 < u.bus.window) → read_lines n u ls r ≡ given t
    → (r ≡ []) × Rest u t ls
rest [] n u r t P B e = rest_end n u r t P e
rest (l ∷ ls) n u r t P B e =
    let g = tree_line n u (line_of l) in
    let f = sym (line_first n u l ls r) ∙ e in
    let a = went_on g (read_lines (n + 1) g.tree ls r) (ap (λ (x : TreeRead). x.answer) f) in
    let S = stepped n u l a.0 in
    let w = S.0 in
    let p : Partial w = subst (λ (x : TreeRead). Partial x.tree) S.1 (fine_line n u (line_of l) P a.0) in
    let i = rest ls (n + 1) w r t p (begun_step B S.2)
    (sym (ap (λ (x : TreeRead). read_lines (n + 1) x.tree ls r) S.1) ∙ sym (goes g _ a.0) ∙ f) in
    (i.0, rest_step t ls P B S.2 i.1)

-- the accelerators of a configuration that keeps its rules are those with a limit
limit_below : (t : Tree) → tree_keeps t ≡ true → Partial t → (a : ℕ) → ltb 0 (phi_of t a) ≡ ltb a t.accs
limit_below t k P a = elim (dec_lt a t.accs) [
  | yes h ↦ lt-ltb 0 (phi_of t a) ((sound t k).phi a h).0 ∙ sym (lt-ltb a t.accs h)
  | no h ↦
      let z = ap (λ (x : Accelerator). x.phi) (P.unused_acc a (omega arith)) in
      le-ltb 0 (phi_of t a) (omega arith) ∙ sym (le-ltb a t.accs (omega arith))
]

small : (s : List ℕ) (t : Tree) → read_tree s ≡ given t → length s ≤ 65536
small s t e = elim (dec_lt 65536 (length s)) [
  | yes h ↦ never_refused _ Limit 0 (ap (λ (r : TreeRead). r.answer) (sym (tree_size s h) ∙ e))
  | no h ↦ omega arith
]

-- an accepted file is written by the tree that it gives
pub read_written : (s : List ℕ) (t : Tree) → read_tree s ≡ given t → (tree_keeps t ≡ true) × Writes s t
read_written s t e =
    let i = rest (lines s) 1 empty_tree (unended s) t partial_empty (λ h. absurd (omega arith)) (sym (tree_start s (small s t e)) ∙ e) in
    let R = i.1 in
    let P = R.part in
    let k = subst (λ (r : TreeRead). tree_keeps r.tree ≡ true) e (accepted_keeps s (ap (λ (r : TreeRead). r.answer) e)) in
    let z : t.ints - 0 ≡ t.ints = omega arith in
    let none : (a : ℕ) → phi_of empty_tree a ≡ 0 = λ a. ap (λ (x : Accelerator). x.phi) (partial_empty.unused_acc a (omega arith)) in (
      k,
      record {
        bus = R.bus;
        writes_bus = R.writes_bus refl;
        order = R.order;
        once = λ a. R.left a (none a) ∙ ap (λ (c : Bool). pick c 1 0) (limit_below t k P a);
        text = file_back s i.0 ∙ ap file_text R.text
            ∙ ap (λ (n : ℕ). file_text (R.bus ∷ (rows n 0 (int_text t) ++ map (acc_text t) R.order))) z;
      },
    )
