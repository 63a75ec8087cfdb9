-- Two texts that differ only in the order of acc lines are read as the same tree: two acc lines that follow one another are
-- accepted in either order, because each leaves the other's number and port as they were, and the two stores commute.
use Prim.Native.Nat.{ℕ, ◌+◌, ◌<◌, max}
use mathlib.Core.Bool.{Bool, true, false, ◌&&◌, not}
use mathlib.Core.List.{List, ◌∷◌}
use mathlib.Core.Path.{◌≡◌, refl, sym, ◌∙◌, ap, ap₂, subst}
use native.Mathlib.Decide.{dec_lt, ℕ_discrete}
use native.Mathlib.Omega.{arith}
use lib.Dec.{ltb, leb, lit<}
use lib.ListN.{length, get_or, set}
use lib.Seq.{get_or-set_same, get_or-set_other, set_comm, set-set}
use borrow.Author.Tests.{ltb-false, leb-false, not-false}
use Rattle.text.specs.Text.{lines, unended}
use Rattle.text.proofs.Parts.{sizes, sizes_cons, text_size}
use Rattle.model.specs.declared.Tree.{Tree}
use Rattle.model.specs.declared.Interconnect.{Interconnect}
use Rattle.model.specs.declared.Accelerator.{Accelerator}
use Rattle.model.specs.declared.PortCell.{PortCell}
use Rattle.model.specs.declared.Port.{Port}
use Rattle.model.specs.declared.Port.TheVariants.{Empty, Acc}
use Rattle.model.specs.declared.Refusal.{Refusal}
use Rattle.model.specs.declared.Refusal.TheVariants.{Shape, Limit, Order, Taken}
use Rattle.folds.specs.Fold.{pick}
use Rattle.model.specs.Tree.{no_interconnect, accelerator_of, port_of, phi_of}
use Rattle.rules.specs.Rules.{is_empty}
use Rattle.lines.specs.Answer.{FileAnswer, Accepted, Refused, Broken}
use Rattle.lines.specs.declared.Kind.{Kind}
use Rattle.lines.specs.declared.Kind.TheVariants.{AccLine}
use Rattle.lines.specs.declared.Line.{Line}
use Rattle.lines.specs.Lines.{line_of, in_tree, shaped, limits_kept}
use Rattle.model.specs.Builders.{with_interconnects, with_accelerators, carrying}
use Rattle.records.specs.Records.{empty_tree, acc_of, with_acc}
use Rattle.placing.specs.Placing.{TreeRead, refused_at, given, acc_line, record_line, tree_line}
use Rattle.reader.specs.TreeFile.{onward, read_lines, read_tree}
use Rattle.reader.proofs.Files.{tree_size, tree_start}
use Rattle.lines.proofs.Limits.{least}
use Rattle.placing.proofs.Tests.{acc_given, line_record}
use Rattle.accepts.proofs.Kept.{Partial, fine_line, partial_empty, is_empty_lem, not_acc, never_refused, never_broken}
use Rattle.accepts.proofs.Kept.{acc_new, acc_old, acc_at, stored_apart, home_size}

-- a test whose failure is a refusal has passed where the answer is accepted
pub passed_test : (c : Bool) (x : Refusal) (n : ℕ) (y : TreeRead) → (pick c (refused_at x n) y).answer ≡ Accepted → (c ≡ false) × (y.answer ≡ Accepted)
passed_test true x n y e = never_refused _ x n e
passed_test false x n y e = (refl, e)

-- what an accepted acc line says
pub record Placed (t : Tree) (l : Line) : Type 0 where
  pub form : in_tree l.kind && shaped l ≡ true
  pub limits : limits_kept AccLine l.values ≡ true
  pub known : get_or l.values 1 0 < t.ints
  pub once : phi_of t (get_or l.values 0 0) ≡ 0
  pub free : port_of t (get_or l.values 1 0) (get_or l.values 2 0) ≡ Empty

pub placed : (n : ℕ) (t : Tree) (l : Line) → l.kind ≡ AccLine → (tree_line n t l).answer ≡ Accepted → Placed t l
unfolding tree_line acc_line
placed n t l k e =
    let a = passed_test (not (in_tree l.kind && shaped l)) Shape n _ e in
    let b = passed_test (not (limits_kept l.kind l.values)) Limit n _ a.1 in
    let r = subst (λ (x : Kind). (record_line x n t l).answer ≡ Accepted) k b.1 in
    let v = l.values in
    let f = passed_test (leb t.ints (get_or v 1 0)) Order n _ r in
    let g = passed_test (ltb 0 (phi_of t (get_or v 0 0))) Order n _ f.1 in
    let h = passed_test (not (is_empty (port_of t (get_or v 1 0) (get_or v 2 0)))) Taken n _ g.1 in
    record {
      form = not-false _ a.0;
      limits = subst (λ (x : Kind). limits_kept x v ≡ true) k (not-false _ b.0);
      known = leb-false _ _ f.0;
      once = let z = ltb-false 0 (phi_of t (get_or v 0 0)) g.0 in omega arith;
      free = is_empty_lem _ (not-false _ h.0);
    }

-- and the other way
pub placing : (n : ℕ) (t : Tree) (l : Line) → l.kind ≡ AccLine → Placed t l → tree_line n t l ≡ given (with_acc t l.values)
placing n t l k P =
    line_record n t l AccLine k P.form (subst (λ (x : Kind). limits_kept x l.values ≡ true) (sym k) P.limits)
    ∙ acc_given n t l.values P.known (omega (arith, P.once)) (ap is_empty P.free)

-- the two stores commute
carry_comm : (c : Interconnect) (p q : ℕ) (x y : Port) → (p ≡ q → ⊥) → carrying (carrying c p x) q y ≡ carrying (carrying c q y) p x
carry_comm c p q x y d =
    ap (λ (l : List PortCell). record { parent = c.parent; port = c.port; granularity = c.granularity; ports = l })
    (set_comm c.ports p q (record { port = x }) (record { port = y }) d)

-- one port stored in a list of interconnects
abbrev stored_in : List Interconnect → ℕ → ℕ → Port → List Interconnect
stored_in l i p x = set l i (carrying (get_or l i no_interconnect) p x)

stored_twice : (l : List Interconnect) (i p q : ℕ) (x y : Port) → i < length l
    → stored_in (stored_in l i p x) i q y ≡ set l i (carrying (carrying (get_or l i no_interconnect) p x) q y)
stored_twice l i p q x y h =
    let c = carrying (get_or l i no_interconnect) p x in
    ap (λ (c : Interconnect). set (stored_in l i p x) i (carrying c q y)) (get_or-set_same l i c no_interconnect h)
    ∙ set-set l i c (carrying c q y)

other_interconnect : (l : List Interconnect) (i p j q : ℕ) (x y : Port) → (j ≡ i → ⊥)
    → stored_in (stored_in l i p x) j q y ≡ set (stored_in l i p x) j (carrying (get_or l j no_interconnect) q y)
other_interconnect l i p j q x y d =
    ap (λ (c : Interconnect). set (stored_in l i p x) j (carrying c q y)) (get_or-set_other l i j (carrying (get_or l i no_interconnect) p x) no_interconnect d)

ports_comm : (l : List Interconnect) (i p j q : ℕ) (x y : Port) → i < length l → (i ≡ j → p ≡ q → ⊥)
    → stored_in (stored_in l i p x) j q y ≡ stored_in (stored_in l j q y) i p x
ports_comm l i p j q x y h d = elim (ℕ_discrete i j) [
  | yes e ↦ subst (λ (k : ℕ). stored_in (stored_in l i p x) k q y ≡ stored_in (stored_in l k q y) i p x) e
      (stored_twice l i p q x y h ∙ ap (set l i) (carry_comm (get_or l i no_interconnect) p q x y (d e)) ∙ sym (stored_twice l i q p y x h))
  | no f ↦ other_interconnect l i p j q x y (λ e. f (sym e))
      ∙ set_comm l i j (carrying (get_or l i no_interconnect) p x) (carrying (get_or l j no_interconnect) q y) f
      ∙ sym (other_interconnect l j q i p y x f)
]

accs_comm : (n a b : ℕ) → max (max n a) b ≡ max (max n b) a
accs_comm n a b = omega arith

-- two accelerators of different numbers and ports are stored in either order
acc_comm : (t : Tree) (v w : List ℕ) → get_or v 1 0 < length t.interconnects → (get_or v 0 0 ≡ get_or w 0 0 → ⊥)
    → (get_or v 1 0 ≡ get_or w 1 0 → get_or v 2 0 ≡ get_or w 2 0 → ⊥) → with_acc (with_acc t v) w ≡ with_acc (with_acc t w) v
acc_comm t v w h d f =
    let a = get_or v 0 0 in
    let b = get_or w 0 0 in
    let u = with_acc (with_acc t w) v in
    ap₂ (λ (l : List Interconnect) (m : List Accelerator). with_accelerators (with_interconnects t t.ints l) (max (max t.accs (a + 1)) (b + 1)) m)
    (ports_comm t.interconnects (get_or v 1 0) (get_or v 2 0) (get_or w 1 0) (get_or w 2 0) (Acc a) (Acc b) h f)
    (set_comm t.accelerators a b (acc_of v) (acc_of w) d)
    ∙ ap (λ (k : ℕ). with_accelerators u k u.accelerators) (accs_comm t.accs (a + 1) (b + 1))

-- two accepted acc lines, one after the other
module _ (t : Tree) (x y : Line) (P : Partial t) (X : Placed t x) (Y : Placed (with_acc t x.values) y) where
  abbrev v : List ℕ
  v = x.values

  abbrev w : List ℕ
  w = y.values

  new : accelerator_of (with_acc t v) (get_or v 0 0) ≡ acc_of v
  new = acc_new t v P X.limits X.known X.once X.free

  apart : get_or v 0 0 ≡ get_or w 0 0 → ⊥
  apart e =
      let l = ap (phi_of (with_acc t v)) e in
      let n = ap (λ (a : Accelerator). a.phi) new in
      omega (arith, Y.once, least AccLine v X.limits 3 (lit< tt))

  ports_apart : get_or v 1 0 ≡ get_or w 1 0 → get_or v 2 0 ≡ get_or w 2 0 → ⊥
  ports_apart e f =
      not_acc _ (get_or v 0 0) (ap₂ (port_of (with_acc t v)) e f ∙ Y.free) (acc_at t v P X.limits X.known X.once X.free)

  first_size : get_or v 1 0 < length t.interconnects
  first_size = home_size t v P X.limits X.known X.once X.free

  -- the second line may come first
  second_once : phi_of t (get_or w 0 0) ≡ 0
  second_once =
      let old = acc_old t v P X.limits X.known X.once X.free (get_or w 0 0) (λ e. apart (sym e)) in
      sym (ap (λ (a : Accelerator). a.phi) old) ∙ Y.once

  second_free : port_of t (get_or w 1 0) (get_or w 2 0) ≡ Empty
  second_free =
      let d : get_or w 1 0 ≡ get_or v 1 0 → get_or w 2 0 ≡ get_or v 2 0 → ⊥ = λ e f. ports_apart (sym e) (sym f) in
      sym (stored_apart t (get_or v 1 0) (get_or v 2 0) (Acc (get_or v 0 0)) first_size (get_or w 1 0) (get_or w 2 0) d) ∙ Y.free

  second_first : Placed t y
  second_first = record { form = Y.form; limits = Y.limits; known = Y.known; once = second_once; free = second_free }

  second_size : get_or w 1 0 < length t.interconnects
  second_size = home_size t w P Y.limits Y.known second_once second_free

  -- and the first line after it
  first_second : Placed (with_acc t w) x
  first_second =
      let old = acc_old t w P Y.limits Y.known second_once second_free (get_or v 0 0) apart in
      record {
        form = X.form;
        limits = X.limits;
        known = X.known;
        once = ap (λ (a : Accelerator). a.phi) old ∙ X.once;
        free = stored_apart t (get_or w 1 0) (get_or w 2 0) (Acc (get_or w 0 0)) second_size (get_or v 1 0) (get_or v 2 0) ports_apart ∙ X.free;
      }

  same_tree_lem : with_acc (with_acc t v) w ≡ with_acc (with_acc t w) v
  same_tree_lem = acc_comm t v w first_size apart ports_apart

-- lines in another order, where only acc lines change places
pub data Reordered : List (List ℕ) → List (List ℕ) → Type 0 where
  unchanged : {ls : List (List ℕ)} → Reordered ls ls
  exchanged : {x y : List ℕ} {ls : List (List ℕ)} → (line_of x).kind ≡ AccLine → (line_of y).kind ≡ AccLine → Reordered (x ∷ (y ∷ ls)) (y ∷ (x ∷ ls))
  later : {x : List ℕ} {ls ms : List (List ℕ)} → Reordered ls ms → Reordered (x ∷ ls) (x ∷ ms)
  also : {ls ms ns : List (List ℕ)} → Reordered ls ms → Reordered ms ns → Reordered ls ns

-- a file goes on after a line exactly if the line is accepted
pub went_on : (r next : TreeRead) → (onward r.answer r next).answer ≡ Accepted → (r.answer ≡ Accepted) × (next.answer ≡ Accepted)
went_on r next e = go r.answer refl
  where
    go : (k : FileAnswer) → r.answer ≡ k → (r.answer ≡ Accepted) × (next.answer ≡ Accepted)
    go Accepted f = (f, sym (ap (λ (k : FileAnswer). (onward k r next).answer) f) ∙ e)
    go (Refused x n) f = never_refused _ x n (sym f ∙ sym (ap (λ (k : FileAnswer). (onward k r next).answer) f) ∙ e)
    go Broken f = never_broken (sym f ∙ sym (ap (λ (k : FileAnswer). (onward k r next).answer) f) ∙ e)

pub goes : (r next : TreeRead) → r.answer ≡ Accepted → onward r.answer r next ≡ next
goes r next e = ap (λ (k : FileAnswer). onward k r next) e

-- two acc lines at the front
front : (n : ℕ) (t : Tree) (x y : List ℕ) (ls : List (List ℕ)) (u : List ℕ) → (line_of x).kind ≡ AccLine → (line_of y).kind ≡ AccLine
    → Placed t (line_of x) → Placed (with_acc t (line_of x).values) (line_of y)
    → read_lines n t (x ∷ (y ∷ ls)) u ≡ read_lines (n + 1 + 1) (with_acc (with_acc t (line_of x).values) (line_of y).values) ls u
unfolding read_lines
front n t x y ls u k m X Y =
    let a = placing n t (line_of x) k X in
    let b = placing (n + 1) (with_acc t (line_of x).values) (line_of y) m Y in
    ap (λ (r : TreeRead). onward r.answer r (read_lines (n + 1) r.tree (y ∷ ls) u)) a
    ∙ ap (λ (r : TreeRead). onward r.answer r (read_lines (n + 1 + 1) r.tree ls u)) b

reordered_lines : {ls ms : List (List ℕ)} → Reordered ls ms → (n : ℕ) (t : Tree) (u : List ℕ) → Partial t
    → (read_lines n t ls u).answer ≡ Accepted → read_lines n t ms u ≡ read_lines n t ls u
unfolding read_lines
reordered_lines unchanged n t u P e = refl
reordered_lines (exchanged {x = x} {y = y} {ls = ls} k m) n t u P e =
    let a = went_on (tree_line n t (line_of x)) _ e in
    let X = placed n t (line_of x) k a.0 in
    let s = placing n t (line_of x) k X in
    let w = with_acc t (line_of x).values in
    let c = subst (λ (r : TreeRead). (read_lines (n + 1) r.tree (y ∷ ls) u).answer ≡ Accepted) s a.1 in
    let b = went_on (tree_line (n + 1) w (line_of y)) _ c in
    let Y = placed (n + 1) w (line_of y) m b.0 in
    front n t y x ls u m k (second_first t (line_of x) (line_of y) P X Y) (first_second t (line_of x) (line_of y) P X Y)
    ∙ ap (λ (z : Tree). read_lines (n + 1 + 1) z ls u) (sym (same_tree_lem t (line_of x) (line_of y) P X Y))
    ∙ sym (front n t x y ls u k m X Y)
reordered_lines (later {x = x} {ls = ls} {ms = ms} r) n t u P e =
    let a = went_on (tree_line n t (line_of x)) _ e in
    goes (tree_line n t (line_of x)) _ a.0
    ∙ reordered_lines r (n + 1) (tree_line n t (line_of x)).tree u (fine_line n t (line_of x) P a.0) a.1
    ∙ sym (goes (tree_line n t (line_of x)) _ a.0)
reordered_lines (also {ls = ls} {ms = ms} {ns = ns} r q) n t u P e =
    let f = reordered_lines r n t u P e in
    reordered_lines q n t u P (ap (λ (z : TreeRead). z.answer) f ∙ e) ∙ f

-- the same lines in another order have as many bytes
reordered_size : {ls ms : List (List ℕ)} → Reordered ls ms → sizes ms ≡ sizes ls
reordered_size unchanged = refl
reordered_size (exchanged {x = x} {y = y} {ls = ls} k m) = omega (arith, sizes_cons x (y ∷ ls), sizes_cons y ls, sizes_cons y (x ∷ ls), sizes_cons x ls)
reordered_size (later {x = x} {ls = ls} {ms = ms} r) = omega (arith, sizes_cons x ls, sizes_cons x ms, reordered_size r)
reordered_size (also r q) = reordered_size q ∙ reordered_size r

-- "then acc lines in any order"
pub any_order : (s r : List ℕ) → Reordered (lines s) (lines r) → unended r ≡ unended s → (read_tree s).answer ≡ Accepted → read_tree r ≡ read_tree s
any_order s r o q e =
    let l : length r ≡ length s = omega (arith, text_size s, text_size r, reordered_size o, ap length q) in
    elim (dec_lt 65536 (length s)) [
      | yes h ↦ never_refused _ Limit 0 (sym (ap (λ (x : TreeRead). x.answer) (tree_size s h)) ∙ e)
      | no h ↦
          let a = tree_start s (omega arith) in
          tree_start r (omega arith)
          ∙ ap (read_lines 1 empty_tree (lines r)) q
          ∙ reordered_lines o 1 empty_tree (unended s) partial_empty (sym (ap (λ (x : TreeRead). x.answer) a) ∙ e)
          ∙ sym a
    ]
