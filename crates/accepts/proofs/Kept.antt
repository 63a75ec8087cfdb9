-- A tree that the reader gives keeps its rules. What is read so far keeps those that concern it, `Partial`; each line that is
-- accepted keeps them, because its tests are what they ask; at the end nothing is missing. By cases along the definition's
-- own tests, and by induction on the lines.
use Prim.Native.Nat.{ℕ, zero, suc, ◌+◌, ◌≤◌, ◌<◌}
use mathlib.Core.Bool.{Bool, true, false, ◌&&◌, not}
use mathlib.Core.List.{List, [], ◌∷◌}
use mathlib.Core.Path.{◌≡◌, refl, sym, ◌∙◌, ap, ap₂, subst}
use native.Mathlib.Decide.{dec_lt, ℕ_discrete}
use native.Mathlib.Omega.{arith}
use lib.Dec.{ltb, leb, eqb, lit<}
use lib.ListN.{length, get_or, set, replicate, length-set}
use lib.Seq.{get_or-set_same, get_or-set_other}
use borrow.Author.Tests.{lt-ltb, le-ltb, eq-eqb, ne_eqb, ltb-true, eqb-true, ltb-false, leb-false, eqb-false, not-false}
use Rattle.text.specs.Text.{lines, unended}
use Rattle.model.specs.declared.Tree.{Tree}
use Rattle.model.specs.declared.Bus.{Bus}
use Rattle.model.specs.declared.Interconnect.{Interconnect}
use Rattle.model.specs.declared.Accelerator.{Accelerator}
use Rattle.model.specs.declared.PortCell.{PortCell}
use Rattle.model.specs.declared.Port.{Port}
use Rattle.model.specs.declared.Port.TheVariants.{Empty, Acc, Int}
use Rattle.model.specs.declared.Refusal.{Refusal}
use Rattle.model.specs.declared.Refusal.TheVariants.{Order, Shape, Limit}
use Rattle.folds.specs.Fold.{pick, all}
use Rattle.model.specs.Tree.{empty_cell, no_interconnect, no_accelerator, interconnect_of, granularity_of, parent_of, parent_port_of, above, level_of}
use Rattle.model.specs.Tree.{accelerator_of, port_of, home_of, home_port_of, phi_of, budget_of}
use Rattle.rules.specs.Rules.{bus_keeps, is_empty, is_acc, is_int, carries, root_placed, child_placed, is_placed, tree_keeps}
use Rattle.rules.specs.Rules.{used_interconnect, unused_interconnect, interconnect_keeps, used_accelerator, unused_accelerator, accelerator_keeps}
use Rattle.folds.proofs.Folds.{picked, passed, tests, both, all_at, clash}
use Rattle.lines.specs.Answer.{FileAnswer, Accepted, Refused, Broken}
use Rattle.placing.specs.Placing.{TreeRead}
use Rattle.lines.specs.declared.Kind.{Kind}
use Rattle.lines.specs.declared.Kind.TheVariants.{NoRecord, BusLine, IntLine, AccLine, OfferLine, Bus3Line}
use Rattle.lines.specs.declared.Line.{Line}
use Rattle.lines.specs.Lines.{bus_kind, line_of, value_at, dash_at, in_tree, shaped, limits_kept}
use Rattle.model.specs.Builders.{with_bus, carrying}
use Rattle.records.specs.Records.{empty_tree, bus_of, with_port, with_interconnect, with_root, with_child, acc_of, with_acc}
use Rattle.placing.specs.Placing.{refused_at, given, bus_line, int_in_order, root_rule, child_line, int_line, acc_line, complete, finish, record_line, tree_line}
use Rattle.reader.specs.TreeFile.{onward, read_lines, read_tree}
use Rattle.reader.proofs.Files.{tree_size, tree_start}
use Rattle.lines.proofs.Limits.{least, most}

-- the limits of an accelerator's fields, and that its place is right
pub record Used (t : Tree) (a : ℕ) : Type 0 where
  pub home : home_of t a < t.ints
  pub home_port : home_port_of t a < 8
  pub home_carries : port_of t (home_of t a) (home_port_of t a) ≡ Acc a
  pub phi : phi_of t a ≤ 16
  pub budget : (1 ≤ budget_of t a) × (budget_of t a ≤ 1024)
  pub reads : (accelerator_of t a).reads ≤ 65535
  pub writes : (accelerator_of t a).writes ≤ 65535
  pub computing : (accelerator_of t a).computing ≤ 4294967295
  pub period : (1 ≤ (accelerator_of t a).period) × ((accelerator_of t a).period ≤ 4294967295)

pub record Partial (t : Tree) : Type 0 where
  pub ints_size : length t.interconnects ≡ 15
  pub accs_size : length t.accelerators ≡ 32
  pub ports_size : (j : ℕ) → length (interconnect_of t j).ports ≡ 8
  pub bus : 0 < t.bus.window → bus_keeps t.bus ≡ true
  pub most_ints : t.ints ≤ 15
  pub most_accs : t.accs ≤ 32
  pub granularity : (j : ℕ) → j < t.ints → (1 ≤ granularity_of t j) × (granularity_of t j ≤ 16)
  pub level : (j : ℕ) → j < t.ints → level_of t j ≤ 4
  pub root : (parent_of t 0 ≡ 0) × (parent_port_of t 0 ≡ 0)
  pub parent : (k : ℕ) → 0 < k → k < t.ints → parent_of t k < k
  pub parent_port : (k : ℕ) → 0 < k → k < t.ints → parent_port_of t k < 8
  pub parent_carries : (k : ℕ) → 0 < k → k < t.ints → port_of t (parent_of t k) (parent_port_of t k) ≡ Int k
  pub unused_int : (j : ℕ) → t.ints ≤ j → interconnect_of t j ≡ no_interconnect
  pub unused_acc : (a : ℕ) → t.accs ≤ a → accelerator_of t a ≡ no_accelerator
  pub gap : (a : ℕ) → phi_of t a ≡ 0 → accelerator_of t a ≡ no_accelerator
  pub used : (a : ℕ) → 0 < phi_of t a → Used t a
  pub acc_place : (j p a : ℕ) → port_of t j p ≡ Acc a → (0 < phi_of t a) × (home_of t a ≡ j) × (home_port_of t a ≡ p)
  pub int_place : (j p k : ℕ) → port_of t j p ≡ Int k → (0 < k) × (k < t.ints) × (parent_of t k ≡ j) × (parent_port_of t k ≡ p)

-- a list of one value has that value everywhere, where the default is it too
same_everywhere : {A : Type 0} (n i : ℕ) (d : A) → get_or (replicate n d) i d ≡ d
same_everywhere zero i d = refl
same_everywhere (suc n) zero d = refl
same_everywhere (suc n) (suc i) d = same_everywhere n i d

-- a fact of every number: of one number, and of the others; and of every port
pub each_number : (F : ℕ → Type 0) (i : ℕ) → F i → ((k : ℕ) → (k ≡ i → ⊥) → F k) → (k : ℕ) → F k
each_number F i here apart k = elim (ℕ_discrete k i) [
  | yes e ↦ subst F (sym e) here
  | no d ↦ apart k d
]

pub each_port : (F : ℕ → ℕ → Type 0) (i p : ℕ) → F i p → ((k q : ℕ) → (k ≡ i → q ≡ p → ⊥) → F k q) → (k q : ℕ) → F k q
each_port F i p here apart k q =
    each_number (λ n. F n q) i (each_number (F i) p here (λ n d. apart i n (λ e f. d f)) q) (λ n d. apart n q (λ e f. d e)) k

abbrev ports_in : Interconnect → ℕ
ports_in c = length c.ports

abbrev port_in : ℕ → Interconnect → Port
port_in p c = (get_or c.ports p empty_cell).port

-- a port of an interconnect that carries nothing is empty
pub blank_port : (t : Tree) (j p : ℕ) → interconnect_of t j ≡ no_interconnect → port_of t j p ≡ Empty
blank_port t j p e = ap (port_in p) e ∙ ap (λ (c : PortCell). c.port) (same_everywhere 8 p empty_cell)

-- the crossings above an interconnect: none at the root, one more than above the parent
above_up : (n : ℕ) (t : Tree) (j : ℕ) → (j ≡ 0 → ⊥) → length (above (suc n) t j) ≡ suc (length (above n t (parent_of t j)))
unfolding above
above_up n t j h = ap length (passed _ _ _ (ne_eqb j 0 h))

above_top : (n : ℕ) (t : Tree) (j : ℕ) → j ≡ 0 → length (above n t j) ≡ 0
unfolding above
above_top zero t j e = refl
above_top (suc n) t j e = ap length (picked _ _ _ (eq-eqb j 0 e))

above_more : (n : ℕ) (t : Tree) (j : ℕ) → length (above n t j) ≤ length (above (suc n) t j)
unfolding above
above_more zero t j = omega arith
above_more (suc n) t j = elim (ℕ_discrete j 0) [
  | yes e ↦ omega (arith, above_top (suc n) t j e)
  | no d ↦ omega (arith, above_up n t j d, above_up (suc n) t j d, above_more n t (parent_of t j))
]

-- two trees with the same parents below m, each parent smaller, have the same levels there
module _ (t u : Tree) (m : ℕ) (same : (k : ℕ) → k < m → parent_of u k ≡ parent_of t k)
    (down : (k : ℕ) → 0 < k → k < m → parent_of t k < k) where
  depth_same : (n j : ℕ) → j < m → length (above n u j) ≡ length (above n t j)
  unfolding above
  depth_same zero j h = refl
  depth_same (suc n) j h = elim (ℕ_discrete j 0) [
    | yes e ↦ above_top (suc n) u j e ∙ sym (above_top (suc n) t j e)
    | no d ↦ let p = down j (omega arith) h in
        above_up n u j d ∙ ap suc (ap (λ (k : ℕ). length (above n u k)) (same j h) ∙ depth_same n (parent_of t j) (omega arith))
        ∙ sym (above_up n t j d)
  ]

  pub level_same : (j : ℕ) → j < m → level_of u j ≡ level_of t j
  level_same j h = ap suc (depth_same 15 j h)

-- the level of a child is at most one more than its parent's
pub level_child : (t : Tree) (j : ℕ) → (j ≡ 0 → ⊥) → level_of t j ≤ suc (level_of t (parent_of t j))
level_child t j d = omega (arith, above_up 14 t j d, above_more 14 t (parent_of t j))

-- one port stored
module _ (t : Tree) (j p : ℕ) (x : Port) (h : j < length t.interconnects) where
  pub stored_here : interconnect_of (with_port t j p x) j ≡ carrying (interconnect_of t j) p x
  stored_here = get_or-set_same t.interconnects j _ no_interconnect h

  pub stored_other : (k : ℕ) → (k ≡ j → ⊥) → interconnect_of (with_port t j p x) k ≡ interconnect_of t k
  stored_other k d = get_or-set_other t.interconnects j k _ no_interconnect d

  -- what a port does not hold is as before, on every interconnect
  stored_field : {A : Type 0} (f : Interconnect → A) → f (carrying (interconnect_of t j) p x) ≡ f (interconnect_of t j)
      → (k : ℕ) → f (interconnect_of (with_port t j p x) k) ≡ f (interconnect_of t k)
  stored_field f e =
      each_number (λ k. f (interconnect_of (with_port t j p x) k) ≡ f (interconnect_of t k)) j (ap f stored_here ∙ e) (λ k d. ap f (stored_other k d))

  pub stored_parent : (k : ℕ) → parent_of (with_port t j p x) k ≡ parent_of t k
  stored_parent = stored_field (λ (c : Interconnect). c.parent) refl

  pub stored_parent_port : (k : ℕ) → parent_port_of (with_port t j p x) k ≡ parent_port_of t k
  stored_parent_port = stored_field (λ (c : Interconnect). c.port) refl

  pub stored_granularity : (k : ℕ) → granularity_of (with_port t j p x) k ≡ granularity_of t k
  stored_granularity = stored_field (λ (c : Interconnect). c.granularity) refl

  pub stored_size : (k : ℕ) → length (interconnect_of (with_port t j p x) k).ports ≡ length (interconnect_of t k).ports
  stored_size = stored_field (λ (c : Interconnect). length c.ports) (length-set (interconnect_of t j).ports p _)

  pub stored_at : p < length (interconnect_of t j).ports → port_of (with_port t j p x) j p ≡ x
  stored_at l =
      ap (port_in p) stored_here
      ∙ ap (λ (c : PortCell). c.port) (get_or-set_same (interconnect_of t j).ports p (record { port = x }) empty_cell l)

  pub stored_apart : (k q : ℕ) → (k ≡ j → q ≡ p → ⊥) → port_of (with_port t j p x) k q ≡ port_of t k q
  stored_apart k q d = elim (ℕ_discrete k j) [
    | yes e ↦ subst (λ (i : ℕ). port_of (with_port t j p x) i q ≡ port_of t i q) (sym e)
        (ap (port_in q) stored_here
        ∙ ap (λ (c : PortCell). c.port) (get_or-set_other (interconnect_of t j).ports p q (record { port = x }) empty_cell (d e)))
    | no f ↦ ap (port_in q) (stored_other k f)
  ]

-- one interconnect more
module _ (t : Tree) (j parent port g : ℕ) (h : j < length t.interconnects) where
  pub new_here : interconnect_of (with_interconnect t j parent port g) j
      ≡ record { parent = parent; port = port; granularity = g; ports = replicate 8 empty_cell }
  new_here = get_or-set_same t.interconnects j _ no_interconnect h

  pub new_other : (k : ℕ) → (k ≡ j → ⊥) → interconnect_of (with_interconnect t j parent port g) k ≡ interconnect_of t k
  new_other k d = get_or-set_other t.interconnects j k _ no_interconnect d

  pub new_port : (q : ℕ) → port_of (with_interconnect t j parent port g) j q ≡ Empty
  new_port q = ap (port_in q) new_here ∙ ap (λ (c : PortCell). c.port) (same_everywhere 8 q empty_cell)

pub not_acc : (x : Port) (a : ℕ) → x ≡ Empty → x ≡ Acc a → ⊥
not_acc x a e f = clash cc

pub not_int : (x : Port) (k : ℕ) → x ≡ Empty → x ≡ Int k → ⊥
not_int x k e f = clash cc

acc_not_int : (x : Port) (k a : ℕ) → x ≡ Int k → x ≡ Acc a → ⊥
acc_not_int x k a e f = clash cc

same_int : (x : Port) (k m : ℕ) → x ≡ Int k → x ≡ Int m → m ≡ k
same_int x k m e f = cc

same_acc_lem : (x : Port) (k m : ℕ) → x ≡ Acc k → x ≡ Acc m → m ≡ k
same_acc_lem x k m e f = cc

no_port : (j p : ℕ) → port_of empty_tree j p ≡ Empty
no_port j p = blank_port empty_tree j p (same_everywhere 15 j no_interconnect)

-- an accelerator whose record is blank has no limit
no_limit : (t : Tree) (a : ℕ) → accelerator_of t a ≡ no_accelerator → 0 < phi_of t a → ⊥
no_limit t a e h = omega (arith, ap (λ (x : Accelerator). x.phi) e)

pub partial_empty : Partial empty_tree
partial_empty =
    record {
      ints_size = refl;
      accs_size = refl;
      ports_size = λ j. ap (λ (c : Interconnect). length c.ports) (same_everywhere 15 j no_interconnect);
      bus = λ h. absurd (omega arith);
      most_ints = omega arith;
      most_accs = omega arith;
      granularity = λ j l. absurd (omega arith);
      level = λ j l. absurd (omega arith);
      root = (refl, refl);
      parent = λ k z l. absurd (omega arith);
      parent_port = λ k z l. absurd (omega arith);
      parent_carries = λ k z l. absurd (omega arith);
      unused_int = λ j l. same_everywhere 15 j no_interconnect;
      unused_acc = λ a l. same_everywhere 32 a no_accelerator;
      gap = λ a e. same_everywhere 32 a no_accelerator;
      used = λ a h. absurd (no_limit empty_tree a (same_everywhere 32 a no_accelerator) h);
      acc_place = λ j p a e. absurd (not_acc _ a (no_port j p) e);
      int_place = λ j p k e. absurd (not_int _ k (no_port j p) e);
    }

-- the limits of a bus line, and of a bus3 line, are the rules of its bus
pub bus_rules : (a : Bool) (v : List ℕ) → limits_kept (bus_kind a) v ≡ bus_keeps (bus_of a v)
unfolding all bus_keeps
bus_rules true v = refl
bus_rules false v = refl

pub partial_bus : (t : Tree) (b : Bus) → Partial t → bus_keeps b ≡ true → Partial (with_bus t b)
partial_bus t b P e =
    record {
      ints_size = P.ints_size;
      accs_size = P.accs_size;
      ports_size = P.ports_size;
      bus = λ h. e;
      most_ints = P.most_ints;
      most_accs = P.most_accs;
      granularity = P.granularity;
      level = λ j l. subst (λ (k : ℕ). k ≤ 4) (sym (level_same t (with_bus t b) t.ints (λ k h. refl) P.parent j l)) (P.level j l);
      root = P.root;
      parent = P.parent;
      parent_port = P.parent_port;
      parent_carries = P.parent_carries;
      unused_int = P.unused_int;
      unused_acc = P.unused_acc;
      gap = P.gap;
      used = λ a h. let U = P.used a h in
          record {
            home = U.home;
            home_port = U.home_port;
            home_carries = U.home_carries;
            phi = U.phi;
            budget = U.budget;
            reads = U.reads;
            writes = U.writes;
            computing = U.computing;
            period = U.period;
          };
      acc_place = P.acc_place;
      int_place = P.int_place;
    }

-- the root is the first interconnect
module _ (t : Tree) (g : ℕ) (P : Partial t) (none : t.ints ≡ 0) (g1 : 1 ≤ g) (g16 : g ≤ 16) where
  pub root_size : 0 < length t.interconnects
  root_size = omega (arith, P.ints_size)

  pub root_blank : (k : ℕ) → (k ≡ 0 → ⊥) → interconnect_of (with_root t g) k ≡ no_interconnect
  root_blank k d = new_other t 0 0 0 g root_size k d ∙ P.unused_int k (omega arith)

  pub root_ports : (j p : ℕ) → port_of (with_root t g) j p ≡ Empty
  root_ports j p =
      each_number (λ k. port_of (with_root t g) k p ≡ Empty) 0 (new_port t 0 0 0 g root_size p) (λ k d. blank_port (with_root t g) k p (root_blank k d)) j

  root_ports_size : (j : ℕ) → length (interconnect_of (with_root t g) j).ports ≡ 8
  root_ports_size =
      each_number (λ k. length (interconnect_of (with_root t g) k).ports ≡ 8) 0 (ap ports_in (new_here t 0 0 0 g root_size)) (λ k d. ap ports_in (root_blank k d))

  pub partial_root : t.accs ≡ 0 → Partial (with_root t g)
  partial_root no-accs =
      let new = new_here t 0 0 0 g root_size in
      record {
        ints_size = length-set t.interconnects 0 _ ∙ P.ints_size;
        accs_size = P.accs_size;
        ports_size = root_ports_size;
        bus = P.bus;
        most_ints = omega arith;
        most_accs = P.most_accs;
        granularity = λ j l. subst (λ (k : ℕ). (1 ≤ granularity_of (with_root t g) k) × (granularity_of (with_root t g) k ≤ 16)) (first j l)
            (omega (arith, ap (λ (c : Interconnect). c.granularity) new));
        level = λ j l. subst (λ (k : ℕ). level_of (with_root t g) k ≤ 4) (first j l) (omega (arith, above_top 15 (with_root t g) 0 refl));
        root = (ap (λ (c : Interconnect). c.parent) new, ap (λ (c : Interconnect). c.port) new);
        parent = λ k z l. absurd (omega (arith, first k l));
        parent_port = λ k z l. absurd (omega (arith, first k l));
        parent_carries = λ k z l. absurd (omega (arith, first k l));
        unused_int = λ j l. root_blank j (omega arith);
        unused_acc = P.unused_acc;
        gap = P.gap;
        used = λ a h. absurd (no_limit t a (P.unused_acc a (omega arith)) h);
        acc_place = λ j p a e. absurd (not_acc _ a (root_ports j p) e);
        int_place = λ j p k e. absurd (not_int _ k (root_ports j p) e);
      }
    where
      first : (j : ℕ) → j < t.ints + 1 → 0 ≡ j
      first j l = omega arith

-- a child is stored in its parent's port and as one interconnect more
module _ (t : Tree) (j parent port g : ℕ) (P : Partial t) (next : j ≡ t.ints) (bound : j < 15) (down : parent < j) (in_port : port < 8)
    (free : port_of t parent port ≡ Empty) where
  abbrev pub carried : Tree
  carried = with_port t parent port (Int j)

  abbrev pub child : Tree
  child = with_child t j parent port g

  parent_size : parent < length t.interconnects
  parent_size = omega (arith, P.ints_size)

  child_size : j < length carried.interconnects
  child_size = omega (arith, P.ints_size, length-set t.interconnects parent (carrying (interconnect_of t parent) port (Int j)))

  pub child_new : interconnect_of child j ≡ record { parent = parent; port = port; granularity = g; ports = replicate 8 empty_cell }
  child_new = new_here carried j parent port g child_size

  child_old : (k : ℕ) → (k ≡ j → ⊥) → interconnect_of child k ≡ interconnect_of carried k
  child_old k d = new_other carried j parent port g child_size k d

  pub child_parent : (k : ℕ) → (k ≡ j → ⊥) → parent_of child k ≡ parent_of t k
  child_parent k d = ap (λ (c : Interconnect). c.parent) (child_old k d) ∙ stored_parent t parent port (Int j) parent_size k

  pub child_parent_port : (k : ℕ) → (k ≡ j → ⊥) → parent_port_of child k ≡ parent_port_of t k
  child_parent_port k d = ap (λ (c : Interconnect). c.port) (child_old k d) ∙ stored_parent_port t parent port (Int j) parent_size k

  pub child_granularity : (k : ℕ) → (k ≡ j → ⊥) → granularity_of child k ≡ granularity_of t k
  child_granularity k d = ap (λ (c : Interconnect). c.granularity) (child_old k d) ∙ stored_granularity t parent port (Int j) parent_size k

  child_ports_size : (k : ℕ) → length (interconnect_of child k).ports ≡ 8
  child_ports_size =
      each_number (λ k. length (interconnect_of child k).ports ≡ 8) j (ap ports_in child_new)
      (λ k d. ap ports_in (child_old k d) ∙ stored_size t parent port (Int j) parent_size k ∙ P.ports_size k)

  pub child_port_new : (q : ℕ) → port_of child j q ≡ Empty
  child_port_new q = ap (port_in q) child_new ∙ ap (λ (c : PortCell). c.port) (same_everywhere 8 q empty_cell)

  pub child_port_at : port_of child parent port ≡ Int j
  child_port_at =
      ap (port_in port) (child_old parent (omega arith))
      ∙ stored_at t parent port (Int j) parent_size (omega (arith, P.ports_size parent))

  pub child_port_other : (k q : ℕ) → (k ≡ j → ⊥) → (k ≡ parent → q ≡ port → ⊥) → port_of child k q ≡ port_of t k q
  child_port_other k q d f = ap (port_in q) (child_old k d) ∙ stored_apart t parent port (Int j) parent_size k q f

  -- what a port of the new tree carries
  data PortOf (k q : ℕ) : Type 0 where
    of_new : port_of child k q ≡ Empty → PortOf k q
    of_parent : k ≡ parent → q ≡ port → port_of child k q ≡ Int j → PortOf k q
    of_old : port_of child k q ≡ port_of t k q → PortOf k q

  port_of_lem : (k q : ℕ) → PortOf k q
  port_of_lem k q =
      each_number (λ i. PortOf i q) j (of_new (child_port_new q))
      (λ i d. each_port (λ n r. (n ≡ j → ⊥) → PortOf n r) parent port (λ e. of_parent refl refl child_port_at)
      (λ n r f e. of_old (child_port_other n r e f)) i q d) k

  child_int_place : (k q m : ℕ) → port_of child k q ≡ Int m → PortOf k q
      → (0 < m) × (m < t.ints + 1) × (parent_of child m ≡ k) × (parent_port_of child m ≡ q)
  child_int_place k q m e (of_new f) = absurd (not_int _ m f e)
  child_int_place k q m e (of_parent f h i) =
      let s = same_int _ j m i e in
      subst (λ (x : ℕ). (0 < x) × (x < t.ints + 1) × (parent_of child x ≡ k) × (parent_port_of child x ≡ q)) (sym s)
      (omega arith, omega arith, ap (λ (c : Interconnect). c.parent) child_new ∙ sym f, ap (λ (c : Interconnect). c.port) child_new ∙ sym h)
  child_int_place k q m e (of_old f) =
      let o = P.int_place k q m (sym f ∙ e) in
      (o.0, omega (arith, o.1), child_parent m (omega (arith, o.1)) ∙ o.2, child_parent_port m (omega (arith, o.1)) ∙ o.3)

  child_acc_place : (k q a : ℕ) → port_of child k q ≡ Acc a → PortOf k q → (0 < phi_of t a) × (home_of t a ≡ k) × (home_port_of t a ≡ q)
  child_acc_place k q a e (of_new f) = absurd (not_acc _ a f e)
  child_acc_place k q a e (of_parent f h i) = absurd (acc_not_int _ j a i e)
  child_acc_place k q a e (of_old f) = P.acc_place k q a (sym f ∙ e)

  -- a fact of each interconnect, of the new one and of those before
  split : (F : ℕ → Type 0) → F j → ((k : ℕ) → k < t.ints → F k) → (k : ℕ) → k < t.ints + 1 → F k
  split F new old = each_number (λ k. k < t.ints + 1 → F k) j (λ l. new) (λ k d l. old k (omega arith))

  child_carries : (k : ℕ) → 0 < k → k < t.ints → port_of child (parent_of child k) (parent_port_of child k) ≡ Int k
  child_carries k z l =
      let c = P.parent_carries k z l in
      let d = P.parent k z l in
      let full : parent_of t k ≡ parent → parent_port_of t k ≡ port → ⊥ = λ a b. not_int _ k free (ap₂ (port_of t) (sym a) (sym b) ∙ c) in
      ap₂ (port_of child) (child_parent k (omega arith)) (child_parent_port k (omega arith))
      ∙ child_port_other (parent_of t k) (parent_port_of t k) (omega arith) full ∙ c

  unchanged : (k : ℕ) → t.ints + 1 ≤ k → interconnect_of carried k ≡ no_interconnect
  unchanged k l = stored_other t parent port (Int j) parent_size k (omega arith) ∙ P.unused_int k (omega arith)

  pub partial_child : level_of t parent < 4 → t.accs ≡ 0 → 1 ≤ g → g ≤ 16 → Partial (with_child t j parent port g)
  partial_child low no-accs g1 g16 =
      let above_of = ap (λ (c : Interconnect). c.parent) child_new in
      let port-on = ap (λ (c : Interconnect). c.port) child_new in
      let levels = level_same t child t.ints (λ k h. child_parent k (omega arith)) P.parent in
      record {
        ints_size = length-set (set t.interconnects parent _) j _ ∙ length-set t.interconnects parent _ ∙ P.ints_size;
        accs_size = P.accs_size;
        ports_size = child_ports_size;
        bus = P.bus;
        most_ints = omega arith;
        most_accs = P.most_accs;
        granularity = split (λ k. (1 ≤ granularity_of child k) × (granularity_of child k ≤ 16))
            (omega (arith, ap (λ (c : Interconnect). c.granularity) child_new))
            (λ k l. subst (λ (x : ℕ). (1 ≤ x) × (x ≤ 16)) (sym (child_granularity k (omega arith))) (P.granularity k l));
        level = split (λ k. level_of child k ≤ 4)
            (let u = level_child child j (omega arith) in let w = ap (level_of child) above_of ∙ levels parent (omega arith) in omega arith)
            (λ k l. subst (λ (x : ℕ). x ≤ 4) (sym (levels k l)) (P.level k l));
        root = (child_parent 0 (omega arith) ∙ P.root.0, child_parent_port 0 (omega arith) ∙ P.root.1);
        parent = λ k z l. split (λ i. 0 < i → parent_of child i < i) (λ y. omega (arith, above_of))
            (λ i h y. omega (arith, child_parent i (omega arith), P.parent i y h)) k l z;
        parent_port = λ k z l. split (λ i. 0 < i → parent_port_of child i < 8) (λ y. omega (arith, port-on))
            (λ i h y. omega (arith, child_parent_port i (omega arith), P.parent_port i y h)) k l z;
        parent_carries = λ k z l. split (λ i. 0 < i → port_of child (parent_of child i) (parent_port_of child i) ≡ Int i)
            (λ y. ap₂ (port_of child) above_of port-on ∙ child_port_at) (λ i h y. child_carries i y h) k l z;
        unused_int = λ k l. child_old k (omega arith) ∙ unchanged k (omega arith);
        unused_acc = P.unused_acc;
        gap = P.gap;
        used = λ a h. absurd (no_limit t a (P.unused_acc a (omega arith)) h);
        acc_place = λ k q a e. child_acc_place k q a e (port_of_lem k q);
        int_place = λ k q m e. child_int_place k q m e (port_of_lem k q);
      }

-- an accelerator is stored in its port and as its record
module _ (t : Tree) (v : List ℕ) (P : Partial t) (e : limits_kept AccLine v ≡ true) (known : get_or v 1 0 < t.ints)
    (once : phi_of t (get_or v 0 0) ≡ 0) (free : port_of t (get_or v 1 0) (get_or v 2 0) ≡ Empty) where
  abbrev number : ℕ
  number = get_or v 0 0

  abbrev home : ℕ
  home = get_or v 1 0

  abbrev port : ℕ
  port = get_or v 2 0

  abbrev grown : Tree
  grown = with_acc t v

  pub home_size : get_or v 1 0 < length t.interconnects
  home_size = omega (arith, P.ints_size, P.most_ints)

  pub acc_size : get_or v 0 0 < length t.accelerators
  acc_size = omega (arith, P.accs_size, most AccLine v e 0 (lit< tt))

  pub acc_new : accelerator_of (with_acc t v) (get_or v 0 0) ≡ acc_of v
  acc_new = get_or-set_same t.accelerators (get_or v 0 0) (acc_of v) no_accelerator acc_size

  pub acc_old : (b : ℕ) → (b ≡ get_or v 0 0 → ⊥) → accelerator_of (with_acc t v) b ≡ accelerator_of t b
  acc_old b d = get_or-set_other t.accelerators (get_or v 0 0) b (acc_of v) no_accelerator d

  -- a port that carries something is not the one that was free
  elsewhere : (j p : ℕ) (x : Port) → port_of t j p ≡ x → (x ≡ Empty → ⊥) → port_of (with_acc t v) j p ≡ x
  elsewhere j p x f d =
      stored_apart t home port (Acc number) home_size j p (λ i q. d (sym f ∙ ap₂ (port_of t) i q ∙ free)) ∙ f

  pub acc_at : port_of (with_acc t v) (get_or v 1 0) (get_or v 2 0) ≡ Acc (get_or v 0 0)
  acc_at = stored_at t home port (Acc number) home_size (omega (arith, P.ports_size home, most AccLine v e 2 (lit< tt)))

  data AccPort (j p : ℕ) : Type 0 where
    of_acc : j ≡ home → p ≡ port → port_of grown j p ≡ Acc number → AccPort j p
    of_rest : port_of grown j p ≡ port_of t j p → AccPort j p

  acc_port : (j p : ℕ) → AccPort j p
  acc_port = each_port AccPort home port (of_acc refl refl acc_at) (λ j p d. of_rest (stored_apart t home port (Acc number) home_size j p d))

  -- the record of an accelerator that was read before
  other : (b : ℕ) → 0 < phi_of t b → accelerator_of (with_acc t v) b ≡ accelerator_of t b
  other b h = acc_old b (λ q. let z = ap (phi_of t) q in omega (arith, once))

  new_limit : 0 < phi_of grown number
  new_limit = omega (arith, ap (λ (x : Accelerator). x.phi) acc_new, least AccLine v e 3 (lit< tt))

  new_home : home_of grown number ≡ home
  new_home = ap (λ (x : Accelerator). x.interconnect) acc_new

  new_home_port : home_port_of grown number ≡ port
  new_home_port = ap (λ (x : Accelerator). x.port) acc_new

  acc_acc_place : (j p b : ℕ) → port_of grown j p ≡ Acc b → AccPort j p
      → (0 < phi_of grown b) × (home_of grown b ≡ j) × (home_port_of grown b ≡ p)
  acc_acc_place j p b f (of_acc i q g) =
      subst (λ (n : ℕ). (0 < phi_of grown n) × (home_of grown n ≡ j) × (home_port_of grown n ≡ p)) (sym (same_acc_lem _ number b g f))
      (new_limit, new_home ∙ sym i, new_home_port ∙ sym q)
  acc_acc_place j p b f (of_rest g) =
      let o = P.acc_place j p b (sym g ∙ f) in
      let r = other b o.0 in
      (omega (arith, ap (λ (x : Accelerator). x.phi) r, o.0), ap (λ (x : Accelerator). x.interconnect) r ∙ o.1, ap (λ (x : Accelerator). x.port) r ∙ o.2)

  parents : (k : ℕ) → parent_of grown k ≡ parent_of t k
  parents = stored_parent t home port (Acc number) home_size

  parent_ports_lem : (k : ℕ) → parent_port_of grown k ≡ parent_port_of t k
  parent_ports_lem = stored_parent_port t home port (Acc number) home_size

  acc_int_place : (j p k : ℕ) → port_of grown j p ≡ Int k → AccPort j p
      → (0 < k) × (k < t.ints) × (parent_of grown k ≡ j) × (parent_port_of grown k ≡ p)
  acc_int_place j p k f (of_acc i q g) = absurd (acc_not_int _ k number f g)
  acc_int_place j p k f (of_rest g) =
      let o = P.int_place j p k (sym g ∙ f) in
      (o.0, o.1, parents k ∙ o.2, parent_ports_lem k ∙ o.3)

  used_new : Used (with_acc t v) (get_or v 0 0)
  used_new =
      record {
        home = omega (arith, new_home);
        home_port = omega (arith, new_home_port, most AccLine v e 2 (lit< tt));
        home_carries = ap₂ (port_of grown) new_home new_home_port ∙ acc_at;
        phi = omega (arith, ap (λ (x : Accelerator). x.phi) acc_new, most AccLine v e 3 (lit< tt));
        budget = omega (arith, ap (λ (x : Accelerator). x.budget) acc_new, least AccLine v e 4 (lit< tt), most AccLine v e 4 (lit< tt));
        reads = omega (arith, ap (λ (x : Accelerator). x.reads) acc_new, most AccLine v e 5 (lit< tt));
        writes = omega (arith, ap (λ (x : Accelerator). x.writes) acc_new, most AccLine v e 6 (lit< tt));
        computing = omega (arith, ap (λ (x : Accelerator). x.computing) acc_new, most AccLine v e 7 (lit< tt));
        period = omega (arith, ap (λ (x : Accelerator). x.period) acc_new, least AccLine v e 8 (lit< tt), most AccLine v e 8 (lit< tt));
      }

  -- a tree whose record of b is the same, with b's port still carrying it, uses b as before
  used_old : (b : ℕ) → Used t b → 0 < phi_of t b → Used (with_acc t v) b
  used_old b U h =
      let r = other b h in
      record {
        home = omega (arith, U.home, ap (λ (x : Accelerator). x.interconnect) r);
        home_port = omega (arith, U.home_port, ap (λ (x : Accelerator). x.port) r);
        home_carries =
            ap₂ (port_of grown) (ap (λ (x : Accelerator). x.interconnect) r) (ap (λ (x : Accelerator). x.port) r)
            ∙ elsewhere (home_of t b) (home_port_of t b) (Acc b) U.home_carries (λ q. clash cc);
        phi = omega (arith, U.phi, ap (λ (x : Accelerator). x.phi) r);
        budget = omega (arith, U.budget, ap (λ (x : Accelerator). x.budget) r);
        reads = omega (arith, U.reads, ap (λ (x : Accelerator). x.reads) r);
        writes = omega (arith, U.writes, ap (λ (x : Accelerator). x.writes) r);
        computing = omega (arith, U.computing, ap (λ (x : Accelerator). x.computing) r);
        period = omega (arith, U.period, ap (λ (x : Accelerator). x.period) r);
      }

  pub partial_acc : Partial (with_acc t v)
  partial_acc =
      record {
        ints_size = length-set t.interconnects (get_or v 1 0) _ ∙ P.ints_size;
        accs_size = length-set t.accelerators (get_or v 0 0) _ ∙ P.accs_size;
        ports_size = λ j. stored_size t home port (Acc number) home_size j ∙ P.ports_size j;
        bus = P.bus;
        most_ints = P.most_ints;
        most_accs = omega (arith, P.most_accs, most AccLine v e 0 (lit< tt));
        granularity = λ j l. omega (arith, stored_granularity t home port (Acc number) home_size j, P.granularity j l);
        level = λ j l. subst (λ (x : ℕ). x ≤ 4) (sym (level_same t (with_acc t v) t.ints (λ k h. parents k) P.parent j l)) (P.level j l);
        root = (parents 0 ∙ P.root.0, parent_ports_lem 0 ∙ P.root.1);
        parent = λ k z l. subst (λ (x : ℕ). x < k) (sym (parents k)) (P.parent k z l);
        parent_port = λ k z l. subst (λ (x : ℕ). x < 8) (sym (parent_ports_lem k)) (P.parent_port k z l);
        parent_carries = λ k z l.
            ap₂ (port_of grown) (parents k) (parent_ports_lem k)
            ∙ elsewhere (parent_of t k) (parent_port_of t k) (Int k) (P.parent_carries k z l) (λ q. clash cc);
        unused_int = λ j l. stored_other t home port (Acc number) home_size j (omega arith) ∙ P.unused_int j l;
        unused_acc = λ b l. acc_old b (omega arith) ∙ P.unused_acc b (omega arith);
        gap = λ b z. elim (ℕ_discrete b number) [
          | yes q ↦ absurd (let y = ap (phi_of grown) q in omega (arith, new_limit))
          | no d ↦ acc_old b d ∙ P.gap b (sym (ap (λ (x : Accelerator). x.phi) (acc_old b d)) ∙ z)
        ];
        used = λ b h. elim (ℕ_discrete b number) [
          | yes q ↦ subst (Used grown) (sym q) used_new
          | no d ↦ let k : 0 < phi_of t b = omega (arith, ap (λ (x : Accelerator). x.phi) (acc_old b d)) in used_old b (P.used b k) k
        ];
        acc_place = λ j p b f. acc_acc_place j p b f (acc_port j p);
        int_place = λ j p k f. acc_int_place j p k f (acc_port j p);
      }

-- an answer that is accepted has a tree that keeps the rules of what is read so far
abbrev Fine : TreeRead → Type 0
Fine r = r.answer ≡ Accepted → Partial r.tree

pub never_refused : (A : Type 0) (x : Refusal) (n : ℕ) → Refused x n ≡ Accepted → A
never_refused A x n e = clash cc

pub never_broken : {A : Type 0} → Broken ≡ Accepted → A
never_broken e = clash cc

fine_pick : (c : Bool) (x : Refusal) (n : ℕ) (y : TreeRead) → (c ≡ false → Fine y) → Fine (pick c (refused_at x n) y)
fine_pick true x n y f e = never_refused _ x n e
fine_pick false x n y f e = f refl e

fine_choice : (c : Bool) (x y : TreeRead) → (c ≡ true → Fine x) → (c ≡ false → Fine y) → Fine (pick c x y)
fine_choice true x y f g e = f refl e
fine_choice false x y f g e = g refl e

pub is_empty_lem : (x : Port) → is_empty x ≡ true → x ≡ Empty
is_empty_lem Empty e = refl
is_empty_lem (Acc a) e = clash cc
is_empty_lem (Int j) e = clash cc

-- what an int line in order says
module _ (t : Tree) (l : Line) (e : int_in_order t l ≡ true) where
  pub order_start : (ltb 0 t.bus.window && eqb t.accs 0 && eqb (value_at l 0) t.ints ≡ true) × (root_rule l ≡ true)
  order_start = both _ (root_rule l) e

  pub order_accs : t.accs ≡ 0
  order_accs = eqb-true _ _ (both (ltb 0 t.bus.window) _ (both (ltb 0 t.bus.window && eqb t.accs 0) _ order_start.0).0).1

  pub order_number : value_at l 0 ≡ t.ints
  order_number = eqb-true _ _ (both (ltb 0 t.bus.window && eqb t.accs 0) _ order_start.0).1

  pub order_parent : (value_at l 0 ≡ 0 → ⊥) → value_at l 1 < value_at l 0
  order_parent d =
      let c = sym (passed _ _ _ (ne_eqb _ _ d)) ∙ order_start.1 in
      ltb-true _ _ (both (not (dash_at l 1) && not (dash_at l 2)) (ltb (value_at l 1) (value_at l 0)) c).1

fine_bus : (n : ℕ) (t : Tree) (a : Bool) (v : List ℕ) → Partial t → limits_kept (bus_kind a) v ≡ true → Fine (bus_line n t a v)
unfolding bus_line
fine_bus n t a v P e =
    fine_pick (ltb 0 t.bus.window) Order n (given (with_bus t (bus_of a v))) (λ c f. partial_bus t (bus_of a v) P (sym (bus_rules a v) ∙ e))

fine_int : (n : ℕ) (t : Tree) (l : Line) → Partial t → limits_kept IntLine l.values ≡ true → Fine (int_line n t l)
unfolding int_line child_line
fine_int n t l P e =
    fine_pick (not (int_in_order t l)) _ n _ λ c.
    let o : int_in_order t l ≡ true = not-false _ c in
    let g1 = least IntLine l.values e 3 (lit< tt) in
    let g16 = most IntLine l.values e 3 (lit< tt) in
    fine_choice (eqb (value_at l 0) 0) _ _
    (λ z f. partial_root t (value_at l 3) P (sym (order_number t l o) ∙ eqb-true _ _ z) g1 g16 (order_accs t l o))
    (λ z. fine_pick (not (is_empty (port_of t (value_at l 1) (value_at l 2)))) _ n _ λ p.
    fine_pick (leb 4 (level_of t (value_at l 1))) _ n _ λ h f.
    partial_child t (value_at l 0) (value_at l 1) (value_at l 2) (value_at l 3) P (order_number t l o)
    (omega (arith, most IntLine l.values e 0 (lit< tt)))
    (order_parent t l o (eqb-false _ _ z))
    (omega (arith, most IntLine l.values e 2 (lit< tt)))
    (is_empty_lem _ (not-false _ p)) (leb-false _ _ h) (order_accs t l o) g1 g16)

fine_acc : (n : ℕ) (t : Tree) (v : List ℕ) → Partial t → limits_kept AccLine v ≡ true → Fine (acc_line n t v)
unfolding acc_line
fine_acc n t v P e =
    fine_pick (leb t.ints (get_or v 1 0)) _ n _ λ h.
    fine_pick (ltb 0 (phi_of t (get_or v 0 0))) _ n _ λ k.
    fine_pick (not (is_empty (port_of t (get_or v 1 0) (get_or v 2 0)))) _ n _ λ p f.
    partial_acc t v P e (leb-false _ _ h) (let z = ltb-false 0 (phi_of t (get_or v 0 0)) k in omega arith) (is_empty_lem _ (not-false _ p))

fine_record : (n : ℕ) (t : Tree) (l : Line) → Partial t → (k : Kind) → limits_kept k l.values ≡ true → Fine (record_line k n t l)
fine_record n t l P NoRecord e f = never_refused _ _ n f
fine_record n t l P BusLine e f = fine_bus n t false l.values P e f
fine_record n t l P IntLine e f = fine_int n t l P e f
fine_record n t l P AccLine e f = fine_acc n t l.values P e f
fine_record n t l P OfferLine e f = never_refused _ _ n f
fine_record n t l P Bus3Line e f = fine_bus n t true l.values P e f

pub fine_line : (n : ℕ) (t : Tree) (l : Line) → Partial t → Fine (tree_line n t l)
unfolding tree_line
fine_line n t l P =
    fine_pick (not (in_tree l.kind && shaped l)) _ n _ λ c.
    fine_pick (not (limits_kept l.kind l.values)) _ n _ λ d.
    fine_record n t l P l.kind (not-false _ d)

-- at the end
module _ (t : Tree) (P : Partial t) where
  port_kept : (j p : ℕ) (x : Port) → port_of t j p ≡ x → carries t j p x ≡ true
  unfolding carries
  port_kept j p Empty e = refl
  port_kept j p (Acc a) e =
      let o = P.acc_place j p a e in
      simp tests ((below a o.0, o.1), o.2)
    where
      below : (a : ℕ) → 0 < phi_of t a → a < t.accs
      below a h = elim (dec_lt a t.accs) [ yes l ↦ l | no d ↦ absurd (no_limit t a (P.unused_acc a (omega arith)) h) ]
  port_kept j p (Int k) e =
      let o = P.int_place j p k e in
      simp tests (((o.0, o.1), o.2), o.3)

  up_to_7 : {n : ℕ} → n < 8 → n ≤ 7
  up_to_7 h = omega arith

  placed_kept : (j : ℕ) → j < t.ints → is_placed t j ≡ true
  unfolding root_placed child_placed
  placed_kept j l = elim (ℕ_discrete j 0) [
    | yes e ↦ picked _ _ _ (eq-eqb j 0 e) ∙ simp tests (P.root.0, P.root.1)
    | no d ↦
        let carried = ap (is_int j) (P.parent_carries j (omega arith) l) ∙ eq-eqb j j refl in
        passed _ _ _ (ne_eqb j 0 d) ∙ simp tests ((P.parent j (omega arith) l, up_to_7 (P.parent_port j (omega arith) l)), carried)
  ]

  used_int_kept : (j : ℕ) → j < t.ints → used_interconnect t j ≡ true
  unfolding used_interconnect
  used_int_kept j l = simp tests (((P.granularity j l, placed_kept j l), P.level j l), λ p h. port_kept j p (port_of t j p) refl)

  unused_int_kept : (j : ℕ) → t.ints ≤ j → unused_interconnect t j ≡ true
  unfolding unused_interconnect
  unused_int_kept j l =
      let e = P.unused_int j l in
      let g = ap (λ (c : Interconnect). c.granularity) e in
      let i = ap (λ (c : Interconnect). c.parent) e in
      let p = ap (λ (c : Interconnect). c.port) e in
      simp tests (((g, i), p), λ p h. ap is_empty (blank_port t j p e))

  int_kept : (j : ℕ) → interconnect_keeps t j ≡ true
  int_kept j = elim (dec_lt j t.ints) [
    | yes l ↦ picked _ _ _ (lt-ltb _ _ l) ∙ used_int_kept j l
    | no d ↦ passed _ _ _ (le-ltb j t.ints (omega arith)) ∙ unused_int_kept j (omega arith)
  ]

  used_acc_kept : (a : ℕ) → 0 < phi_of t a → used_accelerator t a ≡ true
  unfolding used_accelerator
  used_acc_kept a h =
      let U = P.used a h in
      let port = up_to_7 U.home_port in
      let carried = ap (is_acc a) U.home_carries ∙ eq-eqb a a refl in
      let low : (n : ℕ) → 0 ≤ n = λ n. omega arith in
      simp tests ((((((((U.home, port), carried), (h, U.phi)), U.budget), (low _, U.reads)), (low _, U.writes)), (low _, U.computing)), U.period)

  abbrev blank : Accelerator → Bool
  blank x =
      eqb x.interconnect 0 && eqb x.port 0 && eqb x.phi 0 && eqb x.budget 0
      && eqb x.reads 0 && eqb x.writes 0 && eqb x.computing 0 && eqb x.period 0

  acc_kept : (a : ℕ) → ((b : ℕ) → b < t.accs → 0 < phi_of t b) → accelerator_keeps t a ≡ true
  unfolding unused_accelerator
  acc_kept a full = elim (dec_lt a t.accs) [
    | yes l ↦ picked _ _ _ (lt-ltb _ _ l) ∙ used_acc_kept a (full a l)
    | no d ↦ passed _ _ _ (le-ltb a t.accs (omega arith)) ∙ ap blank (P.unused_acc a (omega arith))
  ]

  pub whole_kept : complete t ≡ true → tree_keeps t ≡ true
  unfolding tree_keeps
  whole_kept e =
      let h = both (ltb 0 t.bus.window && ltb 0 t.ints && ltb 0 t.accs) _ e in
      let g = both (ltb 0 t.bus.window && ltb 0 t.ints) _ h.0 in
      let w = both (ltb 0 t.bus.window) _ g.0 in
      let full : (b : ℕ) → b < t.accs → 0 < phi_of t b = λ b l. ltb-true _ _ (all_at t.accs (λ a. ltb 0 (phi_of t a)) h.1 b l) in
      let bus = P.bus (ltb-true _ _ w.0) in
      let ints = ltb-true _ _ w.1 in
      let accs = ltb-true _ _ g.1 in
      let each : (a : ℕ) → a < 32 → accelerator_keeps t a ≡ true = λ a l. acc_kept a full in
      simp tests (((((((P.ints_size, P.accs_size), λ j l. P.ports_size j), bus), (ints, P.most_ints)), (accs, P.most_accs)), λ j l. int_kept j), each)

-- every tree that the lines give keeps its rules
kept_finish : (n : ℕ) (t : Tree) → Partial t → (finish n t).answer ≡ Accepted → tree_keeps (finish n t).tree ≡ true
unfolding finish
kept_finish n t P e = go (complete t) refl
  where
    go : (c : Bool) → complete t ≡ c → tree_keeps (pick (complete t) (given t) (refused_at Order n)).tree ≡ true
    go true f = ap (λ (r : TreeRead). tree_keeps r.tree) (picked _ (given t) (refused_at Order n) f) ∙ whole_kept t P f
    go false f = never_refused _ Order n (sym (ap (λ (r : TreeRead). r.answer) (passed _ (given t) (refused_at Order n) f)) ∙ e)

pub kept_lines : (ls : List (List ℕ)) (n : ℕ) (t : Tree) (u : List ℕ) → Partial t → (read_lines n t ls u).answer ≡ Accepted
    → tree_keeps (read_lines n t ls u).tree ≡ true
unfolding read_lines
kept_lines [] n t u P e = go (eqb (length u) 0) refl
  where
    go : (c : Bool) → eqb (length u) 0 ≡ c → tree_keeps (pick (eqb (length u) 0) (finish n t) (refused_at Shape n)).tree ≡ true
    go true f =
        let q = picked _ (finish n t) (refused_at Shape n) f in
        ap (λ (r : TreeRead). tree_keeps r.tree) q ∙ kept_finish n t P (sym (ap (λ (r : TreeRead). r.answer) q) ∙ e)
    go false f = never_refused _ Shape n (sym (ap (λ (r : TreeRead). r.answer) (passed _ (finish n t) (refused_at Shape n) f)) ∙ e)
kept_lines (l ∷ ls) n t u P e = go (tree_line n t (line_of l)).answer refl (kept_lines ls (n + 1) (tree_line n t (line_of l)).tree u)
  where
    r : TreeRead
    r = tree_line n t (line_of l)

    next : TreeRead
    next = read_lines (n + 1) (tree_line n t (line_of l)).tree ls u

    go : (k : FileAnswer) → r.answer ≡ k → (Partial r.tree → next.answer ≡ Accepted → tree_keeps next.tree ≡ true)
        → tree_keeps (onward r.answer r next).tree ≡ true
    go Accepted f ih =
        let q = ap (λ (k : FileAnswer). onward k r next) f in
        ap (λ (x : TreeRead). tree_keeps x.tree) q ∙ ih (fine_line n t (line_of l) P f) (sym (ap (λ (x : TreeRead). x.answer) q) ∙ e)
    go (Refused x m) f ih =
        let q = ap (λ (k : FileAnswer). onward k r next) f in
        never_refused _ x m (sym f ∙ sym (ap (λ (x : TreeRead). x.answer) q) ∙ e)
    go Broken f ih =
        let q = ap (λ (k : FileAnswer). onward k r next) f in
        never_broken (sym f ∙ sym (ap (λ (x : TreeRead). x.answer) q) ∙ e)

-- "An accepted tree is a configuration that keeps its rules"
pub accepted_keeps : (s : List ℕ) → (read_tree s).answer ≡ Accepted → tree_keeps (read_tree s).tree ≡ true
accepted_keeps s e = elim (dec_lt 65536 (length s)) [
  | yes h ↦ never_refused _ Limit 0 (sym (ap (λ (r : TreeRead). r.answer) (tree_size s h)) ∙ e)
  | no h ↦
      let q = tree_start s (omega arith) in
      ap (λ (r : TreeRead). tree_keeps r.tree) q
      ∙ kept_lines (lines s) 1 empty_tree (unended s) partial_empty (sym (ap (λ (r : TreeRead). r.answer) q) ∙ e)
]
