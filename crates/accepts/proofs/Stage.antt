-- Every configuration that keeps its rules is read from its text. What is read so far agrees with the configuration in its
-- first k interconnects and m accelerators (`Agrees`); the next line is accepted and agrees with one more, because the tests
-- are what the rules say; at the end both are equal. By the laws of what a line stores, and by induction on what is left.
use Prim.Native.Nat.{ℕ, ◌+◌, ◌≤◌, ◌<◌}
use mathlib.Core.Bool.{Bool, true, false, ◌&&◌}
use mathlib.Core.List.{List, [], ◌∷◌}
use mathlib.Core.Path.{◌≡◌, refl, sym, ◌∙◌, ap, subst}
use native.Mathlib.Decide.{dec_lt}
use native.Mathlib.Omega.{arith}
use lib.Dec.{ltb, leb, lit<, lit≤}
use lib.ListN.{length, get_or, get_or-replicate}
use lib.Seq.{ext_get_or}
use borrow.Author.Tests.{lt-ltb, le-ltb, le-leb, eq-eqb, ne_eqb}
use Rattle.model.specs.declared.Tree.{Tree}
use Rattle.model.specs.declared.Bus.{Bus}
use Rattle.model.specs.declared.Interconnect.{Interconnect}
use Rattle.model.specs.declared.Accelerator.{Accelerator}
use Rattle.model.specs.declared.PortCell.{PortCell}
use Rattle.model.specs.declared.Port.{Port}
use Rattle.model.specs.declared.Port.TheVariants.{Empty, Acc, Int}
use Rattle.folds.specs.Fold.{pick, all, within}
use Rattle.model.specs.Tree.{empty_cell, no_interconnect, no_accelerator, interconnect_of, granularity_of, parent_of, parent_port_of, level_of}
use Rattle.model.specs.Tree.{accelerator_of, port_of, home_of, home_port_of, phi_of, budget_of}
use Rattle.rules.specs.Rules.{is_empty, bus_keeps, root_placed, interconnect_keeps, used_interconnect, unused_interconnect, tree_keeps}
use Rattle.rules.specs.Rules.{unused_accelerator}
use Rattle.folds.proofs.Folds.{picked, passed, tests, joined, clash}
use Rattle.rules.proofs.Sound.{Sound, sound, level_step}
use Rattle.lines.specs.declared.Kind.TheVariants.{BusLine, IntLine, AccLine}
use Rattle.lines.specs.declared.Line.{Line}
use Rattle.lines.specs.Lines.{bus_kind, line_of, value_at, limits_kept, shaped, in_tree, no_dashes}
use Rattle.lines.proofs.Written.{Below, fields_from, limits_below}
use Rattle.model.specs.Builders.{with_bus}
use Rattle.records.specs.Records.{empty_tree, with_root, with_child, with_acc}
use Rattle.records.proofs.Stored.{narrower}
use Rattle.placing.specs.Placing.{given, bus_line, root_rule, int_in_order, tree_line}
use Rattle.writer.specs.Lines.{bus_values}
use Rattle.accepts.specs.TreeText.{WritesBus, with_delay, without_delay}
use Rattle.writer.proofs.Limits.{bus_limits, acc_rule, acc_ranges}
use Rattle.placing.proofs.Tests.{bus_record, line_record, int_root, int_child, child_given, acc_given}
use Rattle.accepts.proofs.Kept.{Partial, partial_empty, bus_rules, partial_bus, partial_root, partial_child, partial_acc}
use Rattle.accepts.proofs.Kept.{each_number, each_port, level_same, new_here, root_size, root_ports, not_acc, not_int, is_empty_lem}
use Rattle.accepts.proofs.Kept.{child_new, child_parent, child_parent_port, child_granularity, child_port_new, child_port_at, child_port_other}
use Rattle.accepts.proofs.Kept.{acc_new, acc_old, acc_at, stored_apart, stored_parent, stored_parent_port, stored_granularity, home_size}
use Rattle.accepts.proofs.Written.{bus_entry, root_entry, child_entry, acc_entry, whole_read, short_read}

-- what a port carries of the first k interconnects and m accelerators
pub restrict : ℕ → ℕ → Port → Port
restrict k m Empty = Empty
restrict k m (Acc a) = pick (ltb a m) (Acc a) Empty
restrict k m (Int j) = pick (ltb j k) (Int j) Empty

pub record Agrees (t u : Tree) (k m : ℕ) : Type 0 where
  pub part : Partial u
  pub bus : u.bus ≡ t.bus
  pub ints : u.ints ≡ k
  pub accs : u.accs ≡ m
  pub parent : (j : ℕ) → j < k → parent_of u j ≡ parent_of t j
  pub parent_port : (j : ℕ) → j < k → parent_port_of u j ≡ parent_port_of t j
  pub granularity : (j : ℕ) → j < k → granularity_of u j ≡ granularity_of t j
  pub port : (j p : ℕ) → j < k → p < 8 → port_of u j p ≡ restrict k m (port_of t j p)
  pub acc : (a : ℕ) → a < m → accelerator_of u a ≡ accelerator_of t a

-- the rules that Sound leaves out
module _ (t : Tree) (e : tree_keeps t ≡ true) where
  int_rule : (j : ℕ) → j < 15 → interconnect_keeps t j ≡ true
  unfolding tree_keeps
  int_rule j h = (simp tests at e).0.1 j h

  root_placed_lem : root_placed t ≡ true
  unfolding used_interconnect
  root_placed_lem = (simp tests at (sym (picked _ _ _ (lt-ltb 0 t.ints (sound t e).some_ints)) ∙ int_rule 0 (lit< tt))).0.0.1

  root_place : (parent_of t 0 ≡ 0) × (parent_port_of t 0 ≡ 0)
  unfolding root_placed
  root_place = simp tests at root_placed_lem

within_yes : (l x h : ℕ) → l ≤ x → x ≤ h → within l x h ≡ true
within_yes l x h a b = joined (leb l x) (leb x h) (le-leb l x a) (le-leb x h b)

-- the numbers of an int line are in their limits, and the line is in order
pub int_limits : (j p q g : ℕ) → j ≤ 14 → p ≤ 14 → q ≤ 7 → 1 ≤ g → g ≤ 16
    → limits_kept IntLine (j ∷ p ∷ q ∷ g ∷ 0 ∷ 0 ∷ 0 ∷ 0 ∷ 0 ∷ 0 ∷ 0 ∷ []) ≡ true
unfolding all
int_limits j p q g a b c d e =
    joined _ _ (joined _ _ (joined _ _ (within_yes 0 j 14 (omega arith) a) (within_yes 0 p 14 (omega arith) b)) (within_yes 0 q 7 (omega arith) c))
    (within_yes 1 g 16 d e)

pub int_order : (u : Tree) (l : Line) → 0 < u.bus.window → u.accs ≡ 0 → value_at l 0 ≡ u.ints → root_rule l ≡ true → int_in_order u l ≡ true
int_order u l w a i r = joined _ _ (joined _ _ (joined _ _ (lt-ltb 0 u.bus.window w) (eq-eqb u.accs 0 a)) (eq-eqb (value_at l 0) u.ints i)) r

restrict_empty : (k m : ℕ) (x : Port) → ((a : ℕ) → x ≡ Acc a → m ≤ a) → ((c : ℕ) → x ≡ Int c → k ≤ c) → restrict k m x ≡ Empty
unfolding restrict
restrict_empty k m Empty f g = refl
restrict_empty k m (Acc a) f g = passed _ _ _ (le-ltb a m (f a refl))
restrict_empty k m (Int c) f g = passed _ _ _ (le-ltb c k (g c refl))

restrict_same : (k m i n : ℕ) (x : Port) → ((a : ℕ) → x ≡ Acc a → ltb a m ≡ ltb a n) → ((c : ℕ) → x ≡ Int c → ltb c k ≡ ltb c i)
    → restrict k m x ≡ restrict i n x
unfolding restrict
restrict_same k m i n Empty f g = refl
restrict_same k m i n (Acc a) f g = ap (λ b. pick b (Acc a) Empty) (f a refl)
restrict_same k m i n (Int c) f g = ap (λ b. pick b (Int c) Empty) (g c refl)

restrict_int : (k m c : ℕ) (x : Port) → x ≡ Int c → c < k → restrict k m x ≡ Int c
unfolding restrict
restrict_int k m c x e h = ap (restrict k m) e ∙ picked _ _ _ (lt-ltb c k h)

restrict_acc : (k m a : ℕ) (x : Port) → x ≡ Acc a → a < m → restrict k m x ≡ Acc a
unfolding restrict
restrict_acc k m a x e h = ap (restrict k m) e ∙ picked _ _ _ (lt-ltb a m h)

-- a test of numbers that a step does not change
same_test : (c k : ℕ) → (c ≡ k → ⊥) → ltb c k ≡ ltb c (k + 1)
same_test c k d = elim (dec_lt c k) [
  | yes h ↦ lt-ltb c k h ∙ sym (lt-ltb c (k + 1) (omega arith))
  | no h ↦ le-ltb c k (omega arith) ∙ sym (le-ltb c (k + 1) (omega arith))
]

-- the numbers of a bus line are in their limits, so they have at most ten digits
pub bus_below : (b : Bus) → bus_keeps b ≡ true → Below (bus_values b)
unfolding fields_from
bus_below b h = limits_below BusLine (bus_values b) (narrower b.axi3 (bus_values b) (bus_rules b.axi3 (bus_values b) ∙ h))

-- a bus line has the shape of its record, with or without the return delay
bus_shaped : (a : Bool) (v : List ℕ)
    → (shaped (record { kind = bus_kind a; count = 10; malformed = false; dashes = no_dashes; values = v }) ≡ true)
    × (shaped (record { kind = bus_kind a; count = 11; malformed = false; dashes = no_dashes; values = v }) ≡ true)
unfolding all shaped
bus_shaped true v = (refl, refl)
bus_shaped false v = (refl, refl)

bus_placed : (n : ℕ) (u : Tree) (c : ℕ) (b : Bus) → bus_keeps b ≡ true → u.bus.window ≡ 0 → shaped (bus_entry c b) ≡ true
    → tree_line n u (bus_entry c b) ≡ given (with_bus u b)
unfolding bus_line
bus_placed n u c b h z s =
    line_record n u (bus_entry c b) (bus_kind b.axi3) refl (tree_shaped b.axi3 s) (bus_rules b.axi3 (bus_values b) ∙ h)
    ∙ bus_record n u (bus_entry c b) b.axi3 ∙ passed _ _ _ (le-ltb 0 u.bus.window (omega arith))
  where
    tree_shaped : (a : Bool) → shaped (bus_entry c b) ≡ true → in_tree (bus_kind a) && shaped (bus_entry c b) ≡ true
    tree_shaped true s = s
    tree_shaped false s = s

-- a bus line is accepted where none was read, with its return delay or, where that is 0, without it
pub bus_step : (n : ℕ) (u : Tree) {b : Bus} {l : List ℕ} → bus_keeps b ≡ true → u.bus.window ≡ 0 → WritesBus b l
    → tree_line n u (line_of l) ≡ given (with_bus u b)
bus_step n u {b} h z (with_delay q) =
    ap (λ (s : List ℕ). tree_line n u (line_of s)) q ∙ ap (tree_line n u) (whole_read b (bus_below b h))
    ∙ bus_placed n u 11 b h z (bus_shaped b.axi3 (bus_values b)).1
bus_step n u {b} h z (without_delay d q) =
    ap (λ (s : List ℕ). tree_line n u (line_of s)) q ∙ ap (tree_line n u) (short_read b d (bus_below b h))
    ∙ bus_placed n u 10 b h z (bus_shaped b.axi3 (bus_values b)).0

module _ (t : Tree) (e : tree_keeps t ≡ true) where
  S : Sound t
  S = sound t e

  pub agrees_bus : Agrees t (with_bus empty_tree t.bus) 0 0
  agrees_bus =
      record {
        part = partial_bus empty_tree t.bus partial_empty (bus_limits t e);
        bus = refl;
        ints = refl;
        accs = refl;
        parent = λ j h. absurd (omega arith);
        parent_port = λ j h. absurd (omega arith);
        granularity = λ j h. absurd (omega arith);
        port = λ j p h. absurd (omega arith);
        acc = λ a h. absurd (omega arith);
      }

  -- the int line of the root
  module _ (u : Tree) (A : Agrees t u 0 0) where
    root_limits : limits_kept IntLine (root_entry t).values ≡ true
    root_limits =
        let g1 = S.granularity 0 S.some_ints in
        int_limits 0 0 0 (granularity_of t 0) (lit≤ tt) (lit≤ tt) (lit≤ tt) g1.0 g1.1

    root_order : int_in_order u (root_entry t) ≡ true
    root_order = int_order u (root_entry t) (omega (arith, S.window, ap (λ b. b.window) A.bus)) A.accs (sym A.ints) refl

    pub root_step : (n : ℕ) → tree_line n u (root_entry t) ≡ given (with_root u (granularity_of t 0))
    unfolding all shaped
    root_step n = line_record n u (root_entry t) IntLine refl refl root_limits ∙ int_root n u (root_entry t) root_order refl

    pub agrees_root : Agrees t (with_root u (granularity_of t 0)) 1 0
    agrees_root =
        let g1 = S.granularity 0 S.some_ints in
        let P = A.part in
        let z = A.ints in
        let new = new_here u 0 0 0 (granularity_of t 0) (root_size u (granularity_of t 0) P z g1.0 g1.1) in
        let grown = with_root u (granularity_of t 0) in
        record {
          part = partial_root u (granularity_of t 0) P z g1.0 g1.1 A.accs;
          bus = A.bus;
          ints = omega arith;
          accs = A.accs;
          parent = first (λ i. parent_of grown i ≡ parent_of t i) (ap (λ (c : Interconnect). c.parent) new ∙ sym (root_place t e).0);
          parent_port = first (λ i. parent_port_of grown i ≡ parent_port_of t i) (ap (λ (c : Interconnect). c.port) new ∙ sym (root_place t e).1);
          granularity = first (λ i. granularity_of grown i ≡ granularity_of t i) (ap (λ (c : Interconnect). c.granularity) new);
          port = λ j p h b. root_ports u (granularity_of t 0) P z g1.0 g1.1 j p ∙ sym (first (λ i. restrict 1 0 (port_of t i p) ≡ Empty)
              (restrict_empty 1 0 (port_of t 0 p) (λ a q. omega arith) (λ c q. (S.int_place 0 p c S.some_ints b q).0)) j h);
          acc = λ a h. absurd (omega arith);
        }
      where
        first : (F : ℕ → Type 0) → F 0 → (j : ℕ) → j < 1 → F j
        first F x j h = let q : 0 ≡ j = omega arith in subst F q x

  -- the int line of another interconnect
  pub child_limits : (k : ℕ) → 0 < k → k < t.ints → limits_kept IntLine (child_entry t k).values ≡ true
  child_limits k z h =
      let g1 = S.granularity k h in
      let m = S.most_ints in
      int_limits k (parent_of t k) (parent_port_of t k) (granularity_of t k) (omega arith) (omega (arith, S.parent k z h)) (omega (arith, S.parent_port k z h))
      g1.0 g1.1

  module _ (k : ℕ) (z : 0 < k) (h : k < t.ints) (u : Tree) (A : Agrees t u k 0) where
    abbrev above : ℕ
    above = parent_of t k

    abbrev above_port : ℕ
    above_port = parent_port_of t k

    abbrev g : ℕ
    g = granularity_of t k

    abbrev child_tree : Tree
    child_tree = with_child u k above above_port g

    down : parent_of t k < k
    down = S.parent k z h

    in_port : parent_port_of t k < 8
    in_port = S.parent_port k z h

    child_order : int_in_order u (child_entry t k) ≡ true
    child_order =
        int_order u (child_entry t k) (omega (arith, S.window, ap (λ b. b.window) A.bus)) A.accs (sym A.ints)
        (passed _ _ _ (ne_eqb k 0 (omega arith)) ∙ lt-ltb (parent_of t k) k down)

    free : port_of u (parent_of t k) (parent_port_of t k) ≡ Empty
    free =
        A.port (parent_of t k) (parent_port_of t k) down in_port
        ∙ restrict_empty k 0 (port_of t (parent_of t k) (parent_port_of t k)) (λ a q. omega arith)
        (λ c q. let w = S.parent_carries k z h in let y : c ≡ k = cc in omega arith)

    low : level_of u (parent_of t k) < 4
    low =
        let a = level_same t u k A.parent (λ i x y. S.parent i x (omega arith)) (parent_of t k) down in
        omega (arith, level_step t S k z h, S.level k h)

    pub child_step : (n : ℕ) → tree_line n u (child_entry t k) ≡ given (with_child u k (parent_of t k) (parent_port_of t k) (granularity_of t k))
    unfolding all shaped
    child_step n =
        line_record n u (child_entry t k) IntLine refl refl (child_limits k z h)
        ∙ int_child n u (child_entry t k) child_order (omega arith)
        ∙ child_given n u (child_entry t k).values (ap is_empty free) low

    next : k ≡ u.ints
    next = sym A.ints

    bound : k < 15
    bound = omega (arith, S.most_ints)

    -- of the new interconnect, and of those before it
    each : (F : ℕ → Type 0) → F k → ((j : ℕ) → j < k → (j ≡ k → ⊥) → F j) → (j : ℕ) → j < k + 1 → F j
    each F new old = each_number (λ j. j < k + 1 → F j) k (λ l. new) (λ j d l. old j (omega arith) d)

    child_port : (j p : ℕ) → j < k → p < 8 → (j ≡ k → ⊥) → port_of child_tree j p ≡ restrict (k + 1) 0 (port_of t j p)
    child_port =
        each_port (λ j p. j < k → p < 8 → (j ≡ k → ⊥) → port_of child_tree j p ≡ restrict (k + 1) 0 (port_of t j p)) above above_port
        (λ l b d. child_port_at u k above above_port g A.part next bound down in_port free
        ∙ sym (restrict_int (k + 1) 0 k _ (S.parent_carries k z h) (omega arith)))
        other
      where
        -- what another port carries is not interconnect k
        not_k : (j p c : ℕ) → (j ≡ above → p ≡ above_port → ⊥) → j < k → p < 8 → port_of t j p ≡ Int c → c ≡ k → ⊥
        not_k j p c x l b q w =
            let i = S.int_place j p c (omega arith) b q in
            x (sym i.2 ∙ ap (parent_of t) w) (sym i.3 ∙ ap (parent_port_of t) w)

        other : (j p : ℕ) → (j ≡ above → p ≡ above_port → ⊥) → j < k → p < 8 → (j ≡ k → ⊥) → port_of child_tree j p ≡ restrict (k + 1) 0 (port_of t j p)
        other j p x l b d =
            child_port_other u k above above_port g A.part next bound down in_port free j p d x
            ∙ A.port j p l b
            ∙ restrict_same k 0 (k + 1) 0 (port_of t j p) (λ a q. refl) (λ c q. same_test c k (not_k j p c x l b q))

    pub agrees_child : Agrees t (with_child u k (parent_of t k) (parent_port_of t k) (granularity_of t k)) (k + 1) 0
    agrees_child =
        let g1 = S.granularity k h in
        let P = A.part in
        let new = child_new u k above above_port g P next bound down in_port free in
        record {
          part = partial_child u k above above_port g P next bound down in_port free low A.accs g1.0 g1.1;
          bus = A.bus;
          ints = omega arith;
          accs = A.accs;
          parent = each (λ j. parent_of child_tree j ≡ parent_of t j) (ap (λ (c : Interconnect). c.parent) new)
              (λ j l d. child_parent u k above above_port g P next bound down in_port free j d ∙ A.parent j l);
          parent_port = each (λ j. parent_port_of child_tree j ≡ parent_port_of t j) (ap (λ (c : Interconnect). c.port) new)
              (λ j l d. child_parent_port u k above above_port g P next bound down in_port free j d ∙ A.parent_port j l);
          granularity = each (λ j. granularity_of child_tree j ≡ granularity_of t j) (ap (λ (c : Interconnect). c.granularity) new)
              (λ j l d. child_granularity u k above above_port g P next bound down in_port free j d ∙ A.granularity j l);
          port = λ j p l b. each (λ i. port_of child_tree i p ≡ restrict (k + 1) 0 (port_of t i p))
              (child_port_new u k above above_port g P next bound down in_port free p
              ∙ sym (restrict_empty (k + 1) 0 (port_of t k p) (λ a q. omega arith)
              (λ c q. let i = S.int_place k p c h b q in let w = S.parent c i.0 i.1 in omega (arith, i.2))))
              (λ i y d. child_port i p y b d) j l;
          acc = λ a l. absurd (omega arith);
        }

  -- the acc line of accelerator m, once all interconnects are read
  pub acc_limits : (m : ℕ) → m < t.accs → limits_kept AccLine (acc_entry t m).values ≡ true
  unfolding all
  acc_limits m h =
      let r = acc_ranges t e m h in
      let f = S.phi m h in
      let b = S.budget m h in
      joined _ _ (joined _ _ (joined _ _ (joined _ _ (joined _ _ (joined _ _ (joined _ _ (joined _ _
      (within_yes 0 m 31 (omega arith) (omega (arith, S.most_accs)))
      (within_yes 0 (home_of t m) 14 (omega arith) (omega (arith, S.home m h, S.most_ints))))
      (within_yes 0 (home_port_of t m) 7 (omega arith) (omega (arith, S.home_port m h))))
      (within_yes 1 (phi_of t m) 16 f.0 f.1))
      (within_yes 1 (budget_of t m) 1024 b.0 b.1))
      (within_yes 0 (accelerator_of t m).reads 65535 (omega arith) r.0))
      (within_yes 0 (accelerator_of t m).writes 65535 (omega arith) r.1))
      (within_yes 0 (accelerator_of t m).computing 4294967295 (omega arith) r.2))
      (within_yes 1 (accelerator_of t m).period 4294967295 r.3 r.4)

  module _ (m : ℕ) (h : m < t.accs) (u : Tree) (A : Agrees t u t.ints m) where
    abbrev v : List ℕ
    v = (acc_entry t m).values

    abbrev home : ℕ
    home = home_of t m

    abbrev home_port : ℕ
    home_port = home_port_of t m

    abbrev acc_tree : Tree
    acc_tree = with_acc u v

    limits : limits_kept AccLine (acc_entry t m).values ≡ true
    limits = acc_limits m h

    known : home_of t m < u.ints
    known = omega (arith, S.home m h, A.ints)

    once : phi_of u m ≡ 0
    once = ap (λ (x : Accelerator). x.phi) (A.part.unused_acc m (omega (arith, A.accs)))

    acc_free : port_of u home home_port ≡ Empty
    acc_free =
        A.port home home_port (S.home m h) (S.home_port m h)
        ∙ restrict_empty t.ints m (port_of t home home_port)
        (λ a q. let w = S.home_carries m h in let y : a ≡ m = cc in omega arith)
        (λ c q. let w = S.home_carries m h in clash cc)

    size : home < length u.interconnects
    size = home_size u v A.part limits known once acc_free

    pub acc_step : (n : ℕ) → tree_line n u (acc_entry t m) ≡ given (with_acc u (acc_entry t m).values)
    unfolding all shaped
    acc_step n =
        line_record n u (acc_entry t m) AccLine refl refl limits
        ∙ acc_given n u (acc_entry t m).values known (omega (arith, once)) (ap is_empty acc_free)

    acc_port : (j p : ℕ) → j < t.ints → p < 8 → port_of acc_tree j p ≡ restrict t.ints (m + 1) (port_of t j p)
    acc_port =
        each_port (λ j p. j < t.ints → p < 8 → port_of acc_tree j p ≡ restrict t.ints (m + 1) (port_of t j p)) home home_port
        (λ l b. acc_at u v A.part limits known once acc_free ∙ sym (restrict_acc t.ints (m + 1) m _ (S.home_carries m h) (omega arith)))
        other
      where
        -- what another port carries is not accelerator m
        not_m : (j p a : ℕ) → (j ≡ home → p ≡ home_port → ⊥) → j < t.ints → p < 8 → port_of t j p ≡ Acc a → a ≡ m → ⊥
        not_m j p a x l b q w =
            let i = S.acc_place j p a l b q in
            x (sym i.1 ∙ ap (home_of t) w) (sym i.2 ∙ ap (home_port_of t) w)

        other : (j p : ℕ) → (j ≡ home → p ≡ home_port → ⊥) → j < t.ints → p < 8 → port_of acc_tree j p ≡ restrict t.ints (m + 1) (port_of t j p)
        other j p x l b =
            stored_apart u home home_port (Acc m) size j p x
            ∙ A.port j p l b
            ∙ restrict_same t.ints m t.ints (m + 1) (port_of t j p) (λ a q. same_test a m (not_m j p a x l b q)) (λ c q. refl)

    pub agrees_acc : Agrees t (with_acc u (acc_entry t m).values) t.ints (m + 1)
    agrees_acc =
        let P = A.part in
        record {
          part = partial_acc u v P limits known once acc_free;
          bus = A.bus;
          ints = A.ints;
          accs = omega (arith, A.accs);
          parent = λ j l. stored_parent u home home_port (Acc m) size j ∙ A.parent j l;
          parent_port = λ j l. stored_parent_port u home home_port (Acc m) size j ∙ A.parent_port j l;
          granularity = λ j l. stored_granularity u home home_port (Acc m) size j ∙ A.granularity j l;
          port = acc_port;
          acc = each_number (λ a. a < m + 1 → accelerator_of acc_tree a ≡ accelerator_of t a) m (λ l. acc_new u v P limits known once acc_free)
              (λ a d l. acc_old u v P limits known once acc_free a d ∙ A.acc a (omega arith));
        }

  -- what is unused in a configuration that keeps its rules
  unused_port : (j p : ℕ) → t.ints ≤ j → j < 15 → p < 8 → port_of t j p ≡ Empty
  unfolding unused_interconnect
  unused_port j p l b q = is_empty_lem _ ((simp tests at (sym (passed _ _ _ (le-ltb j t.ints l)) ∙ int_rule t e j b)).1 p q)

  unused_fields : (j : ℕ) → t.ints ≤ j → j < 15 → (granularity_of t j ≡ 0) × (parent_of t j ≡ 0) × (parent_port_of t j ≡ 0)
  unfolding unused_interconnect
  unused_fields j l b = let h = simp tests at (sym (passed _ _ _ (le-ltb j t.ints l)) ∙ int_rule t e j b) in (h.0.0.0, h.0.0.1, h.0.1)

  unused_record : (a : ℕ) → t.accs ≤ a → a < 32 → accelerator_of t a ≡ no_accelerator
  unfolding unused_accelerator
  unused_record a l b =
      let h = simp tests at (sym (passed _ _ _ (le-ltb a t.accs l)) ∙ acc_rule t e a b) in
      λ i. record {
        interconnect = h.0.0.0.0.0.0.0 i;
        port = h.0.0.0.0.0.0.1 i;
        phi = h.0.0.0.0.0.1 i;
        budget = h.0.0.0.0.1 i;
        reads = h.0.0.0.1 i;
        writes = h.0.0.1 i;
        computing = h.0.1 i;
        period = h.1 i;
      }

  -- two interconnects with the same fields and ports are equal
  same_interconnect : (c d : Interconnect) → c.parent ≡ d.parent → c.port ≡ d.port → c.granularity ≡ d.granularity
      → length c.ports ≡ 8 → length d.ports ≡ 8
      → ((p : ℕ) → p < 8 → (get_or c.ports p empty_cell).port ≡ (get_or d.ports p empty_cell).port) → c ≡ d
  same_interconnect c d a b g l m f =
      let cell : Port → PortCell = λ x. record { port = x } in
      let q : c.ports ≡ d.ports = ext_get_or empty_cell c.ports d.ports (l ∙ sym m) (λ p h. ap cell (f p (omega arith))) in
      λ i. record { parent = a i; port = b i; granularity = g i; ports = q i }

  whole_port : (j p : ℕ) → j < t.ints → p < 8 → restrict t.ints t.accs (port_of t j p) ≡ port_of t j p
  whole_port j p l b = go (port_of t j p) refl
    where
      go : (x : Port) → port_of t j p ≡ x → restrict t.ints t.accs (port_of t j p) ≡ port_of t j p
      go Empty q = restrict_empty t.ints t.accs (port_of t j p) (λ a r. absurd (not_acc _ a q r)) (λ c r. absurd (not_int _ c q r)) ∙ sym q
      go (Acc a) q = restrict_acc t.ints t.accs a (port_of t j p) q (S.acc_place j p a l b q).0 ∙ sym q
      go (Int c) q = restrict_int t.ints t.accs c (port_of t j p) q (S.int_place j p c l b q).1 ∙ sym q

  same_ints_lem : (u : Tree) → Agrees t u t.ints t.accs → (j : ℕ) → j < 15 → interconnect_of u j ≡ interconnect_of t j
  same_ints_lem u A j b = elim (dec_lt j t.ints) [
    | yes l ↦ same_interconnect _ _ (A.parent j l) (A.parent_port j l) (A.granularity j l) (A.part.ports_size j) (S.ports_size j)
        (λ p h. A.port j p l h ∙ whole_port j p l h)
    | no d ↦
        let o = A.part.unused_int j (omega (arith, A.ints)) in
        let f = unused_fields j (omega arith) b in
        o ∙ same_interconnect no_interconnect (interconnect_of t j) (sym f.1) (sym f.2) (sym f.0) refl (S.ports_size j)
        (λ p h. ap (λ (c : PortCell). c.port) (get_or-replicate 8 p empty_cell empty_cell h) ∙ sym (unused_port j p (omega arith) b h))
  ]

  same_accs_lem : (u : Tree) → Agrees t u t.ints t.accs → (a : ℕ) → a < 32 → accelerator_of u a ≡ accelerator_of t a
  same_accs_lem u A a b = elim (dec_lt a t.accs) [
    | yes l ↦ A.acc a l
    | no d ↦ A.part.unused_acc a (omega (arith, A.accs)) ∙ sym (unused_record a (omega arith) b)
  ]

  pub agrees_all : (u : Tree) → Agrees t u t.ints t.accs → u ≡ t
  agrees_all u A =
      let P = A.part in
      let x = ext_get_or no_interconnect u.interconnects t.interconnects (P.ints_size ∙ sym S.ints_size)
      (λ j h. same_ints_lem u A j (omega (arith, P.ints_size))) in
      let y = ext_get_or no_accelerator u.accelerators t.accelerators (P.accs_size ∙ sym S.accs_size)
      (λ a h. same_accs_lem u A a (omega (arith, P.accs_size))) in
      λ i. record { bus = A.bus i; interconnects = x i; accelerators = y i; ints = A.ints i; accs = A.accs i }
