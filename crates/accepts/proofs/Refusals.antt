-- A refusal's number and line are those of the first line that breaks a rule, and of the first rule that it breaks. By cases
-- along the tests of a line, and by induction on the lines before it.
use Prim.Native.Nat.{ℕ, suc, ◌+◌, ◌≤◌, ◌<◌}
use mathlib.Core.Bool.{Bool, true, false, ◌&&◌, ◌||◌, not}
use mathlib.Core.List.{List, [], ◌∷◌, ◌++◌, map}
use mathlib.Core.Logic.{◌↔◌}
use mathlib.Core.Path.{◌≡◌, refl, sym, ◌∙◌, ap, subst}
use native.Mathlib.Decide.{dec_lt}
use native.Mathlib.Omega.{arith}
use lib.Dec.{ltb, leb, eqb, lit≤}
use lib.ListN.{length, get_or}
use borrow.Author.Tests.{lt-ltb, eq-eqb, ne_eqb, eqb-true}
use Rattle.text.specs.declared.Field.{Field}
use Rattle.text.specs.declared.Field.TheVariants.{Number}
use Rattle.text.specs.Text.{lines, unended}
use Rattle.text.proofs.Back.{nothing}
use Rattle.model.specs.declared.Tree.{Tree}
use Rattle.model.specs.declared.Refusal.{Refusal}
use Rattle.model.specs.declared.Refusal.TheVariants.{Shape, Limit, Order, Taken, Level}
use Rattle.folds.specs.Fold.{pick, all}
use Rattle.folds.proofs.Folds.{picked, passed, both, joined, clash}
use Rattle.model.specs.Tree.{port_of, phi_of, level_of}
use Rattle.rules.specs.Rules.{is_empty}
use Rattle.lines.specs.declared.Kind.{Kind}
use Rattle.lines.specs.declared.Kind.TheVariants.{NoRecord, BusLine, IntLine, AccLine, OfferLine, Bus3Line}
use Rattle.lines.specs.declared.Line.{Line}
use Rattle.lines.specs.Answer.{FileAnswer, Accepted, Refused, Broken}
use Rattle.lines.specs.FirstRule.{Rule, rule, broken}
use Rattle.lines.specs.Lines.{named, pushed, line_with, line_of, value_at, in_tree, shaped, limits_kept}
use Rattle.lines.specs.LineText.{WritesLine}
use Rattle.lines.proofs.Written.{fields_from, limits_below, numbers_read}
use Rattle.lines.proofs.Back.{pushed_kind, line_said, shaped_exactly}
use Rattle.records.specs.Records.{empty_tree, with_root, acc_of}
use Rattle.placing.specs.Placing.{TreeRead}
use Rattle.placing.specs.Placing.{refused_at, given, int_in_order, bus_line, child_line, int_line, acc_line, complete, finish, record_line, tree_line}
use Rattle.placing.proofs.Tests.{line_record, int_root, int_child, child_given, acc_given}
use Rattle.reader.specs.TreeFile.{onward, read_lines, read_tree}
use Rattle.reader.proofs.Files.{tree_size, tree_start}
use Rattle.writer.specs.Lines.{acc_values}
use Rattle.accepts.specs.TreeRefused.{Stands, bus_stands, root_stands, child_stands, acc_stands, Leads, leads_none, leads_more}
use Rattle.accepts.specs.TreeRefused.{in_order, free, low, line_rules, LineBreaks, not_ended, missing, not_shaped, breaks}
use Rattle.accepts.specs.TreeRefused.{TreeBreaks, TreeRefused, too_long, at_line}
use Rattle.accepts.proofs.Written.{root_entry, root_read}
use Rattle.accepts.proofs.Stage.{bus_step, int_limits, int_order}
use Rattle.accepts.proofs.Complete.{line_given}
use Rattle.accepts.proofs.Back.{stepped, line_first}

-- the tests of a line are the rules in their order
module _ (n : ℕ) where
  bus_answers : (c : Bool) (x : Tree) → (pick c (refused_at Order n) (given x)).answer ≡ pick (not c) Accepted (Refused Order n)
  bus_answers true x = refl
  bus_answers false x = refl

  int_answers : (o z e v : Bool) (x y : Tree)
      → (pick (not o) (refused_at Order n) (pick z (given x) (pick (not e) (refused_at Taken n) (pick v (refused_at Level n) (given y))))).answer
      ≡ pick o (pick (z || e) (pick (z || not v) Accepted (Refused Level n)) (Refused Taken n)) (Refused Order n)
  int_answers false z e v x y = refl
  int_answers true true e v x y = refl
  int_answers true false false v x y = refl
  int_answers true false true true x y = refl
  int_answers true false true false x y = refl

  acc_answers : (a b e : Bool) (x : Tree)
      → (pick a (refused_at Order n) (pick b (refused_at Order n) (pick (not e) (refused_at Taken n) (given x)))).answer
      ≡ pick (not a && not b) (pick e Accepted (Refused Taken n)) (Refused Order n)
  acc_answers true b e x = refl
  acc_answers false true e x = refl
  acc_answers false false true x = refl
  acc_answers false false false x = refl

  record_rules : (u : Tree) (l : Line) (k : Kind) → in_tree k ≡ true → (b : Bool) → (pick (not b) (refused_at Limit n) (record_line k n u l)).answer
      ≡ broken n (rule Limit b ∷ rule Order (in_order k u l) ∷ rule Taken (free k u l) ∷ rule Level (low k u l) ∷ [])
  unfolding broken bus_line int_line child_line acc_line
  record_rules u l NoRecord e b = clash cc
  record_rules u l BusLine e false = refl
  record_rules u l BusLine e true = bus_answers (ltb 0 u.bus.window) _
  record_rules u l IntLine e false = refl
  record_rules u l IntLine e true =
      int_answers (int_in_order u l) (eqb (value_at l 0) 0) (is_empty (port_of u (value_at l 1) (value_at l 2))) (leb 4 (level_of u (value_at l 1))) _ _
  record_rules u l AccLine e false = refl
  record_rules u l AccLine e true =
      acc_answers (leb u.ints (value_at l 1)) (ltb 0 (phi_of u (value_at l 0))) (is_empty (port_of u (value_at l 1) (value_at l 2))) _
  record_rules u l OfferLine e b = clash cc
  record_rules u l Bus3Line e false = refl
  record_rules u l Bus3Line e true = bus_answers (ltb 0 u.bus.window) _

  line_rules_lem : (u : Tree) (l : Line) → in_tree l.kind && shaped l ≡ true → (tree_line n u l).answer ≡ broken n (line_rules u l)
  unfolding tree_line line_rules
  line_rules_lem u l e =
      ap (λ (r : TreeRead). r.answer) (passed _ _ _ (ap not e))
      ∙ record_rules u l l.kind (both (in_tree l.kind) (shaped l) e).0 (limits_kept l.kind l.values)

  line_shape : (u : Tree) (l : Line) → in_tree l.kind && shaped l ≡ false → (tree_line n u l).answer ≡ Refused Shape n
  unfolding tree_line
  line_shape u l e = ap (λ (r : TreeRead). r.answer) (picked _ _ _ (ap not e))

-- test 1 of a tree's line, by writing
module _ (l : List ℕ) where
  writes_line : (k : Kind) (fs : List Field) → in_tree k ≡ true → WritesLine l k fs
      → (line_of l ≡ line_with k fs) × (in_tree (line_of l).kind && shaped (line_of l) ≡ true)
  writes_line k fs e W =
      let q = ap (λ (x : Line). x.kind) (line_said W) ∙ pushed_kind (named k) fs in
      (line_said W, joined _ _ (ap in_tree q ∙ e) ((shaped_exactly l).1 (k, fs, W)))

  line_writes : in_tree (line_of l).kind && shaped (line_of l) ≡ true → (k : Kind) × (fs : List Field) × (in_tree k ≡ true) × WritesLine l k fs
  line_writes e =
      let a = both (in_tree (line_of l).kind) (shaped (line_of l)) e in
      let W = (shaped_exactly l).0 a.1 in
      let q = ap (λ (x : Line). x.kind) (line_said W.2) ∙ pushed_kind (named W.0) W.1 in
      (W.0, W.1, sym (ap in_tree q) ∙ a.0, W.2)

-- a line that stands where it may is accepted
stands_given : {u w : Tree} {l : List ℕ} → Stands u l w → (n : ℕ) → tree_line n u (line_of l) ≡ given w
unfolding pushed all shaped fields_from
stands_given {u} (bus_stands b h z q) n = bus_step n u h z q
stands_given {u} (root_stands g b d k m z q) n =
    let t = with_root empty_tree g in
    let E = root_entry t in
    let o = int_order u E k m (sym z) refl in
    let w = int_limits 0 0 0 g (lit≤ tt) (lit≤ tt) (lit≤ tt) b d in
    ap (λ (s : List ℕ). tree_line n u (line_of s)) q ∙ ap (tree_line n u) (root_read t (omega arith)) ∙ line_record n u E IntLine refl refl w
    ∙ int_root n u E o refl
stands_given {u} (child_stands j p x g y v k m z d b c r f h q) n =
    let E = line_with IntLine (map Number (j ∷ p ∷ x ∷ g ∷ [])) in
    let o = int_order u E k m z (passed _ _ _ (ne_eqb j 0 (omega arith)) ∙ lt-ltb p j c) in
    let w = int_limits j p x g (omega arith) (omega arith) (omega arith) y v in
    let B = limits_below IntLine E.values w in
    ap (λ (s : List ℕ). tree_line n u (line_of s)) q ∙ ap (tree_line n u) (numbers_read IntLine B)
    ∙ line_record n u E IntLine refl refl w ∙ int_child n u E o (omega arith) ∙ child_given n u E.values (ap is_empty f) h
stands_given {u} (acc_stands v e k o f q) n =
    let E = line_with AccLine (map Number (acc_values (get_or v 0 0) (acc_of v))) in
    ap (λ (s : List ℕ). tree_line n u (line_of s)) q ∙ ap (tree_line n u) (numbers_read AccLine (limits_below AccLine v e))
    ∙ line_record n u E AccLine refl refl e ∙ acc_given n u E.values k (omega arith) (ap is_empty f)

-- the first line that breaks a rule, of the lines from line n on
record Found (n : ℕ) (u : Tree) (ls : List (List ℕ)) (e : List ℕ) (r : Refusal) (m : ℕ) : Type 0 where
  before : List (List ℕ)
  after : List (List ℕ)
  tree : Tree
  split : ls ≡ before ++ after
  leads : Leads u before tree
  line : m ≡ n + length before
  first : LineBreaks tree m after e r

plus : (n : ℕ) → n + 0 ≡ n
plus n = omega arith

here : (n : ℕ) (u : Tree) (ls : List (List ℕ)) (e : List ℕ) (r : Refusal) (x : Refusal) (m : ℕ) → LineBreaks u n ls e x → Refused x n ≡ Refused r m
    → Found n u ls e r m
here n u ls e r x m B q =
    let s : (x ≡ r) × (n ≡ m) = (cc, cc) in
    subst (λ (i : ℕ). Found n u ls e r i) s.1
    (subst (λ (y : Refusal). Found n u ls e y n) s.0
    (record { before = []; after = ls; tree = u; split = refl; leads = leads_none; line = sym (plus n); first = B }))

-- what an answer lets the reading do
abbrev ended : ℕ → Tree → List ℕ → List (List ℕ) → List ℕ → FileAnswer → TreeRead
ended n u l ls e a = onward a (tree_line n u (line_of l)) (read_lines (n + 1) (tree_line n u (line_of l)).tree ls e)

line_answer : (n : ℕ) (u : Tree) (l : List ℕ) (ls : List (List ℕ)) (e : List ℕ) (r : Refusal) (m : ℕ) → (tree_line n u (line_of l)).answer ≡ Refused r m
    → (read_lines n u (l ∷ ls) e).answer ≡ Refused r m
line_answer n u l ls e r m f = ap (λ (x : TreeRead). x.answer) (line_first n u l ls e ∙ ap (ended n u l ls e) f) ∙ f

-- a broken rule has the line's number
broken_line : (n : ℕ) (rs : List Rule) (x : Refusal) (k : ℕ) → broken n rs ≡ Refused x k → k ≡ n
unfolding broken
broken_line n [] x k e = clash cc
broken_line n (y ∷ ys) x k e = go y.kept e (broken_line n ys x k)
  where
    go : (c : Bool) → pick c (broken n ys) (Refused y.cause n) ≡ Refused x k → (broken n ys ≡ Refused x k → k ≡ n) → k ≡ n
    go true e rec = rec e
    go false e rec = cc

-- of the first line and those after it
found_next : (l : List ℕ) (ls : List (List ℕ)) (n : ℕ) (u : Tree) (e : List ℕ) (r : Refusal) (m : ℕ)
    → ((w : Tree) → (read_lines (n + 1) w ls e).answer ≡ Refused r m → Found (n + 1) w ls e r m) → (read_lines n u (l ∷ ls) e).answer ≡ Refused r m
    → Found n u (l ∷ ls) e r m
found_next l ls n u e r m rec f = go (in_tree (line_of l).kind && shaped (line_of l)) refl (tree_line n u (line_of l)).answer refl
  where
    go : (c : Bool) → in_tree (line_of l).kind && shaped (line_of l) ≡ c → (a : FileAnswer) → (tree_line n u (line_of l)).answer ≡ a → Found n u (l ∷ ls) e r m
    go false p a q =
        here n u (l ∷ ls) e r Shape m (not_shaped (λ k fs i W. let z = sym p ∙ (writes_line l k fs i W).1 in clash cc))
        (sym (line_answer n u l ls e Shape n (line_shape n u (line_of l) p)) ∙ f)
    go true p Accepted q =
        let S = stepped n u l q in
        let F = rec S.0 (ap (λ (x : TreeRead). x.answer) (sym (line_given n u S.0 l ls e S.1)) ∙ f) in
        let k : n + 1 + length F.before ≡ n + suc (length F.before) = omega arith in
        record {
          before = l ∷ F.before;
          after = F.after;
          tree = F.tree;
          split = ap (λ (x : List (List ℕ)). l ∷ x) F.split;
          leads = leads_more S.2 F.leads;
          line = F.line ∙ k;
          first = F.first;
        }
    go true p (Refused x k) q =
        let W = line_writes l p in
        let h = sym (ap (λ (y : Line). broken n (line_rules u y)) (line_said W.3)) ∙ sym (line_rules_lem n u (line_of l) p) ∙ q in
        let i = broken_line n (line_rules u (line_with W.0 W.1)) x k h in
        here n u (l ∷ ls) e r x m (breaks W.0 W.1 W.2 W.3 (h ∙ ap (Refused x) i)) (ap (Refused x) (sym i) ∙ sym (line_answer n u l ls e x k q) ∙ f)
    go true p Broken q =
        let g = sym (ap (λ (x : TreeRead). x.answer) (line_first n u l ls e ∙ ap (ended n u l ls e) q) ∙ q) ∙ f in
        clash cc

-- at the end of the lines
end_answers : (n : ℕ) (u : Tree) (e : List ℕ)
    → (read_lines n u [] e).answer ≡ pick (eqb (length e) 0) (pick (complete u) Accepted (Refused Order n)) (Refused Shape n)
unfolding read_lines finish
end_answers n u e = go (eqb (length e) 0) (complete u)
  where
    go : (a b : Bool) → (pick a (pick b (given u) (refused_at Order n)) (refused_at Shape n)).answer
        ≡ pick a (pick b Accepted (Refused Order n)) (Refused Shape n)
    go true true = refl
    go true false = refl
    go false b = refl

found : (ls : List (List ℕ)) (n : ℕ) (u : Tree) (e : List ℕ) (r : Refusal) (m : ℕ) → (read_lines n u ls e).answer ≡ Refused r m → Found n u ls e r m
found [] n u e r m f = go (eqb (length e) 0) (complete u) refl refl (sym (end_answers n u e) ∙ f)
  where
    go : (a b : Bool) → eqb (length e) 0 ≡ a → complete u ≡ b → pick a (pick b Accepted (Refused Order n)) (Refused Shape n) ≡ Refused r m → Found n u [] e r m
    go true true p q f = clash cc
    go true false p q f = here n u [] e r Order m (missing (nothing e (eqb-true _ _ p)) q) f
    go false b p q f = here n u [] e r Shape m (not_ended (λ w. let y = sym p ∙ eq-eqb (length e) 0 (ap length w) in clash cc)) f
found (l ∷ ls) n u e r m f = found_next l ls n u e r m (λ w. found ls (n + 1) w e r m) f

-- the lines before it are read
led : {u t : Tree} {ls : List (List ℕ)} → Leads u ls t → (n : ℕ) (ms : List (List ℕ)) (e : List ℕ)
    → read_lines n u (ls ++ ms) e ≡ read_lines (n + length ls) t ms e
led {u} leads_none n ms e = let z : n ≡ n + 0 = omega arith in ap (λ (k : ℕ). read_lines k u ms e) z
led (leads_more {u = u} {w = w} {t = t} {l = l} {ls = ls} S L) n ms e =
    let k : n + 1 + length ls ≡ n + suc (length ls) = omega arith in
    line_given n u w l (ls ++ ms) e (stands_given S n) ∙ led L (n + 1) ms e ∙ ap (λ (i : ℕ). read_lines i t ms e) k

next_refused : (n : ℕ) (u : Tree) (ls : List (List ℕ)) (e : List ℕ) (r : Refusal) → LineBreaks u n ls e r → (read_lines n u ls e).answer ≡ Refused r n
next_refused n u [] e r (not_ended d) = end_answers n u e ∙ passed _ _ _ (ne_eqb _ _ (λ z. d (nothing e z)))
next_refused n u [] e r (missing z c) = end_answers n u e ∙ picked _ _ _ (eq-eqb (length e) 0 (ap length z)) ∙ passed _ _ _ c
next_refused n u (l ∷ ls) e r (not_shaped d) = go (in_tree (line_of l).kind && shaped (line_of l)) refl
  where
    go : (c : Bool) → in_tree (line_of l).kind && shaped (line_of l) ≡ c → (read_lines n u (l ∷ ls) e).answer ≡ Refused Shape n
    go true p = let W = line_writes l p in absurd (d W.0 W.1 W.2 W.3)
    go false p = line_answer n u l ls e Shape n (line_shape n u (line_of l) p)
next_refused n u (l ∷ ls) e r (breaks k fs i W q) =
    let w = writes_line l k fs i W in
    line_answer n u l ls e r n (line_rules_lem n u (line_of l) w.1 ∙ ap (λ (y : Line). broken n (line_rules u y)) w.0 ∙ q)

module _ (s : List ℕ) where
  there : (r : Refusal) (n : ℕ) → length s ≤ 65536 → (read_tree s).answer ≡ Refused r n → TreeBreaks s r n
  there r n h e =
      let F = found (lines s) 1 empty_tree (unended s) r n (sym (ap (λ (x : TreeRead). x.answer) (tree_start s h)) ∙ e) in
      record { before = F.before; after = F.after; tree = F.tree; split = F.split; leads = F.leads; line = F.line; breaks = F.first }

  back : (r : Refusal) (n : ℕ) → length s ≤ 65536 → TreeBreaks s r n → (read_tree s).answer ≡ Refused r n
  back r n h F =
      ap (λ (x : TreeRead). x.answer)
      (tree_start s h ∙ ap (λ (ls : List (List ℕ)). read_lines 1 empty_tree ls (unended s)) F.split ∙ led F.leads 1 F.after (unended s)
      ∙ ap (λ (i : ℕ). read_lines i F.tree F.after (unended s)) (sym F.line))
      ∙ next_refused n F.tree F.after (unended s) r F.breaks

  -- "File size comes first, then lines in order": a refusal's number and line are those of the first rule broken
  pub tree_refused_lem : (r : Refusal) (n : ℕ) → ((read_tree s).answer ≡ Refused r n) ↔ TreeRefused s r n
  tree_refused_lem r n = (λ e. elim (dec_lt 65536 (length s)) [ yes h ↦ long h e | no h ↦ at_line (omega arith) (there r n (omega arith) e) ], given_back r n)
    where
      long : 65536 < length s → (read_tree s).answer ≡ Refused r n → TreeRefused s r n
      long h e =
          let f = ap (λ (x : TreeRead). x.answer) (sym (tree_size s h)) ∙ e in
          let q : (Limit ≡ r) × (0 ≡ n) = (cc, cc) in
          subst (λ (i : ℕ). TreeRefused s r i) q.1 (subst (λ (x : Refusal). TreeRefused s x 0) q.0 (too_long h))

      given_back : (r : Refusal) (n : ℕ) → TreeRefused s r n → (read_tree s).answer ≡ Refused r n
      given_back r n (too_long h) = ap (λ (x : TreeRead). x.answer) (tree_size s h)
      given_back r n (at_line h F) = back r n h F
