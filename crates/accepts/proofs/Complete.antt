-- "A configuration keeps them if a tree file could have given it": the text of a configuration that keeps its rules is read
-- as that configuration. Its lines have no separator inside and are short, each is accepted in turn, and the end test passes.
use Prim.Native.Nat.{ℕ, zero, suc, ◌+◌, ◌*◌, ◌≤◌, ◌<◌}
use mathlib.Core.Bool.{true}
use mathlib.Core.List.{List, [], ◌∷◌, ◌++◌}
use mathlib.Core.Path.{◌≡◌, refl, sym, ◌∙◌, ap, ap₂, subst}
use native.Mathlib.Decide.{ℕ_discrete}
use native.Mathlib.Numerals.{add-one}
use native.Mathlib.Omega.{arith}
use lib.Dec.{ltb, lit<, lit≤}
use lib.ListN.{length, length-append}
use borrow.Author.Tests.{lt-ltb, eq-eqb, ne_eqb}
use Rattle.text.specs.Write.{fields_text, line_text, file_text, numbers, rows}
use Rattle.text.proofs.Written.{Clean, clean_append, fields_clean, AllClean, all_none, all_more, lines_read, number_length}
use Rattle.model.specs.declared.Tree.{Tree}
use Rattle.model.specs.Tree.{granularity_of, parent_of, parent_port_of, accelerator_of, phi_of}
use Rattle.rules.specs.Rules.{tree_keeps}
use Rattle.folds.proofs.Folds.{picked, passed, joined, at_all}
use Rattle.rules.proofs.Sound.{Sound, sound}
use Rattle.lines.specs.declared.Kind.{Kind}
use Rattle.lines.specs.declared.Kind.TheVariants.{NoRecord, BusLine, IntLine, AccLine, OfferLine, Bus3Line}
use Rattle.lines.specs.Lines.{bus_kind, name_of, line_of}
use Rattle.model.specs.Builders.{with_bus}
use Rattle.records.specs.Records.{empty_tree, with_acc}
use Rattle.placing.specs.Placing.{TreeRead, given, complete, finish, tree_line}
use Rattle.reader.specs.TreeFile.{onward, read_lines, read_tree}
use Rattle.writer.specs.Lines.{bus_front, acc_values, bus_text, int_text, acc_text}
use Rattle.accepts.specs.TreeText.{WritesBus, with_delay, without_delay, lines_after, tree_text}
use mathlib.Core.Logic.{◌↔◌}
use Rattle.writer.proofs.Limits.{bus_limits}
use Rattle.reader.proofs.Files.{tree_start}
use Rattle.accepts.proofs.Kept.{accepted_keeps}
use Rattle.lines.proofs.Written.{name_clean, Below, below_none, below_more, fields_from, limits_below, numbers_clean}
use Rattle.accepts.proofs.Written.{child_entry, acc_entry, root_clean, below_front, acc_read, root_read, child_read}
use Rattle.accepts.proofs.Stage.{Agrees, bus_below, child_limits, acc_limits, bus_step, root_step, child_step, acc_step}
use Rattle.accepts.proofs.Stage.{agrees_bus, agrees_root, agrees_child, agrees_acc, agrees_all}

-- one accepted line
pub line_given : (n : ℕ) (u w : Tree) (l : List ℕ) (ls : List (List ℕ)) (r : List ℕ) → tree_line n u (line_of l) ≡ given w
    → read_lines n u (l ∷ ls) r ≡ read_lines (n + 1) w ls r
unfolding read_lines
line_given n u w l ls r e = ap (λ (x : TreeRead). onward x.answer x (read_lines (n + 1) x.tree ls r)) e

-- lines of at most n bytes
data Short (n : ℕ) : List (List ℕ) → Type 0 where
  short_none : Short n []
  short_more : {l : List ℕ} {ls : List (List ℕ)} → length l ≤ n → Short n ls → Short n (l ∷ ls)

fields_length : {fs : List (List ℕ)} → Short 10 fs → length (fields_text fs) ≤ 11 * length fs
unfolding fields_text
fields_length short_none = omega arith
fields_length (short_more {l = f} {ls = fs} h S) = omega (arith, length-append f (fields_text fs), fields_length S)

file_length : {ls : List (List ℕ)} → Short 125 ls → length (file_text ls) ≤ 126 * length ls
unfolding file_text
file_length short_none = omega arith
file_length (short_more {l = l} {ls = ls} h S) = omega (arith, length-append l (10 ∷ file_text ls), file_length S)

numbers_short : {xs : List ℕ} → Below xs → Short 10 (numbers xs)
unfolding numbers
numbers_short below_none = short_none
numbers_short (below_more {x = x} h B) = short_more (number_length x h) (numbers_short B)

numbers_count : (xs : List ℕ) → length (numbers xs) ≡ length xs
unfolding numbers
numbers_count [] = refl
numbers_count (x ∷ xs) = ap suc (numbers_count xs)

-- a line that has no LF inside and is short
record Fit (l : List ℕ) : Type 0 where
  clean : Clean 10 l
  short : length l ≤ 125

fit_line : (name : List ℕ) (fs : List (List ℕ)) → Clean 10 name → length name ≤ 4 → AllClean 10 fs → Short 10 fs → length fs ≤ 11
    → Fit (line_text name fs)
fit_line name fs C h A S k =
    record { clean = clean_append C (fields_clean A); short = omega (arith, length-append name (fields_text fs), fields_length S) }

name_short : (k : Kind) → length (name_of k) ≤ 4
name_short NoRecord = lit≤ tt
name_short BusLine = lit≤ tt
name_short IntLine = lit≤ tt
name_short AccLine = lit≤ tt
name_short OfferLine = lit≤ tt
name_short Bus3Line = lit≤ tt

numbers_fit : (k : Kind) (xs : List ℕ) → Below xs → length xs ≤ 11 → Fit (line_text (name_of k) (numbers xs))
numbers_fit k xs B l =
    fit_line _ _ (name_clean 10 (lit< tt) k) (name_short k) (numbers_clean 10 (lit< tt) xs) (numbers_short B) (omega (arith, numbers_count xs))

rows_clean : (c k : ℕ) (f : ℕ → List ℕ) → ((j : ℕ) → j < k + c → Fit (f j))
    → (AllClean 10 (rows c k f)) × (Short 125 (rows c k f)) × (length (rows c k f) ≡ c)
unfolding rows
rows_clean zero k f h = (all_none, short_none, refl)
rows_clean (suc c) k f h =
    let r = rows_clean c (suc k) f (λ j l. h j (omega arith)) in
    let F = h k (omega arith) in
    (all_more F.clean r.0, short_more F.short r.1, ap suc r.2)

both_clean : {ls ms : List (List ℕ)} → AllClean 10 ls → AllClean 10 ms → AllClean 10 (ls ++ ms)
both_clean all_none B = B
both_clean (all_more C A) B = all_more C (both_clean A B)

both_short : {n : ℕ} {ls ms : List (List ℕ)} → Short n ls → Short n ms → Short n (ls ++ ms)
both_short short_none B = B
both_short (short_more h A) B = short_more h (both_short A B)

module _ (t : Tree) (e : tree_keeps t ≡ true) where
  S : Sound t
  S = sound t e

  child_below : (j : ℕ) → 0 < j → j < t.ints → Below (j ∷ parent_of t j ∷ parent_port_of t j ∷ granularity_of t j ∷ [])
  unfolding fields_from
  child_below j z h = limits_below IntLine (child_entry t j).values (child_limits t e j z h)

  root_below : granularity_of t 0 < 10000000000
  root_below = omega (arith, (S.granularity 0 S.some_ints).1)

  acc_below : (a : ℕ) → a < t.accs → Below (acc_values a (accelerator_of t a))
  unfolding fields_from
  acc_below a h = limits_below AccLine (acc_entry t a).values (acc_limits t e a h)

  -- no line has an LF inside, and each is short
  bus_fit : {l : List ℕ} → WritesBus t.bus l → Fit l
  bus_fit (with_delay q) = subst Fit (sym q) (numbers_fit (bus_kind t.bus.axi3) _ (bus_below t.bus (bus_limits t e)) (lit≤ tt))
  bus_fit (without_delay z q) =
      subst Fit (sym q)
      (numbers_fit (bus_kind t.bus.axi3) _ (below_front (bus_front t.bus) _ (bus_below t.bus (bus_limits t e))) (lit≤ tt))

  acc_fit : (a : ℕ) → a < t.accs → Fit (acc_text t a)
  acc_fit a h = numbers_fit AccLine _ (acc_below a h) (lit≤ tt)

  int_fit : (j : ℕ) → j < t.ints → Fit (int_text t j)
  int_fit j h = elim (ℕ_discrete j 0) [
    | yes q ↦ subst (λ i. Fit (int_text t i)) (sym q)
        (fit_line _ _ (name_clean 10 (lit< tt) IntLine) (lit≤ tt) (root_clean 10 (lit< tt) t) (short_more (number_length 0 (lit< tt))
        (short_more (lit≤ tt) (short_more (lit≤ tt) (short_more (number_length (granularity_of t 0) root_below) short_none)))) (lit≤ tt))
    | no d ↦ subst Fit (sym (passed _ _ _ (ne_eqb j 0 d))) (numbers_fit IntLine _ (child_below j (omega arith) h) (lit≤ tt))
  ]

  -- the int lines, one after the other
  record Reached (m : ℕ) (r : TreeRead) (ls : List (List ℕ)) : Type 0 where
    line : ℕ
    tree : Tree
    agrees : Agrees t tree t.ints m
    left : r ≡ read_lines line tree ls []

  int_next : (k n : ℕ) (u : Tree) → k < t.ints → Agrees t u k 0
      → (w : Tree) × (tree_line n u (line_of (int_text t k)) ≡ given w) × Agrees t w (k + 1) 0
  int_next zero n u h A = (_, ap (tree_line n u) (root_read t root_below) ∙ root_step t e u A n, agrees_root t e u A)
  int_next (suc j) n u h A =
      let read = child_read t (suc j) (omega arith) (child_below (suc j) (omega arith) h) in
      (_, ap (tree_line n u) read ∙ child_step t e (suc j) (omega arith) h u A n, agrees_child t e (suc j) (omega arith) h u A)

  ints_read : (c k n : ℕ) (u : Tree) (ls : List (List ℕ)) → k + c ≡ t.ints → Agrees t u k 0
      → Reached 0 (read_lines n u (rows c k (int_text t) ++ ls) []) ls
  unfolding rows
  ints_read zero k n u ls q A = record { line = n; tree = u; agrees = subst (λ i. Agrees t u i 0) (omega arith) A; left = refl }
  ints_read (suc c) k n u ls q A =
      let w = int_next k n u (omega arith) A in
      let a = line_given n u w.0 (int_text t k) (rows c (suc k) (int_text t) ++ ls) [] w.1 in
      let R = ints_read c (suc k) (n + 1) w.0 ls (omega arith) (subst (λ i. Agrees t w.0 i 0) (add-one k) w.2) in
      record { line = R.line; tree = R.tree; agrees = R.agrees; left = a ∙ R.left }

  accs_read : (c m n : ℕ) (u : Tree) → m + c ≡ t.accs → Agrees t u t.ints m → Reached t.accs (read_lines n u (rows c m (acc_text t)) []) []
  unfolding rows
  accs_read zero m n u q A = record { line = n; tree = u; agrees = subst (λ i. Agrees t u t.ints i) (omega arith) A; left = refl }
  accs_read (suc c) m n u q A =
      let l : m < t.accs = omega arith in
      let w = with_acc u (acc_entry t m).values in
      let g = ap (tree_line n u) (acc_read t m (acc_below m l)) ∙ acc_step t e m l u A n in
      let a = line_given n u w (acc_text t m) (rows c (suc m) (acc_text t)) [] g in
      let R = accs_read c (suc m) (n + 1) w (omega arith) (subst (λ i. Agrees t w t.ints i) (add-one m) (agrees_acc t e m l u A)) in
      record { line = R.line; tree = R.tree; agrees = R.agrees; left = a ∙ R.left }

  -- nothing is missing
  whole : complete t ≡ true
  whole =
      joined _ _
      (joined _ _ (joined _ _ (lt-ltb 0 t.bus.window S.window) (lt-ltb 0 t.ints S.some_ints)) (lt-ltb 0 t.accs S.some_accs))
      (at_all t.accs (λ a. ltb 0 (phi_of t a)) (λ a l. lt-ltb 0 (phi_of t a) (S.phi a l).0))

  end_read : (n : ℕ) → read_lines n t [] [] ≡ given t
  unfolding read_lines finish
  end_read n = picked _ _ _ whole

  -- the text that begins with a given bus line of t
  module _ (bus : List ℕ) (W : WritesBus t.bus bus) where
    abbrev pub text : List ℕ
    text = file_text (lines_after bus t)

    lines_given : read_lines 1 empty_tree (lines_after bus t) [] ≡ given t
    lines_given =
        let w = with_bus empty_tree t.bus in
        let g = bus_step 1 empty_tree (bus_limits t e) refl W in
        let a = line_given 1 empty_tree w bus (rows t.ints 0 (int_text t) ++ rows t.accs 0 (acc_text t)) [] g in
        let I = ints_read t.ints 0 2 w (rows t.accs 0 (acc_text t)) (omega arith) (agrees_bus t e) in
        let R = accs_read t.accs 0 I.line I.tree (omega arith) I.agrees in
        a ∙ I.left ∙ R.left ∙ ap (λ (u : Tree). read_lines R.line u [] []) (agrees_all t e R.tree R.agrees) ∙ end_read R.line

    pub text_clean : AllClean 10 (lines_after bus t)
    text_clean =
        let I = rows_clean t.ints 0 (int_text t) (λ j l. int_fit j (omega arith)) in
        let A = rows_clean t.accs 0 (acc_text t) (λ a l. acc_fit a (omega arith)) in
        all_more (bus_fit W).clean (both_clean I.0 A.0)

    -- every configuration that keeps its rules is read from its text
    pub text_given : read_tree text ≡ given t
    text_given =
        let I = rows_clean t.ints 0 (int_text t) (λ j l. int_fit j (omega arith)) in
        let A = rows_clean t.accs 0 (acc_text t) (λ a l. acc_fit a (omega arith)) in
        let n = length-append (rows t.ints 0 (int_text t)) (rows t.accs 0 (acc_text t)) in
        let f : length text ≤ 126 * length (lines_after bus t) = file_length (short_more (bus_fit W).short (both_short I.1 A.1)) in
        let r = lines_read text_clean in
        let b : length text ≤ 65536 = omega (arith, f, n, I.2, A.2, S.most_ints, S.most_accs) in
        tree_start text b
        ∙ ap₂ (read_lines 1 empty_tree) r.0 r.1
        ∙ lines_given

-- the bus line of a configuration's own text
pub text_bus : (t : Tree) → WritesBus t.bus (bus_text t)
text_bus t = elim (ℕ_discrete t.bus.delay 0) [
  | yes z ↦ without_delay z (picked _ _ _ (eq-eqb _ _ z))
  | no d ↦ with_delay (passed _ _ _ (ne_eqb _ _ d))
]

-- a configuration keeps its rules exactly if a tree file could have given it
pub exactly_given : (t : Tree) → (tree_keeps t ≡ true) ↔ ((s : List ℕ) × (read_tree s ≡ given t))
exactly_given t = (
  λ e. (tree_text t, text_given t e (bus_text t) (text_bus t)),
  λ r. subst (λ (x : TreeRead). tree_keeps x.tree ≡ true) r.1 (accepted_keeps r.0 (ap (λ (x : TreeRead). x.answer) r.1)),
)
