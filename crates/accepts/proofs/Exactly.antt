-- "A file [is accepted] as exactly the tree that it writes". One way is Back; the other: acc lines in another order are the tree's
-- own text with acc lines exchanged, which Order reads as the same tree.
use Prim.Native.Nat.{ℕ, zero, suc, ◌+◌, ◌≤◌, ◌<◌}
use mathlib.Core.Bool.{true}
use mathlib.Core.List.{List, [], ◌∷◌, ◌++◌, map}
use mathlib.Core.Logic.{◌↔◌}
use mathlib.Core.Path.{◌≡◌, refl, sym, ◌∙◌, ap, ap₂, subst}
use native.Mathlib.Decide.{ℕ_discrete}
use native.Mathlib.Omega.{arith}
use lib.Dec.{eqb, ltb, lit<}
use borrow.Author.Tests.{lt-ltb, le-ltb, eq-eqb, ne_eqb}
use Rattle.text.specs.Text.{lines, unended, same}
use Rattle.text.specs.Write.{rows, numbers, fields_text, file_text}
use Rattle.text.proofs.Written.{AllClean, all_more, lines_read, parts_part}
use Rattle.model.specs.declared.Tree.{Tree}
use Rattle.folds.specs.Fold.{pick}
use Rattle.folds.proofs.Folds.{picked, passed}
use Rattle.rules.specs.Rules.{tree_keeps}
use Rattle.model.specs.declared.Refusal.{Refusal}
use Rattle.lines.specs.Answer.{Accepted, Refused}
use Rattle.lines.specs.declared.Kind.TheVariants.{AccLine}
use Rattle.lines.specs.Lines.{kind_of, line_from, line_of}
use Rattle.lines.proofs.Written.{name_clean}
use Rattle.lines.proofs.Back.{pushed_kind}
use Rattle.placing.specs.Placing.{TreeRead, given}
use Rattle.reader.specs.TreeFile.{read_tree}
use Rattle.writer.specs.Lines.{bus_whole, bus_short, int_text, acc_text}
use Rattle.writer.specs.Writer.{times}
use Rattle.accepts.specs.TreeText.{with_delay, without_delay, lines_after, Writes}
use Rattle.accepts.proofs.Kept.{never_refused}
use Rattle.accepts.proofs.Order.{Reordered, unchanged, exchanged, later, also, any_order}
use Rattle.accepts.proofs.Complete.{text_given, text_clean}
use Rattle.accepts.proofs.Back.{read_written}
use Rattle.rules.proofs.Beneath.{only, only_same, only_other}

-- the numbers bs without the first a
remove : ℕ → List ℕ → List ℕ
remove a [] = []
remove a (b ∷ bs) = pick (eqb a b) bs (b ∷ remove a bs)

times_remove : (a x : ℕ) (bs : List ℕ) → 0 < times a bs → times x bs ≡ only x a + times x (remove a bs)
unfolding times remove
times_remove a x [] h = absurd (omega arith)
times_remove a x (b ∷ bs) h = elim (ℕ_discrete a b) [
  | yes e ↦ ap₂ ◌+◌ (ap (only x) (sym e)) (ap (times x) (sym (picked _ _ _ (eq-eqb a b e))))
  | no d ↦
      let i = times_remove a x bs (omega (arith, only_other a b d)) in
      let r = ap (times x) (passed (eqb a b) bs (b ∷ remove a bs) (ne_eqb a b d)) in
      omega arith
]

module _ (f : ℕ → List ℕ) (kind : (a : ℕ) → (line_of (f a)).kind ≡ AccLine) where
  to_front : (a : ℕ) (bs : List ℕ) → 0 < times a bs → Reordered (f a ∷ map f (remove a bs)) (map f bs)
  unfolding times remove
  to_front a [] h = absurd (omega arith)
  to_front a (b ∷ bs) h =
      let Front : List ℕ → Type 0 = λ cs. Reordered (f a ∷ map f cs) (map f (b ∷ bs)) in
      elim (ℕ_discrete a b) [
        | yes e ↦ subst Front (sym (picked _ _ _ (eq-eqb a b e))) (subst (λ (c : ℕ). Reordered (f c ∷ map f bs) (f b ∷ map f bs)) (sym e) unchanged)
        | no d ↦ subst Front (sym (passed _ _ _ (ne_eqb a b d)))
            (also (exchanged (kind a) (kind b)) (later (to_front a bs (omega (arith, only_other a b d)))))
      ]

  -- the same numbers in another order
  same_times : (cs bs : List ℕ) → ((x : ℕ) → times x cs ≡ times x bs) → Reordered (map f cs) (map f bs)
  unfolding times
  same_times [] [] h = unchanged
  same_times [] (b ∷ bs) h = absurd (omega (arith, h b, only_same b b refl))
  same_times (a ∷ cs) bs h =
      let z : 0 < times a bs = omega (arith, h a, only_same a a refl) in
      also (later (same_times cs (remove a bs) (λ x. omega (arith, h x, times_remove a x bs z)))) (to_front a bs z)

-- the numbers from k on, n of them
upto : ℕ → ℕ → List ℕ
upto zero k = []
upto (suc n) k = k ∷ upto n (suc k)

rows_map : (n k : ℕ) (f : ℕ → List ℕ) → rows n k f ≡ map f (upto n k)
unfolding rows upto
rows_map zero k f = refl
rows_map (suc n) k f = ap (λ (r : List (List ℕ)). f k ∷ r) (rows_map n (suc k) f)

upto_low : (n k a : ℕ) → a < k → times a (upto n k) ≡ 0
unfolding times upto
upto_low zero k a h = refl
upto_low (suc n) k a h = omega (arith, only_other a k (λ e. omega arith), upto_low n (suc k) a (omega arith))

upto_times : (n k a : ℕ) → k ≤ a → times a (upto n k) ≡ pick (ltb a (k + n)) 1 0
unfolding times upto
upto_times zero k a h = sym (passed _ _ _ (le-ltb a (k + 0) (omega arith)))
upto_times (suc n) k a h = elim (ℕ_discrete a k) [
  | yes e ↦ omega (arith, only_same a k e, upto_low n (suc k) a (omega arith), picked {A = ℕ} (ltb a (k + suc n)) 1 0 (lt-ltb a (k + suc n) (omega arith)))
  | no d ↦
      let i = upto_times n (suc k) a (omega arith) in
      let m : suc k + n ≡ k + suc n = omega arith in
      omega (arith, only_other a k d, ap (λ (b : ℕ). pick {A = ℕ} (ltb a b) 1 0) m)
]

reordered_after : (ps : List (List ℕ)) {ls ms : List (List ℕ)} → Reordered ls ms → Reordered (ps ++ ls) (ps ++ ms)
reordered_after [] r = r
reordered_after (p ∷ ps) r = later (reordered_after ps r)

reordered_clean : {ls ms : List (List ℕ)} → Reordered ls ms → AllClean 10 ls → AllClean 10 ms
reordered_clean unchanged A = A
reordered_clean (exchanged k m) (all_more C (all_more D A)) = all_more D (all_more C A)
reordered_clean (later r) (all_more C A) = all_more C (reordered_clean r A)
reordered_clean (also r q) A = reordered_clean q (reordered_clean r A)

acc_kind : (t : Tree) (a : ℕ) → (line_of (acc_text t a)).kind ≡ AccLine
unfolding line_of kind_of same fields_text numbers
acc_kind t a = ap (λ (ps : List (List ℕ)). (line_from ps).kind) (parts_part 9 _ (name_clean 9 (lit< tt) AccLine)) ∙ pushed_kind _ _

module _ (s : List ℕ) (t : Tree) (e : tree_keeps t ≡ true) (W : Writes s t) where
  abbrev written : List (List ℕ)
  written = W.bus ∷ (rows t.ints 0 (int_text t) ++ map (acc_text t) W.order)

  same_counts : (a : ℕ) → times a (upto t.accs 0) ≡ times a W.order
  same_counts a =
      let z : 0 + t.accs ≡ t.accs = omega arith in
      upto_times t.accs 0 a (omega arith) ∙ ap (λ (n : ℕ). pick (ltb a n) 1 0) z ∙ sym (W.once a)

  reordered : Reordered (lines_after W.bus t) written
  reordered =
      let o = same_times (acc_text t) (acc_kind t) (upto t.accs 0) W.order same_counts in
      let r = sym (rows_map t.accs 0 (acc_text t)) in
      later (reordered_after (rows t.ints 0 (int_text t)) (subst (λ (ls : List (List ℕ)). Reordered ls (map (acc_text t) W.order)) r o))

  written_read : read_tree s ≡ given t
  written_read =
      let c = text_clean t e W.bus W.writes_bus in
      let r = lines_read c in
      let q = lines_read (reordered_clean reordered c) in
      let l = ap lines W.text ∙ q.0 in
      let g = text_given t e W.bus W.writes_bus in
      let own = file_text (lines_after W.bus t) in
      let o = subst (λ (ls : List (List ℕ)). Reordered ls written) (sym r.0) reordered in
      any_order own s (subst (Reordered (lines own)) (sym l) o)
      (ap unended W.text ∙ q.1 ∙ sym r.1) (ap (λ (x : TreeRead). x.answer) g)
      ∙ g

-- a file is accepted as exactly the tree that it writes
pub exactly_written : (s : List ℕ) (t : Tree) → (read_tree s ≡ given t) ↔ ((tree_keeps t ≡ true) × Writes s t)
exactly_written s t = (read_written s t, λ h. written_read s t h.0 h.1)

-- so it is accepted exactly if it writes a sound tree, and it writes one only
pub accepted_written : (s : List ℕ) → ((read_tree s).answer ≡ Accepted) ↔ ((t : Tree) × (tree_keeps t ≡ true) × Writes s t)
accepted_written s = (
  λ e. let h = read_written s (read_tree s).tree (λ i. record { answer = e i; tree = (read_tree s).tree }) in ((read_tree s).tree, h.0, h.1),
  λ h. ap (λ (x : TreeRead). x.answer) (written_read s h.0 h.1 h.2),
)

pub one_tree : (s : List ℕ) (t u : Tree) → tree_keeps t ≡ true → tree_keeps u ≡ true → Writes s t → Writes s u → t ≡ u
one_tree s t u e f A B = ap (λ (x : TreeRead). x.tree) (sym (written_read s t e A) ∙ written_read s u f B)

-- "absent means 0": where the return delay is 0, a file with the field and one without it give one tree
module _ (t : Tree) (e : tree_keeps t ≡ true) (z : t.bus.delay ≡ 0) (order : List ℕ)
    (once : (a : ℕ) → times a order ≡ pick (ltb a t.accs) 1 0) where
  abbrev after_bus : List (List ℕ)
  after_bus = rows t.ints 0 (int_text t) ++ map (acc_text t) order

  pub absent_or_zero : read_tree (file_text (bus_short t.bus ∷ after_bus)) ≡ read_tree (file_text (bus_whole t.bus ∷ after_bus))
  absent_or_zero =
      written_read _ t e (record { bus = bus_short t.bus; writes_bus = without_delay z refl; order = order; once = once; text = refl })
      ∙ sym (written_read _ t e (record { bus = bus_whole t.bus; writes_bus = with_delay refl; order = order; once = once; text = refl }))

-- a file that is refused writes no tree
pub refused_none : (s : List ℕ) (r : Refusal) (n : ℕ) → (read_tree s).answer ≡ Refused r n → (t : Tree) → tree_keeps t ≡ true → Writes s t → ⊥
refused_none s r n e t k W = never_refused _ r n (sym e ∙ ap (λ (x : TreeRead). x.answer) (written_read s t k W))
