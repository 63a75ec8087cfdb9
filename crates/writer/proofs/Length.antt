-- The text of a configuration that keeps its rules has at most 1,973 bytes: each field is in its limits, so each line is short, and the
-- numbers that have one digit are counted as such.
use Prim.Native.Nat.{ℕ, zero, suc, ◌+◌, ◌^◌, ◌≤◌, ◌<◌}
use mathlib.Core.Bool.{Bool, true, false}
use mathlib.Core.List.{List, [], ◌∷◌, ◌++◌, map}
use mathlib.Core.Path.{◌≡◌, refl, sym, ◌∙◌, ap}
use native.Mathlib.Decide.{dec_lt, ℕ_discrete}
use native.Mathlib.Numerals.{add-one}
use native.Mathlib.Omega.{arith}
use lib.Dec.{ltb}
use lib.ListN.{length, drop, length-append}
use borrow.Author.Tests.{lt-ltb, le-ltb, eq-eqb, ne_eqb}
use Rattle.text.specs.Write.{decimal_text, digits, numbers, rows, fields_text, line_text, file_text}
use Rattle.text.proofs.Decimal.{decimal_short}
use Rattle.model.specs.declared.Tree.{Tree}
use Rattle.model.specs.declared.Bus.{Bus}
use Rattle.folds.specs.Fold.{pick, sum}
use Rattle.folds.proofs.Folds.{picked, passed, tests, sum_mono}
use Rattle.model.specs.Tree.{beat_limit, granularity_of, parent_of, parent_port_of, accelerator_of}
use Rattle.rules.specs.Rules.{bus_keeps, tree_keeps}
use Rattle.rules.proofs.Sound.{Sound, sound}
use Rattle.lines.specs.declared.Kind.TheVariants.{IntLine, AccLine}
use Rattle.lines.specs.Lines.{bus_kind, name_of}
use Rattle.put.specs.Page.{ended}
use Rattle.writer.specs.Lines.{bus_front, acc_values, bus_name, bus_whole, bus_short, bus_written, root_written, child_written, bus_text, int_text, acc_text}
use Rattle.writer.specs.Writer.{port_order, written_text}
use Rattle.writer.proofs.Limits.{bus_limits, acc_ranges}
use Rattle.writer.proofs.Texts.{row_more, text_parts}
use Rattle.writer.proofs.Order.{over, over_order}

-- the fields of the numbers xs have at most n bytes, each with its tab
data Most : ℕ → List ℕ → Type 0 where
  most_none : Most 0 []
  most_more : {n x : ℕ} {xs : List ℕ} (k : ℕ) → x < 10 ^ suc k → Most n xs → Most (2 + k + n) (x ∷ xs)

most_fields : {n : ℕ} {xs : List ℕ} → Most n xs → length (fields_text (numbers xs)) ≤ n
unfolding fields_text numbers
most_fields most_none = omega arith
most_fields (most_more {n} {x} {xs} k h M) =
    omega (arith, length-append (decimal_text x) (fields_text (numbers xs)), decimal_short k x h, most_fields M)

line_most : (name : List ℕ) {n : ℕ} {xs : List ℕ} → Most n xs → length (line_text name (numbers xs)) ≤ length name + n
line_most name {n} {xs} M = omega (arith, length-append name (fields_text (numbers xs)), most_fields M)

-- the bus line's fields before the return delay, where the burst length has k + 1 digits, and what stands after them
bus_front_lem : (b : Bus) → bus_keeps b ≡ true → (k : ℕ) → b.burst < 10 ^ suc k → {n : ℕ} {xs : List ℕ} → Most n xs
    → length (fields_text (numbers (bus_front b ++ xs))) ≤ 42 + k + n
unfolding bus_keeps
bus_front_lem b e k l M =
    let h = simp tests at e in
    let last = most_more {x = b.td} 2 (omega arith) (most_more {x = b.tb} 2 (omega arith) (most_more {x = b.burst} k l M)) in
    let memory = most_more {x = b.pr} 3 (omega arith) (most_more {x = b.pw} 3 (omega arith) last) in
    let latencies = most_more {x = b.da} 2 (omega arith) (most_more {x = b.dd} 2 (omega arith) (most_more {x = b.db} 2 (omega arith) memory)) in
    omega (arith, most_fields (most_more {x = b.window} 4 (omega arith) (most_more {x = b.ta} 2 (omega arith) latencies)))

-- what the record name has more under bus3, the burst length has less
bus_line_lem : (b : Bus) → bus_keeps b ≡ true → {n : ℕ} {xs : List ℕ} → Most n xs → length (line_text (bus_name b) (numbers (bus_front b ++ xs))) ≤ 47 + n
unfolding bus_keeps
bus_line_lem b e {n} {xs} M =
    let h = simp tests at e in
    let l = length-append (bus_name b) (fields_text (numbers (bus_front b ++ xs))) in
    go b.axi3 refl h.0.1.1 l
  where
    go : (a : Bool) → b.axi3 ≡ a → b.burst ≤ beat_limit b
        → length (line_text (bus_name b) (numbers (bus_front b ++ xs))) ≡ length (bus_name b) + length (fields_text (numbers (bus_front b ++ xs)))
        → length (line_text (bus_name b) (numbers (bus_front b ++ xs))) ≤ 47 + n
    go true q m l =
        let few : beat_limit b ≡ 16 = ap (λ (a : Bool). pick a 16 256) q in
        omega (arith, l, ap (λ (a : Bool). length (name_of (bus_kind a))) q, bus_front_lem b e 1 (omega arith) M)
    go false q m l =
        let many : beat_limit b ≡ 256 = ap (λ (a : Bool). pick a 16 256) q in
        omega (arith, l, ap (λ (a : Bool). length (name_of (bus_kind a))) q, bus_front_lem b e 2 (omega arith) M)

bus_most : (b : Bus) → bus_keeps b ≡ true → length (bus_written b) ≤ 50
unfolding bus_keeps
bus_most b e =
    let h = simp tests at e in
    let delay = most_more {x = b.delay} 1 (omega arith) most_none in
    elim (ℕ_discrete b.delay 0) [
      | yes z ↦ omega (arith, ap length (picked _ (bus_short b) (bus_whole b) (eq-eqb b.delay 0 z)), bus_line_lem b e most_none)
      | no d ↦ omega (arith, ap length (passed _ (bus_short b) (bus_whole b) (ne_eqb b.delay 0 d)), bus_line_lem b e delay)
    ]

-- the greatest length of an int line and of an acc line, by number, each with its LF
int_most : ℕ → ℕ
int_most j = pick (ltb j 10) 13 (pick (ltb j 11) 14 15)

acc_most : ℕ → ℕ
acc_most a = pick (ltb a 10) 53 54

int_low : (j : ℕ) → j < 10 → int_most j ≡ 13
unfolding int_most
int_low j h = picked _ _ _ (lt-ltb j 10 h)

int_ten : (j : ℕ) → 10 ≤ j → j < 11 → int_most j ≡ 14
unfolding int_most
int_ten j h k = passed _ _ _ (le-ltb j 10 h) ∙ picked _ _ _ (lt-ltb j 11 k)

int_high : (j : ℕ) → 11 ≤ j → int_most j ≡ 15
unfolding int_most
int_high j h = passed _ _ _ (le-ltb j 10 (omega arith)) ∙ passed _ _ _ (le-ltb j 11 h)

acc_low : (a : ℕ) → a < 10 → acc_most a ≡ 53
unfolding acc_most
acc_low a h = picked _ _ _ (lt-ltb a 10 h)

acc_high : (a : ℕ) → 10 ≤ a → acc_most a ≡ 54
unfolding acc_most
acc_high a h = passed _ _ _ (le-ltb a 10 h)

root_most : (g : ℕ) → g ≤ 16 → length (root_written g) ≤ 12
unfolding fields_text decimal_text digits
root_most g h = omega (arith, length-append (decimal_text g) [], decimal_short 1 g (omega arith))

module _ (t : Tree) (e : tree_keeps t ≡ true) where
  S : Sound t
  S = sound t e

  -- the fields of an int line after the number and the parent
  child_end : (j : ℕ) → j < t.ints → 0 < j → Most 5 (parent_port_of t j ∷ granularity_of t j ∷ [])
  child_end j h z = most_more {x = parent_port_of t j} 0 (omega (arith, S.parent_port j z h)) (most_more {x = granularity_of t j} 1 (omega (arith, (S.granularity j h).1)) most_none)

  child_most : (j : ℕ) → j < t.ints → 0 < j → suc (length (child_written j (parent_of t j) (parent_port_of t j) (granularity_of t j))) ≤ int_most j
  child_most j h z =
      let last = child_end j h z in
      let p = S.parent j z h in
      let m = S.most_ints in
      elim (dec_lt j 10) [
        | yes b ↦ omega (arith, int_low j b, line_most (name_of IntLine) (most_more {x = j} 0 b (most_more {x = parent_of t j} 0 (omega arith) last)))
        | no b ↦ elim (dec_lt j 11) [
          | yes c ↦ omega (
            arith,
            int_ten j (omega arith) c,
            line_most (name_of IntLine) (most_more {x = j} 1 (omega arith) (most_more {x = parent_of t j} 0 (omega arith) last)),
          )
          | no c ↦ omega (
            arith,
            int_high j (omega arith),
            line_most (name_of IntLine) (most_more {x = j} 1 (omega arith) (most_more {x = parent_of t j} 1 (omega arith) last)),
          )
        ]
      ]

  int_most_lem : (j : ℕ) → j < t.ints → suc (length (int_text t j)) ≤ int_most j
  int_most_lem zero h = omega (arith, int_low 0 (omega arith), root_most (granularity_of t 0) (S.granularity 0 h).1)
  int_most_lem (suc j) h =
      let q : int_text t (suc j) ≡ child_written (suc j) (parent_of t (suc j)) (parent_port_of t (suc j)) (granularity_of t (suc j)) =
      passed _ _ _ (ne_eqb (suc j) 0 (omega arith)) in
      omega (arith, child_most (suc j) h (omega arith), ap length q)

  -- the fields of an acc line after the number
  acc_end : (a : ℕ) → a < t.accs → Most 47 (drop 1 (acc_values a (accelerator_of t a)))
  acc_end a l =
      let x = accelerator_of t a in
      let r = acc_ranges t e a l in
      let m = S.most_ints in
      let job = most_more {x = x.computing} 9 (omega (arith, r.2)) (most_more {x = x.period} 9 (omega (arith, r.4)) most_none) in
      let counts = most_more {x = x.reads} 4 (omega (arith, r.0)) (most_more {x = x.writes} 4 (omega (arith, r.1)) job) in
      let limits = most_more {x = x.phi} 1 (omega (arith, (S.phi a l).1)) (most_more {x = x.budget} 3 (omega (arith, (S.budget a l).1)) counts) in
      most_more {x = x.interconnect} 1 (omega (arith, S.home a l)) (most_more {x = x.port} 0 (omega (arith, S.home_port a l)) limits)

  acc_most_lem : (a : ℕ) → a < t.accs → suc (length (acc_text t a)) ≤ acc_most a
  acc_most_lem a l = elim (dec_lt a 10) [
    | yes b ↦ omega (arith, acc_low a b, line_most (name_of AccLine) (most_more {x = a} 0 b (acc_end a l)))
    | no b ↦ omega (arith, acc_high a (omega arith), line_most (name_of AccLine) (most_more {x = a} 1 (omega (arith, S.most_accs)) (acc_end a l)))
  ]

rows_length : (n : ℕ) (f : ℕ → List ℕ) → length (file_text (rows n 0 f)) ≡ sum n (λ i. suc (length (f i)))
unfolding sum file_text rows
rows_length zero f = refl
rows_length (suc n) f =
    ap (λ (k : ℕ). length (file_text (rows k 0 f))) (sym (add-one n)) ∙ ap length (sym (row_more n f)) ∙ length-append (file_text (rows n 0 f)) (ended (f n))
    ∙ omega (arith, rows_length n f, length-append (f n) (10 ∷ []))

order_length : (f : ℕ → List ℕ) (l : List ℕ) → length (file_text (map f l)) ≡ over (λ a. suc (length (f a))) l
unfolding file_text over
order_length f [] = refl
order_length f (x ∷ l) = omega (arith, length-append (f x) (10 ∷ file_text (map f l)), order_length f l)

sum_longer : (n m : ℕ) (f : ℕ → ℕ) → n ≤ m → sum n f ≤ sum m f
unfolding sum
sum_longer n zero f h = let q : n ≡ 0 = omega arith in omega (arith, ap (λ k. sum k f) q)
sum_longer n (suc m) f h = elim (dec_lt m n) [
  | yes b ↦ let q : n ≡ suc m = omega arith in omega (arith, ap (λ k. sum k f) q)
  | no b ↦ omega (arith, sum_longer n m f (omega arith))
]

all_ints : sum 15 int_most ≡ 204
unfolding sum int_most
all_ints = refl

all_accs : sum 32 acc_most ≡ 1718
unfolding sum acc_most
all_accs = refl

-- the longest text has 51 bytes for the bus line, 204 for the int lines and 1,718 for the acc lines
pub written_length : (t : Tree) → tree_keeps t ≡ true → length (written_text t) ≤ 1973
written_length t e =
    let S = sound t e in
    let ints = rows t.ints 0 (int_text t) in
    let accs = map (acc_text t) (port_order t) in
    let a : length (file_text ints) ≤ 204 =
    omega (arith, rows_length t.ints (int_text t), sum_mono t.ints _ int_most (int_most_lem t e), sum_longer t.ints 15 int_most S.most_ints, all_ints) in
    let b : length (file_text accs) ≤ 1718 =
    omega (
      arith,
      order_length (acc_text t) (port_order t),
      over_order t S (λ i. suc (length (acc_text t i))),
      sum_mono t.accs _ acc_most (acc_most_lem t e),
      sum_longer t.accs 32 acc_most S.most_accs,
      all_accs,
    ) in
    let c = ap length (sym (text_parts t)) ∙ length-append (ended (bus_text t) ++ file_text ints) (file_text accs) in
    omega (arith, a, b, c, length-append (ended (bus_text t)) (file_text ints), length-append (bus_text t) (10 ∷ []), bus_most t.bus (bus_limits t e))
