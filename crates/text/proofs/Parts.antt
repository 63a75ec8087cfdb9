-- Laws of parts: what stands at a position says where the part there ends, and a part ends at the next separator. By the
-- clauses of the definitions, read at a position through `drop-cons`, and by induction on the bytes.
use Prim.Native.Nat.{ℕ, suc, ◌+◌, ◌-◌, ◌≤◌, ◌<◌}
use mathlib.Core.List.{List, [], ◌∷◌}
use mathlib.Core.Path.{◌≡◌, refl, sym, ◌∙◌, ap}
use native.Mathlib.Decide.{ℕ_discrete, dec_lt}
use native.Mathlib.Numerals.{add-one}
use native.Mathlib.Omega.{arith}
use lib.Dec.{ltb}
use lib.ListN.{length, get_or, take, drop, length-drop, drop_of_length-le}
use lib.Seq.{drop-cons, drop-drop}
use borrow.Author.Tests.{eq-eqb, ne_eqb, lt-ltb, le-ltb}
use Rattle.folds.specs.Fold.{pick}
use Rattle.folds.proofs.Folds.{clash, picked, passed}
use Rattle.text.specs.Text.{parts, part_length, behind, but_last, final, lines, unended}

-- two tests that hold together are one
pub ltb_same : (a b c d : ℕ) → (a < b → c < d) → (c < d → a < b) → ltb a b ≡ ltb c d
ltb_same a b c d f g = elim (dec_lt a b) [
  | yes l ↦ lt-ltb a b l ∙ sym (lt-ltb c d (f l))
  | no n ↦ le-ltb a b (omega arith) ∙ sym (le-ltb c d (elim (dec_lt c d) [ yes m ↦ absurd (n (g m)) | no k ↦ omega arith ]))
]

pub part_here : (sep : ℕ) (s : List ℕ) (e : ℕ) → e < length s → get_or s e 0 ≡ sep → part_length sep (drop e s) ≡ 0
unfolding part_length
part_here sep s e h d = rw (drop-cons s e 0 h) (picked _ _ _ (eq-eqb _ _ d))

pub part_more : (sep : ℕ) (s : List ℕ) (e : ℕ) → e < length s → (get_or s e 0 ≡ sep → ⊥) → part_length sep (drop e s) ≡ suc (part_length sep (drop (e + 1) s))
unfolding part_length
part_more sep s e h d = rw (add-one, drop-cons s e 0 h) (passed _ _ _ (ne_eqb _ _ d))

-- a part has no more bytes than there are
pub part_most : (sep : ℕ) (s : List ℕ) → part_length sep s ≤ length s
unfolding part_length
part_most sep [] = omega arith
part_most sep (b ∷ s) = elim (ℕ_discrete b sep) [
  | yes e ↦ rw (picked _ 0 (suc (part_length sep s)) (eq-eqb b sep e)) (omega arith)
  | no d ↦ rw (passed _ 0 (suc (part_length sep s)) (ne_eqb b sep d)) (omega (arith, part_most sep s))
]

pub part_fits : (sep : ℕ) (s : List ℕ) (at : ℕ) → at ≤ length s → at + part_length sep (drop at s) ≤ length s
part_fits sep s at h = omega (arith, part_most sep (drop at s), length-drop at s)

-- what comes after a part that ends at e
abbrev pub rest : ℕ → List ℕ → ℕ → List (List ℕ)
rest sep s e = pick (ltb e (length s)) (parts sep (drop (suc e) s)) []

-- the first part, and the parts after it
pub first_part : (sep : ℕ) (s : List ℕ) → parts sep s ≡ take (part_length sep s) s ∷ rest sep s (part_length sep s)
unfolding parts part_length
first_part sep [] = refl
first_part sep (b ∷ s) = elim (ℕ_discrete b sep) [
  | yes e ↦ rw (eq-eqb b sep e) (ap (λ r. [] ∷ r) (sym (picked _ _ _ (lt-ltb 0 (suc (length s)) (omega arith)))))
  | no d ↦
      let n = part_length sep s in
      rw (ne_eqb b sep d, ltb_same (suc n) (suc (length s)) n (length s) (λ l. omega arith) (λ l. omega arith)) (ap (behind b) (first_part sep s))
]

-- the part at a position, and the parts after it
pub part_next : (sep : ℕ) (s : List ℕ) (at e : ℕ) → at ≤ length s → e ≡ at + part_length sep (drop at s)
    → parts sep (drop at s) ≡ take (e - at) (drop at s) ∷ pick (ltb e (length s)) (parts sep (drop (e + 1) s)) []
part_next sep s at e h q =
    let n : part_length sep (drop at s) ≡ e - at = omega arith in
    let l = length-drop at s in
    let m : at + suc (e - at) ≡ e + 1 = omega arith in
    first_part sep (drop at s)
    ∙ rw (n, drop-drop (suc (e - at)) at s, m, ltb_same (e - at) (length (drop at s)) e (length s) (λ k. omega arith) (λ k. omega arith)) refl

-- a file's parts are at least one
pub parts_some : (sep : ℕ) (s : List ℕ) (l : List ℕ) → but_last (l ∷ parts sep s) ≡ l ∷ but_last (parts sep s)
unfolding but_last
parts_some sep s l = rw (first_part sep s) refl

pub final_some : (sep : ℕ) (s : List ℕ) (l : List ℕ) → final (l ∷ parts sep s) ≡ final (parts sep s)
unfolding final
final_some sep s l = rw (first_part sep s) refl

-- at the end of the bytes no line is passed, and nothing stands after the last LF
pub lines_none : (s : List ℕ) (at : ℕ) → length s ≤ at → (lines (drop at s) ≡ []) × (unended (drop at s) ≡ [])
unfolding parts but_last final
lines_none s at h = let e = drop_of_length-le s h in (ap lines e, ap unended e)

module _ (s : List ℕ) (at e : ℕ) (h : at ≤ length s) (q : e ≡ at + part_length 10 (drop at s)) where
  -- a line without its LF is the last
  pub lines_unended : length s ≤ e → (lines (drop at s) ≡ []) × (unended (drop at s) ≡ take (e - at) (drop at s))
  unfolding but_last final
  lines_unended l =
      let p = part_next 10 s at e h q ∙ ap (λ r. take (e - at) (drop at s) ∷ r) (passed _ _ _ (le-ltb _ _ l)) in
      (ap but_last p, ap final p)

  -- a line with its LF, and the lines after it
  pub lines_next : e < length s → (lines (drop at s) ≡ take (e - at) (drop at s) ∷ lines (drop (e + 1) s)) × (unended (drop at s) ≡ unended (drop (e + 1) s))
  lines_next l =
      let p = part_next 10 s at e h q ∙ ap (λ r. take (e - at) (drop at s) ∷ r) (picked _ _ _ (lt-ltb _ _ l)) in
      (ap but_last p ∙ parts_some 10 (drop (e + 1) s) _, ap final p ∙ final_some 10 (drop (e + 1) s) _)

-- the bytes of lines, each with its LF
pub sizes : List (List ℕ) → ℕ
sizes [] = 0
sizes (l ∷ ls) = suc (length l) + sizes ls

pub sizes_cons : (l : List ℕ) (ls : List (List ℕ)) → sizes (l ∷ ls) ≡ suc (length l) + sizes ls
unfolding sizes
sizes_cons l ls = refl

parts_sizes : (sep : ℕ) (s : List ℕ) → sizes (parts sep s) ≡ suc (length s)
unfolding sizes parts
parts_sizes sep [] = omega arith
parts_sizes sep (b ∷ s) = elim (ℕ_discrete b sep) [
  | yes e ↦ ap sizes (picked _ ([] ∷ parts sep s) (behind b (parts sep s)) (eq-eqb b sep e)) ∙ omega (arith, parts_sizes sep s)
  | no d ↦ ap sizes (passed _ ([] ∷ parts sep s) (behind b (parts sep s)) (ne_eqb b sep d)) ∙ go (parts sep s) (first_part sep s) (parts_sizes sep s)
]
  where
    go : (ps : List (List ℕ)) {p : List ℕ} {qs : List (List ℕ)} → ps ≡ p ∷ qs → sizes ps ≡ suc (length s) → sizes (behind b ps) ≡ suc (suc (length s))
    go [] e f = clash cc
    go (p ∷ ps) e f = omega arith

last_sizes : (p : List ℕ) (ps : List (List ℕ)) → sizes (but_last (p ∷ ps)) + suc (length (final (p ∷ ps))) ≡ sizes (p ∷ ps)
unfolding sizes but_last final
last_sizes p [] = omega arith
last_sizes p (q ∷ ps) = omega (arith, last_sizes q ps)

-- a text has the bytes of its lines and what stands after the last LF
pub text_size : (s : List ℕ) → sizes (lines s) + length (unended s) ≡ length s
text_size s = go (parts 10 s) (first_part 10 s) (parts_sizes 10 s)
  where
    go : (ps : List (List ℕ)) {p : List ℕ} {qs : List (List ℕ)} → ps ≡ p ∷ qs → sizes ps ≡ suc (length s) → sizes (but_last ps) + length (final ps) ≡ length s
    go [] e f = clash cc
    go (p ∷ ps) e f = omega (arith, last_sizes p ps)
