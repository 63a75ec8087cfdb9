-- Laws of a field read in the whole file: it ends at the next tab or LF, and then it is the first part of the line there. By
-- the clauses of the definitions, read at a position, and by induction on the bytes.
use Prim.Native.Nat.{ℕ, zero, suc, ◌+◌, ◌-◌, ◌≤◌, ◌<◌}
use mathlib.Core.List.{List, [], ◌∷◌}
use mathlib.Core.Path.{◌≡◌, refl, sym, ◌∙◌, ap, ap₂}
use native.Mathlib.Decide.{ℕ_discrete}
use native.Mathlib.Numerals.{add-one}
use native.Mathlib.Omega.{arith}
use lib.ListN.{length, get_or, take, drop, length-drop}
use lib.Seq.{drop-cons, drop-drop}
use borrow.Author.Tests.{eq-eqb, ne_eqb}
use Rattle.folds.proofs.Folds.{picked, passed}
use Rattle.text.specs.Text.{parts, part_length, field_length, behind, fields, line_at}

module _ (s : List ℕ) (e : ℕ) (h : e < length s) (d : get_or s e 0 ≡ 9 → ⊥) where
  pub field_lf : get_or s e 0 ≡ 10 → field_length (drop e s) ≡ 0
  unfolding field_length
  field_lf f = rw (drop-cons s e 0 h) (passed _ _ _ (ne_eqb _ _ d) ∙ picked _ _ _ (eq-eqb _ _ f))

  pub field_more : (get_or s e 0 ≡ 10 → ⊥) → field_length (drop e s) ≡ suc (field_length (drop (e + 1) s))
  unfolding field_length
  field_more f = rw (add-one, drop-cons s e 0 h) (passed _ _ _ (ne_eqb _ _ d) ∙ passed _ _ _ (ne_eqb _ _ f))

-- the bytes before the first LF
abbrev first_line : List ℕ → List ℕ
first_line s = take (part_length 10 s) s

module _ (b : ℕ) (s : List ℕ) where
  len_tab : b ≡ 9 → field_length (b ∷ s) ≡ 0
  unfolding field_length
  len_tab e = picked _ _ _ (eq-eqb b 9 e)

  len_lf : (b ≡ 9 → ⊥) → b ≡ 10 → field_length (b ∷ s) ≡ 0
  unfolding field_length
  len_lf d e = passed _ _ _ (ne_eqb b 9 d) ∙ picked _ _ _ (eq-eqb b 10 e)

  len_more : (b ≡ 9 → ⊥) → (b ≡ 10 → ⊥) → field_length (b ∷ s) ≡ suc (field_length s)
  unfolding field_length
  len_more d f = passed _ _ _ (ne_eqb b 9 d) ∙ passed _ _ _ (ne_eqb b 10 f)

  part_lf : b ≡ 10 → part_length 10 (b ∷ s) ≡ 0
  unfolding part_length
  part_lf e = picked _ _ _ (eq-eqb b 10 e)

  part_on : (b ≡ 10 → ⊥) → part_length 10 (b ∷ s) ≡ suc (part_length 10 s)
  unfolding part_length
  part_on f = passed _ _ _ (ne_eqb b 10 f)

  parts_tab : b ≡ 9 → parts 9 (b ∷ s) ≡ [] ∷ parts 9 s
  unfolding parts
  parts_tab e = picked _ _ _ (eq-eqb b 9 e)

  parts_on : (b ≡ 9 → ⊥) → parts 9 (b ∷ s) ≡ behind b (parts 9 s)
  unfolding parts
  parts_on d = passed _ _ _ (ne_eqb b 9 d)

-- where neither ends the field, no LF is passed
list_end : (s : List ℕ) → length s ≤ field_length s → part_length 10 s ≡ length s
unfolding part_length
list_end [] h = refl
list_end (b ∷ s) h = elim (ℕ_discrete b 9) [
  | yes e ↦ absurd (omega (arith, len_tab b s e))
  | no d ↦ elim (ℕ_discrete b 10) [
    | yes e ↦ absurd (omega (arith, len_lf b s d e))
    | no f ↦ part_on b s f ∙ ap suc (list_end s (omega (arith, len_more b s d f)))
  ]
]

-- a field that a tab ends, and what is passed of the line
list_tab : (s : List ℕ) (k : ℕ) → field_length s ≡ k → k < length s → get_or s k 0 ≡ 9
    → (parts 9 (first_line s) ≡ take k s ∷ parts 9 (first_line (drop (suc k) s))) × (part_length 10 s ≡ suc k + part_length 10 (drop (suc k) s))
list_tab [] k q h g = absurd (omega arith)
list_tab (b ∷ s) zero q h g =
    let p = part_on b s (λ f. omega arith) in
    (ap (λ n. parts 9 (take n (b ∷ s))) p ∙ parts_tab b (first_line s) g, omega (arith, p))
list_tab (b ∷ s) (suc k) q h g = elim (ℕ_discrete b 9) [
  | yes e ↦ absurd (omega (arith, len_tab b s e))
  | no d ↦ elim (ℕ_discrete b 10) [
    | yes e ↦ absurd (omega (arith, len_lf b s d e))
    | no f ↦
        let p = part_on b s f in
        let r = list_tab s k (omega (arith, len_more b s d f)) (omega arith) g in
        (ap (λ n. parts 9 (take n (b ∷ s))) p ∙ parts_on b (first_line s) d ∙ ap (behind b) r.0, omega (arith, p, r.1))
  ]
]

-- a field that the LF ends
list_lf : (s : List ℕ) (k : ℕ) → field_length s ≡ k → k < length s → (get_or s k 0 ≡ 9 → ⊥)
    → (parts 9 (first_line s) ≡ take k s ∷ []) × (part_length 10 s ≡ k) × (get_or s k 0 ≡ 10)
unfolding parts
list_lf [] k q h g = absurd (omega arith)
list_lf (b ∷ s) zero q h g = elim (ℕ_discrete b 10) [
  | yes e ↦ (ap (λ n. parts 9 (take n (b ∷ s))) (part_lf b s e), part_lf b s e, e)
  | no f ↦ absurd (omega (arith, len_more b s g f))
]
list_lf (b ∷ s) (suc k) q h g = elim (ℕ_discrete b 9) [
  | yes e ↦ absurd (omega (arith, len_tab b s e))
  | no d ↦ elim (ℕ_discrete b 10) [
    | yes e ↦ absurd (omega (arith, len_lf b s d e))
    | no f ↦
        let p = part_on b s f in
        let r = list_lf s k (omega (arith, len_more b s d f)) (omega arith) g in
        (ap (λ n. parts 9 (take n (b ∷ s))) p ∙ parts_on b (first_line s) d ∙ ap (behind b) r.0, omega (arith, p, r.1), r.2)
  ]
]

get_d_drop : (at : ℕ) (s : List ℕ) (i : ℕ) → get_or (drop at s) i 0 ≡ get_or s (at + i) 0
get_d_drop zero s i = let m : i ≡ 0 + i = omega arith in ap (λ k. get_or s k 0) m
get_d_drop (suc at) [] i = refl
get_d_drop (suc at) (b ∷ s) i =
    let m : suc (at + i) ≡ suc at + i = omega arith in
    get_d_drop at s i ∙ ap (λ k. get_or (b ∷ s) k 0) m

module _ (s : List ℕ) (at e : ℕ) (q : e ≡ at + field_length (drop at s)) where
  -- no tab and no LF: the line has no end
  pub field_unended : length s ≤ e → length s ≤ at + part_length 10 (drop at s)
  field_unended h =
      let l = length-drop at s in
      omega (arith, list_end (drop at s) (omega arith), l)

  byte : get_or (drop at s) (field_length (drop at s)) 0 ≡ get_or s e 0
  byte = get_d_drop at s _ ∙ ap (λ i. get_or s i 0) (sym q)

  same_field : take (field_length (drop at s)) (drop at s) ≡ take (e - at) (drop at s)
  same_field = let m : field_length (drop at s) ≡ e - at = omega arith in ap (λ k. take k (drop at s)) m

  same_rest : drop (suc (field_length (drop at s))) (drop at s) ≡ drop (e + 1) s
  same_rest =
      let m : at + suc (field_length (drop at s)) ≡ e + 1 = omega arith in
      drop-drop (suc (field_length (drop at s))) at s ∙ ap (λ k. drop k s) m

  module _ (h : e < length s) where
    fits : field_length (drop at s) < length (drop at s)
    fits = let l = length-drop at s in omega (arith, l)

    -- a tab: the line goes on
    pub field_then : get_or s e 0 ≡ 9
        → (fields (line_at s at) ≡ take (e - at) (drop at s) ∷ fields (line_at s (e + 1)))
        × (at + part_length 10 (drop at s) ≡ (e + 1) + part_length 10 (drop (e + 1) s))
    field_then g =
        let r = list_tab (drop at s) _ refl fits (byte ∙ g) in
        (r.0 ∙ ap₂ (λ p t. p ∷ parts 9 (first_line t)) same_field same_rest, omega (arith, r.1, ap (part_length 10) same_rest))

    -- the LF
    pub field_last : (get_or s e 0 ≡ 9 → ⊥) → (fields (line_at s at) ≡ take (e - at) (drop at s) ∷ []) × (at + part_length 10 (drop at s) ≡ e) × (get_or s e 0 ≡ 10)
    field_last g =
        let r = list_lf (drop at s) _ refl fits (λ t. g (sym byte ∙ t)) in
        (r.0 ∙ ap (λ p. p ∷ []) same_field, omega (arith, r.1), sym byte ∙ r.2)
