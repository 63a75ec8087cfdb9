-- What is written is read back: the digits of a number are that number, the fields of a line are its fields, the lines of a
-- file its lines. By induction on what is written.
use Prim.Native.Nat.{ℕ, suc, ◌+◌, ◌-◌, ◌*◌, ◌^◌, ◌/◌, ◌%◌, ◌≤◌, ◌<◌}
use mathlib.Core.Bool.{true, false}
use mathlib.Core.List.{List, [], ◌∷◌, ◌++◌, append_assoc}
use mathlib.Core.Path.{◌≡◌, refl, sym, ◌∙◌, ap, subst}
use native.Mathlib.Decide.{ℕ_discrete}
use native.Mathlib.Nat.{add-mul, mul_assoc, pow-suc}
use native.Mathlib.Omega.{arith}
use lib.Dec.{leb, lit<}
use lib.ListN.{length, get_or, length-append}
use borrow.Author.Tests.{eq-eqb, ne_eqb, le-leb, leb-true}
use Rattle.folds.proofs.Folds.{both, picked, passed}
use Rattle.text.specs.declared.Field.TheVariants.{Number}
use Rattle.text.specs.Text.{parts, behind, but_last, final, lines, unended, fields, same, is_digit, all_digits, decimal, leading_zero, field_of}
use Rattle.text.specs.Write.{decimal_text, fields_text, line_text, file_text}
use Rattle.text.proofs.Parts.{parts_some, final_some}
use Rattle.text.proofs.Digits.{field_digits}
use Rattle.text.proofs.Decimal.{decimal_one, decimal_more, decimal_some, decimal_short, by_tens}

-- no byte of s is sep
pub data Clean (sep : ℕ) : List ℕ → Type 0 where
  clean_none : Clean sep []
  clean_more : {b : ℕ} {s : List ℕ} → (b ≡ sep → ⊥) → Clean sep s → Clean sep (b ∷ s)

pub clean_append : {sep : ℕ} {s r : List ℕ} → Clean sep s → Clean sep r → Clean sep (s ++ r)
clean_append clean_none R = R
clean_append (clean_more d S) R = clean_more d (clean_append S R)

pub parts_clean : (sep : ℕ) {p : List ℕ} → Clean sep p → parts sep p ≡ p ∷ []
unfolding parts
parts_clean sep clean_none = refl
parts_clean sep (clean_more {b = b} {s = s} d C) = passed _ _ _ (ne_eqb b sep d) ∙ ap (behind b) (parts_clean sep C)

pub parts_part : (sep : ℕ) {p : List ℕ} (r : List ℕ) → Clean sep p → parts sep (p ++ (sep ∷ r)) ≡ p ∷ parts sep r
unfolding parts
parts_part sep r clean_none = picked _ _ _ (eq-eqb sep sep refl)
parts_part sep r (clean_more {b = b} {s = s} d C) = passed _ _ _ (ne_eqb b sep d) ∙ ap (behind b) (parts_part sep r C)

pub append-nil : (s : List ℕ) → s ++ [] ≡ s
append-nil [] = refl
append-nil (b ∷ s) = ap (λ r. b ∷ r) (append-nil s)

-- fields and lines without separators in them
pub data AllClean (sep : ℕ) : List (List ℕ) → Type 0 where
  all_none : AllClean sep []
  all_more : {l : List ℕ} {ls : List (List ℕ)} → Clean sep l → AllClean sep ls → AllClean sep (l ∷ ls)

pub fields_read : {name : List ℕ} {fs : List (List ℕ)} → Clean 9 name → AllClean 9 fs → fields (line_text name fs) ≡ name ∷ fs
unfolding fields_text
fields_read {name} C all_none = ap fields (append-nil name) ∙ parts_clean 9 C
fields_read {name} C (all_more {l = f} {ls = fs} F A) = parts_part 9 (f ++ fields_text fs) C ∙ ap (λ r. name ∷ r) (fields_read F A)

-- lines, and what stands after the last LF
pub lines_read_on : {ls : List (List ℕ)} {e : List ℕ} → AllClean 10 ls → Clean 10 e → (lines (file_text ls ++ e) ≡ ls) × (unended (file_text ls ++ e) ≡ e)
unfolding file_text but_last final
lines_read_on all_none E = let p = parts_clean 10 E in (ap but_last p, ap final p)
lines_read_on {e = e} (all_more {l = l} {ls = ls} C A) E =
    let p = ap (parts 10) (append_assoc l (10 ∷ file_text ls) e) ∙ parts_part 10 (file_text ls ++ e) C in
    let i = lines_read_on A E in
    (ap but_last p ∙ parts_some 10 (file_text ls ++ e) l ∙ ap (λ r. l ∷ r) i.0, ap final p ∙ final_some 10 (file_text ls ++ e) l ∙ i.1)

pub lines_read : {ls : List (List ℕ)} → AllClean 10 ls → (lines (file_text ls) ≡ ls) × (unended (file_text ls) ≡ [])
lines_read {ls} A =
    subst (λ (s : List ℕ). (lines s ≡ ls) × (unended s ≡ [])) (append-nil (file_text ls)) (lines_read_on A clean_none)

-- a line has no LF in it
pub fields_clean : {fs : List (List ℕ)} → AllClean 10 fs → Clean 10 (fields_text fs)
unfolding fields_text
fields_clean all_none = clean_none
fields_clean (all_more C A) = clean_more {b = 9} (omega arith) (clean_append C (fields_clean A))

-- one digit more at the end
pub decimal_last : (s : List ℕ) (d : ℕ) → decimal (s ++ (d ∷ [])) ≡ decimal s * 10 + (d - 48)
unfolding decimal
decimal_last [] d = omega arith
decimal_last (b ∷ s) d =
    let l : length (s ++ (d ∷ [])) ≡ suc (length s) = omega (arith, length-append s (d ∷ [])) in
    rw (l, pow-suc) (omega (arith, decimal_last s d, add-mul ((b - 48) * 10 ^ length s) (decimal s) 10, mul_assoc (b - 48) (10 ^ length s) 10))

digits_last : (s : List ℕ) (d : ℕ) → all_digits s ≡ true → 48 ≤ d → d ≤ 57 → all_digits (s ++ (d ∷ [])) ≡ true
unfolding all_digits
digits_last [] d e h k = simp (le-leb 48 d h, le-leb d 57 k)
digits_last (b ∷ s) d e h k = let a = both (is_digit b) (all_digits s) e in rw a.0 (digits_last s d a.1 h k)

-- what the decimal text s of a number n is
pub record Digits (s : List ℕ) (n : ℕ) : Type 0 where
  pub every : all_digits s ≡ true
  pub value : decimal s ≡ n
  pub lead : 0 < n → get_or s 0 0 ≡ 48 → ⊥

-- the first byte is that of what stands first
first_of : (s r : List ℕ) → 0 < length s → get_or (s ++ r) 0 0 ≡ get_or s 0 0
first_of [] r h = absurd (omega arith)
first_of (b ∷ s) r h = refl

one_digit : (n : ℕ) → n < 10 → Digits (decimal_text n) n
unfolding all_digits decimal
one_digit n l =
    subst (λ (s : List ℕ). Digits s n) (sym (decimal_one n l))
    (record {
      every = simp (le-leb 48 (48 + n) (omega arith), le-leb (48 + n) 57 (omega arith));
      value = omega arith;
      lead = λ h e. omega arith;
    })

more_digits : (n : ℕ) → 10 ≤ n → Digits (decimal_text (n / 10)) (n / 10) → Digits (decimal_text n) n
more_digits n l W =
    let s = decimal_text (n / 10) in
    let d = 48 + n % 10 in
    subst (λ (r : List ℕ). Digits r n) (sym (decimal_more n l))
    (record {
      every = digits_last s d W.every (omega arith) (omega arith);
      value = omega (arith, decimal_last s d, W.value);
      lead = λ h e. W.lead (omega arith) (sym (first_of s (d ∷ []) (decimal_some (n / 10))) ∙ e);
    })

pub decimal_digits : (n : ℕ) → Digits (decimal_text n) n
decimal_digits = by_tens (λ n. Digits (decimal_text n) n) one_digit more_digits

not_dash : (s : List ℕ) → all_digits s ≡ true → same s (45 ∷ []) ≡ false
unfolding same all_digits
not_dash [] e = refl
not_dash (b ∷ s) e =
    let l = leb-true 48 b (both (leb 48 b) (leb b 57) (both (is_digit b) (all_digits s) e).0).0 in
    rw (ne_eqb b 45 (omega arith)) refl

no_lead : (n : ℕ) → leading_zero (decimal_text n) ≡ false
no_lead n = elim (ℕ_discrete n 0) [
  | yes e ↦ ap (λ (k : ℕ). leading_zero (decimal_text k)) e ∙ ap leading_zero (decimal_one 0 (lit< tt))
  | no d ↦ rw (ne_eqb (get_or (decimal_text n) 0 0) 48 ((decimal_digits n).lead (omega arith))) refl
]

-- a number's text is read as that number
pub number_read : (n : ℕ) → n < 10000000000 → field_of (decimal_text n) ≡ Number n
number_read n h =
    let W = decimal_digits n in
    field_digits (decimal_text n) (not_dash (decimal_text n) W.every) (decimal_some n) (decimal_short 9 n h) (no_lead n)
    ∙ picked _ _ _ W.every ∙ ap Number W.value

pub number_length : (n : ℕ) → n < 10000000000 → length (decimal_text n) ≤ 10
number_length n h = decimal_short 9 n h

clean_digits : (sep : ℕ) → (sep < 48) → (s : List ℕ) → all_digits s ≡ true → Clean sep s
unfolding all_digits
clean_digits sep h [] e = clean_none
clean_digits sep h (b ∷ s) e =
    let a = both (is_digit b) (all_digits s) e in
    clean_more (λ (q : b ≡ sep). omega (arith, h, q, leb-true 48 b (both (leb 48 b) (leb b 57) a.0).0)) (clean_digits sep h s a.1)

pub number_clean : (sep : ℕ) → sep < 48 → (n : ℕ) → Clean sep (decimal_text n)
number_clean sep h n = clean_digits sep h (decimal_text n) (decimal_digits n).every
