-- The other way of Written: what is read was written so. A field that says a number is that number's text, a text is its lines,
-- and a line its fields, written again: so lines, fields and numbers are said by writing them, both ways. By induction on what is
-- read.
use Prim.Native.Nat.{ℕ, zero, suc, ◌+◌, ◌-◌, ◌*◌, ◌^◌, ◌/◌, ◌%◌, ◌≤◌, ◌<◌}
use mathlib.Core.Bool.{Bool, true, false, ◌&&◌, not}
use mathlib.Core.List.{List, [], ◌∷◌, ◌++◌, append_assoc}
use mathlib.Core.Logic.{◌↔◌}
use mathlib.Core.Path.{◌≡◌, refl, sym, ◌∙◌, ap, ap₂, subst}
use native.Mathlib.Decide.{ℕ_discrete}
use native.Mathlib.Nat.{mul-pos, one-le-pow, mul-le-mul_right, pow-suc, pow-le-pow_right}
use native.Mathlib.Omega.{arith}
use lib.Dec.{eqb, ltb, leb, lit<}
use lib.ListN.{length, get_or, length-append}
use borrow.Author.Tests.{eq-eqb, ne_eqb, leb-true, eqb-true, ltb-false}
use Rattle.folds.specs.Fold.{pick}
use Rattle.folds.proofs.Folds.{both, clash, picked, passed}
use Rattle.text.specs.declared.Field.{Field}
use Rattle.text.specs.declared.Field.TheVariants.{Malformed, Dash, Number}
use Rattle.text.specs.Text.{parts, behind, but_last, final, lines, unended, fields, same, is_digit, all_digits, decimal, leading_zero, field_of}
use Rattle.text.specs.Write.{decimal_text, dash, fields_text, line_text, file_text}
use Rattle.text.proofs.Parts.{first_part}
use Rattle.text.proofs.Decimal.{decimal_one, decimal_more}
use Rattle.text.proofs.Written.{Clean, clean_none, clean_more, AllClean, all_none, all_more}
use Rattle.text.proofs.Written.{append-nil, fields_read, lines_read_on, decimal_last, number_read}

-- parts, each after a separator; rejoin: the first without one
after : ℕ → List (List ℕ) → List ℕ
after sep [] = []
after sep (p ∷ ps) = sep ∷ (p ++ after sep ps)

rejoin : ℕ → List (List ℕ) → List ℕ
rejoin sep [] = []
rejoin sep (p ∷ ps) = p ++ after sep ps

rejoin_behind : (sep b : ℕ) (ps : List (List ℕ)) → rejoin sep (behind b ps) ≡ b ∷ rejoin sep ps
unfolding rejoin after
rejoin_behind sep b [] = refl
rejoin_behind sep b (p ∷ ps) = refl

rejoin_after : (sep : ℕ) (ps : List (List ℕ)) {q : List ℕ} {qs : List (List ℕ)} → ps ≡ q ∷ qs → after sep ps ≡ sep ∷ rejoin sep ps
unfolding rejoin after
rejoin_after sep [] e = clash cc
rejoin_after sep (p ∷ ps) e = refl

parts_back : (sep : ℕ) (s : List ℕ) → rejoin sep (parts sep s) ≡ s
unfolding parts rejoin after
parts_back sep [] = refl
parts_back sep (b ∷ s) = elim (ℕ_discrete b sep) [
  | yes e ↦ ap (rejoin sep) (picked _ _ _ (eq-eqb b sep e)) ∙ rejoin_after sep (parts sep s) (first_part sep s) ∙ ap₂ ◌∷◌ (sym e) (parts_back sep s)
  | no d ↦ ap (rejoin sep) (passed _ _ _ (ne_eqb b sep d)) ∙ rejoin_behind sep b (parts sep s) ∙ ap (λ (y : List ℕ). b ∷ y) (parts_back sep s)
]

pub nothing : (u : List ℕ) → length u ≡ 0 → u ≡ []
nothing [] z = refl
nothing (b ∷ u) z = absurd (omega arith)

-- a line is its fields
after_fields : (fs : List (List ℕ)) → after 9 fs ≡ fields_text fs
unfolding after fields_text
after_fields [] = refl
after_fields (f ∷ fs) = ap (λ (r : List ℕ). 9 ∷ (f ++ r)) (after_fields fs)

line_back : (l name : List ℕ) (fs : List (List ℕ)) → fields l ≡ name ∷ fs → l ≡ line_text name fs
unfolding rejoin
line_back l name fs e = sym (parts_back 9 l) ∙ ap (rejoin 9) e ∙ ap (λ (r : List ℕ). name ++ r) (after_fields fs)

-- no part has a separator in it
parts_apart : (sep : ℕ) (s : List ℕ) → AllClean sep (parts sep s)
unfolding parts
parts_apart sep [] = all_more clean_none all_none
parts_apart sep (b ∷ s) = elim (ℕ_discrete b sep) [
  | yes e ↦ subst (AllClean sep) (sym (picked _ _ _ (eq-eqb b sep e))) (all_more clean_none (parts_apart sep s))
  | no d ↦ subst (AllClean sep) (sym (passed _ _ _ (ne_eqb b sep d))) (go d (parts sep s) (parts_apart sep s))
]
  where
    go : (b ≡ sep → ⊥) → (ps : List (List ℕ)) → AllClean sep ps → AllClean sep (behind b ps)
    go d [] A = all_more (clean_more d clean_none) all_none
    go d (p ∷ ps) (all_more C A) = all_more (clean_more d C) A

first_clean : {sep : ℕ} {p : List ℕ} {ps : List (List ℕ)} → AllClean sep (p ∷ ps) → Clean sep p × AllClean sep ps
first_clean (all_more C A) = (C, A)

-- "fields are parted by one tab"
pub fields_exactly : (l name : List ℕ) (fs : List (List ℕ)) → (fields l ≡ name ∷ fs) ↔ ((l ≡ line_text name fs) × Clean 9 name × AllClean 9 fs)
fields_exactly l name fs = (
  λ e. let c = first_clean (subst (AllClean 9) e (parts_apart 9 l)) in (line_back l name fs e, c.0, c.1),
  λ h. ap fields h.0 ∙ fields_read h.1 h.2,
)

-- a file is its lines, and what stands after the last LF
after_lines : (p : List ℕ) (ps : List (List ℕ)) → rejoin 10 (p ∷ ps) ≡ file_text (but_last (p ∷ ps)) ++ final (p ∷ ps)
unfolding after rejoin file_text but_last final
after_lines p [] = append-nil p
after_lines p (q ∷ ps) = ap (λ (r : List ℕ). p ++ (10 ∷ r)) (after_lines q ps) ∙ sym (append_assoc p (10 ∷ file_text (but_last (q ∷ ps))) (final (q ∷ ps)))

text_back : (s : List ℕ) → s ≡ file_text (lines s) ++ unended s
text_back s =
    sym (parts_back 10 s) ∙ ap (rejoin 10) (first_part 10 s) ∙ after_lines _ _
    ∙ ap (λ (ps : List (List ℕ)). file_text (but_last ps) ++ final ps) (sym (first_part 10 s))

pub file_back : (s : List ℕ) → unended s ≡ [] → s ≡ file_text (lines s)
file_back s e = text_back s ∙ ap (λ (r : List ℕ). file_text (lines s) ++ r) e ∙ append-nil (file_text (lines s))

last_apart : {sep : ℕ} (ps : List (List ℕ)) → AllClean sep ps → AllClean sep (but_last ps) × Clean sep (final ps)
unfolding but_last final
last_apart [] A = (all_none, clean_none)
last_apart (p ∷ []) (all_more C A) = (all_none, C)
last_apart (p ∷ (q ∷ ps)) (all_more C A) = let i = last_apart (q ∷ ps) A in (all_more C i.0, i.1)

-- "each line ends in LF": a text is its lines, each with its LF, and what stands after the last one
pub lines_exactly : (s : List ℕ) (ls : List (List ℕ)) (e : List ℕ)
    → ((lines s ≡ ls) × (unended s ≡ e)) ↔ ((s ≡ file_text ls ++ e) × AllClean 10 ls × Clean 10 e)
lines_exactly s ls e = (
  λ h.
      let c = last_apart (parts 10 s) (parts_apart 10 s) in
      let t = ap₂ (λ (xs : List (List ℕ)) (x : List ℕ). file_text xs ++ x) h.0 h.1 in
      (text_back s ∙ t, subst (AllClean 10) h.0 c.0, subst (Clean 10) h.1 c.1),
  λ h. let r = lines_read_on h.1 h.2 in (ap lines h.0 ∙ r.0, ap unended h.0 ∙ r.1),
)

-- equal bytes are equal
pub same_back : (a b : List ℕ) → same a b ≡ true → a ≡ b
unfolding same
same_back [] [] e = refl
same_back [] (y ∷ b) e = clash cc
same_back (x ∷ a) [] e = clash cc
same_back (x ∷ a) (y ∷ b) e = let h = both (eqb x y) (same a b) e in ap₂ (λ (i : ℕ) (r : List ℕ). i ∷ r) (eqb-true x y h.0) (same_back a b h.1)

-- the last digit, and those before it
record Ended (s : List ℕ) : Type 0 where
  front : List ℕ
  last : ℕ
  whole : front ++ (last ∷ []) ≡ s

ended : (b : ℕ) (s : List ℕ) → Ended (b ∷ s)
ended b [] = record { front = []; last = b; whole = refl }
ended b (c ∷ s) = let r = ended c s in record { front = b ∷ r.front; last = r.last; whole = ap (λ (x : List ℕ). b ∷ x) r.whole }

digits_split : (s : List ℕ) (d : ℕ) → all_digits (s ++ (d ∷ [])) ≡ true → (all_digits s ≡ true) × (is_digit d ≡ true)
unfolding all_digits
digits_split [] d e = (refl, (both (is_digit d) true e).0)
digits_split (b ∷ s) d e = let a = both (is_digit b) _ e in let i = digits_split s d a.1 in (ap₂ ◌&&◌ a.0 i.0, i.1)

digit_range : (d : ℕ) → is_digit d ≡ true → (48 ≤ d) × (d ≤ 57)
digit_range d e = let a = both (leb 48 d) (leb d 57) e in (leb-true _ _ a.0, leb-true _ _ a.1)

-- digits that do not begin with 0 are a number above 0
lead_positive : (b : ℕ) (s : List ℕ) → 48 < b → 0 < decimal (b ∷ s)
unfolding decimal
lead_positive b s h = let m : 0 < (b - 48) * 10 ^ length s = mul-pos (omega arith) (one-le-pow (length s) 10 (lit< tt)) in omega arith

-- digits are the text of their number: the last one, and by induction those before it
abbrev Plain : List ℕ → Type 0
Plain s = all_digits s ≡ true → 1 ≤ length s → (get_or s 0 0 ≡ 48 → length s ≡ 1) → decimal_text (decimal s) ≡ s

plain_last : (r : List ℕ) (d : ℕ) → Plain r → Plain (r ++ (d ∷ []))
unfolding all_digits decimal
plain_last [] d i e h z =
    let g = digit_range d (digits_split [] d e).1 in
    let n : decimal (d ∷ []) ≡ d - 48 = omega arith in
    ap decimal_text n ∙ decimal_one (d - 48) (omega arith) ∙ ap (λ (x : ℕ). x ∷ []) (omega arith)
plain_last (b ∷ r) d i e h z =
    let a = digits_split (b ∷ r) d e in
    let g = digit_range d a.1 in
    let f = digit_range b (both (is_digit b) (all_digits r) a.0).0 in
    let l = length-append r (d ∷ []) in
    let y : b ≡ 48 → ⊥ = λ q. omega (arith, z q) in
    let p = lead_positive b r (omega (arith, y)) in
    let n = decimal (b ∷ r) in
    let v : (n * 10 + (d - 48)) / 10 ≡ n = omega arith in
    let u : 48 + (n * 10 + (d - 48)) % 10 ≡ d = omega arith in
    ap decimal_text (decimal_last (b ∷ r) d) ∙ decimal_more (n * 10 + (d - 48)) (omega arith)
    ∙ ap₂ (λ (x : List ℕ) (c : ℕ). x ++ (c ∷ [])) (ap decimal_text v ∙ i a.0 (omega arith) (λ q. absurd (y q))) u

plain : (k : ℕ) (s : List ℕ) → length s ≤ k → Plain s
plain zero s m e h z = absurd (omega arith)
plain (suc k) [] m e h z = absurd (omega arith)
plain (suc k) (b ∷ s) m e h z =
    let r = ended b s in
    let l : length r.front ≤ k = omega (arith, m, ap length r.whole, length-append r.front (r.last ∷ [])) in
    subst Plain r.whole (plain_last r.front r.last (plain k r.front l)) e h z

-- k digits are below 10 to the k
decimal_below : (s : List ℕ) → all_digits s ≡ true → decimal s < 10 ^ length s
unfolding all_digits decimal
decimal_below [] e = lit< tt
decimal_below (b ∷ s) e =
    let a = both (is_digit b) (all_digits s) e in
    let g = digit_range b a.0 in
    let m : (b - 48) * 10 ^ length s ≤ 9 * 10 ^ length s = mul-le-mul_right (10 ^ length s) (omega arith) in
    rw pow-suc (omega (arith, decimal_below s a.1))

-- a field that says a number is that number's text
leads : (s : List ℕ) → leading_zero s ≡ false → get_or s 0 0 ≡ 48 → length s ≡ 1
leads s e z = go (eqb (length s) 1) refl
  where
    go : (c : Bool) → eqb (length s) 1 ≡ c → length s ≡ 1
    go true f = eqb-true _ _ f
    go false f = let x = sym (ap₂ (λ (i j : Bool). i && not j) (eq-eqb (get_or s 0 0) 48 z) f) ∙ e in clash cc

-- what a field says, by its tests
data Says (s : List ℕ) : Field → Type 0 where
  says_dash : s ≡ dash → Says s Dash
  says_number : s ≡ decimal_text (decimal s) → decimal s < 10000000000 → Says s (Number (decimal s))
  says_none : Says s Malformed

says : (s : List ℕ) → Says s (field_of s)
unfolding field_of
says s = go (same s dash) (ltb (length s) 1) (ltb 10 (length s)) (leading_zero s) (all_digits s) refl refl refl refl refl
  where
    go : (a b c d e : Bool) → same s dash ≡ a → ltb (length s) 1 ≡ b → ltb 10 (length s) ≡ c → leading_zero s ≡ d → all_digits s ≡ e
        → Says s (pick a Dash (pick b Malformed (pick c Malformed (pick d Malformed (pick e (Number (decimal s)) Malformed)))))
    go true b c d e f g h i j = says_dash (same_back s dash f)
    go false true c d e f g h i j = says_none
    go false false true d e f g h i j = says_none
    go false false false true e f g h i j = says_none
    go false false false false false f g h i j = says_none
    go false false false false true f g h i j =
        says_number (sym (plain (length s) s (omega arith) j (ltb-false _ _ g) (leads s i)))
        (omega (arith, decimal_below s j, pow-le-pow_right {n = 10} (lit< tt) (ltb-false 10 (length s) h)))

-- "Numbers are decimal, 1 to 10 digits, no sign, no leading zero except 0 itself"
pub number_exactly : (s : List ℕ) (x : ℕ) → (field_of s ≡ Number x) ↔ ((s ≡ decimal_text x) × (x < 10000000000))
number_exactly s x = (λ e. go (field_of s) (says s) e, λ h. ap field_of h.0 ∙ number_read x h.1)
  where
    go : (f : Field) → Says s f → f ≡ Number x → (s ≡ decimal_text x) × (x < 10000000000)
    go Dash (says_dash q) e = clash cc
    go Malformed says_none e = clash cc
    go (Number y) (says_number q l) e = let r : decimal s ≡ x = cc in (q ∙ ap decimal_text r, omega arith)

pub dash_exactly : (s : List ℕ) → (field_of s ≡ Dash) ↔ (s ≡ dash)
unfolding field_of same
dash_exactly s = (λ e. go (field_of s) (says s) e, λ h. ap field_of h)
  where
    go : (f : Field) → Says s f → f ≡ Dash → s ≡ dash
    go Dash (says_dash q) e = q
    go Malformed says_none e = clash cc
    go (Number y) (says_number q l) e = clash cc
