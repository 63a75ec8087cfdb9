-- A line as it is written is read as its record and its fields. By the laws of written names, numbers and fields.
use Prim.Native.Nat.{ℕ, zero, suc, ◌+◌, ◌≤◌, ◌<◌}
use mathlib.Core.Bool.{Bool, true, false}
use mathlib.Core.List.{List, [], ◌∷◌, map}
use mathlib.Core.Path.{◌≡◌, refl, sym, ◌∙◌, ap, ap₂, subst}
use native.Mathlib.Omega.{arith}
use lib.Dec.{ltb, lit<}
use lib.ListN.{length, get_or}
use borrow.Author.Tests.{lt-ltb, ltb-true}
use Rattle.folds.specs.Fold.{all}
use Rattle.folds.proofs.Folds.{all_at, clash}
use Rattle.text.specs.declared.Field.{Field}
use Rattle.text.specs.declared.Field.TheVariants.{Malformed, Dash, Number}
use Rattle.text.specs.Text.{same, field_of}
use Rattle.text.specs.Write.{field_text, dash, numbers, line_text}
use Rattle.text.proofs.Written.{Clean, clean_none, clean_more, AllClean, all_none, all_more, fields_read, number_read, number_clean}
use Rattle.text.proofs.Back.{dash_exactly}
use Rattle.lines.specs.declared.Kind.{Kind}
use Rattle.lines.specs.declared.Kind.TheVariants.{NoRecord, BusLine, IntLine, AccLine, OfferLine, Bus3Line}
use Rattle.lines.specs.Lines.{form_of, name_of, kind_of, line_with, line_from, line_of, limits_kept}
use Rattle.lines.specs.LineText.{may_stand}
use Rattle.lines.proofs.Limits.{most}

pub name_read : (k : Kind) → kind_of (name_of k) ≡ k
unfolding kind_of same
name_read NoRecord = refl
name_read BusLine = refl
name_read IntLine = refl
name_read AccLine = refl
name_read OfferLine = refl
name_read Bus3Line = refl

-- no letter is a separator
clean3 : {sep : ℕ} (a b c : ℕ) → sep < 48 → 48 < a → 48 < b → 48 < c → Clean sep (a ∷ b ∷ c ∷ [])
clean3 a b c h x y z =
    clean_more {b = a} (λ e. omega arith) (clean_more {b = b} (λ e. omega arith) (clean_more {b = c} (λ e. omega arith) clean_none))

pub name_clean : (sep : ℕ) → sep < 48 → (k : Kind) → Clean sep (name_of k)
name_clean sep h NoRecord = clean_none
name_clean sep h BusLine = clean3 98 117 115 h (lit< tt) (lit< tt) (lit< tt)
name_clean sep h IntLine = clean3 105 110 116 h (lit< tt) (lit< tt) (lit< tt)
name_clean sep h AccLine = clean3 97 99 99 h (lit< tt) (lit< tt) (lit< tt)
name_clean sep h OfferLine = clean_more {b = 111} (λ e. omega arith) clean_none
name_clean sep h Bus3Line =
    clean_more {b = 98} (λ e. omega arith) (clean3 117 115 51 h (lit< tt) (lit< tt) (lit< tt))

pub field_clean : (sep : ℕ) → sep < 45 → (f : Field) → Clean sep (field_text f)
field_clean sep h Malformed = clean_none
field_clean sep h Dash = clean_more {b = 45} (λ e. omega arith) clean_none
field_clean sep h (Number x) = number_clean sep (omega arith) x

pub texts_clean : (sep : ℕ) → sep < 45 → (fs : List Field) → AllClean sep (map field_text fs)
texts_clean sep h [] = all_none
texts_clean sep h (f ∷ fs) = all_more (field_clean sep h f) (texts_clean sep h fs)

-- each field may stand where it stands
abbrev pub Plain : (ℕ → Bool) → List Field → Type 0
Plain d fs = (i : ℕ) → i < length fs → may_stand (d i) (get_or fs i Malformed) ≡ true

pub plain_first : (d : ℕ → Bool) (f : Field) (fs : List Field) → Plain d (f ∷ fs) → (may_stand (d 0) f ≡ true) × Plain (λ i. d (suc i)) fs
plain_first d f fs P = (P 0 (omega arith), λ i h. P (suc i) (omega arith))

field_read : (d : Bool) (f : Field) → may_stand d f ≡ true → field_of (field_text f) ≡ f
field_read d Malformed e = clash cc
field_read d Dash e = (dash_exactly dash).1 refl
field_read d (Number x) e = number_read x (ltb-true _ _ e)

fields_said : (d : ℕ → Bool) (fs : List Field) → Plain d fs → map field_of (map field_text fs) ≡ fs
fields_said d [] P = refl
fields_said d (f ∷ fs) P =
    let p = plain_first d f fs P in
    ap₂ (λ (x : Field) (xs : List Field). x ∷ xs) (field_read (d 0) f p.0) (fields_said (λ i. d (suc i)) fs p.1)

pub line_read : (k : Kind) (d : ℕ → Bool) (fs : List Field) → Plain d fs → line_of (line_text (name_of k) (map field_text fs)) ≡ line_with k fs
unfolding line_of
line_read k d fs P =
    ap line_from (fields_read (name_clean 9 (lit< tt) k) (texts_clean 9 (lit< tt) fs)) ∙ ap₂ line_with (name_read k) (fields_said d fs P)

-- numbers of at most ten digits
pub data Below : List ℕ → Type 0 where
  below_none : Below []
  below_more : {x : ℕ} {xs : List ℕ} → x < 10000000000 → Below xs → Below (x ∷ xs)

-- no limit of a field has more than ten digits, so neither have the fields of a line that keeps its limits
high_below : (k : Kind) (i : ℕ) → i < (form_of k).count → get_or (form_of k).highs i 0 < 10000000000
unfolding all
high_below k i h = ltb-true _ _ (all_at (form_of k).count (λ j. ltb (get_or (form_of k).highs j 0) 10000000000) (highs k) i h)
  where
    highs : (k : Kind) → all (form_of k).count (λ j. ltb (get_or (form_of k).highs j 0) 10000000000) ≡ true
    highs NoRecord = refl
    highs BusLine = refl
    highs IntLine = refl
    highs AccLine = refl
    highs OfferLine = refl
    highs Bus3Line = refl

-- the n numbers of v from number i on
unfoldable pub fields_from : ℕ → ℕ → List ℕ → List ℕ
fields_from zero i v = []
fields_from (suc n) i v = get_or v i 0 ∷ fields_from n (suc i) v

pub limits_below : (k : Kind) (v : List ℕ) → limits_kept k v ≡ true → Below (fields_from (form_of k).count 0 v)
unfolding fields_from
limits_below k v e = go (form_of k).count 0 (omega arith)
  where
    go : (n i : ℕ) → i + n ≤ (form_of k).count → Below (fields_from n i v)
    go zero i h = below_none
    go (suc n) i h = below_more {x = get_or v i 0} (omega (arith, most k v e i (omega arith), high_below k i (omega arith))) (go n (suc i) (omega arith))

below_plain : {xs : List ℕ} → Below xs → Plain (λ i. false) (map Number xs)
below_plain below_none i h = absurd (omega arith)
below_plain (below_more {x = x} l B) zero h = lt-ltb x 10000000000 l
below_plain (below_more {x = x} l B) (suc i) h = below_plain B i (omega arith)

numbers_fields : (xs : List ℕ) → numbers xs ≡ map field_text (map Number xs)
unfolding numbers
numbers_fields [] = refl
numbers_fields (x ∷ xs) = ap (λ (fs : List (List ℕ)). field_text (Number x) ∷ fs) (numbers_fields xs)

pub numbers_clean : (sep : ℕ) → sep < 45 → (xs : List ℕ) → AllClean sep (numbers xs)
numbers_clean sep h xs = subst (AllClean sep) (sym (numbers_fields xs)) (texts_clean sep h (map Number xs))

-- a line of numbers
pub numbers_read : (k : Kind) {xs : List ℕ} → Below xs → line_of (line_text (name_of k) (numbers xs)) ≡ line_with k (map Number xs)
numbers_read k {xs} B =
    ap (λ (fs : List (List ℕ)). line_of (line_text (name_of k) fs)) (numbers_fields xs) ∙ line_read k (λ i. false) (map Number xs) (below_plain B)
