-- The code's way through a line of a trace, field by field in the file, gives what test 1 says of the line. A field that a tab or
-- the LF ends is the first of the line's fields from there on; a line with another name, another count of fields or a field that is
-- no number fails the test. By the laws of fields at a place, and by cases.
use Rattle.std.specs.Prelude.{Some, None}
use Prim.Native.Nat.{ℕ, suc, ◌+◌, ◌-◌, ◌≤◌, ◌<◌}
use mathlib.Core.Bool.{Bool, true, false, ◌&&◌}
use mathlib.Core.List.{List, [], ◌∷◌, map}
use mathlib.Core.Path.{◌≡◌, refl, sym, ◌∙◌, ap, subst}
use native.Mathlib.Decide.{dec_lt, ℕ_discrete}
use native.Mathlib.Omega.{arith}
use lib.ListN.{length, get_or, take, drop}
use borrow.Author.Tests.{le-leb, lt-leb, eq-eqb, ne_eqb}
use Rattle.text.specs.declared.Field.{Field}
use Rattle.text.specs.declared.Field.TheVariants.{Malformed, Dash, Number}
use Rattle.text.specs.Text.{part_length, field_length, fields, line_at, same, field_of}
use Rattle.text.proofs.Parts.{first_part}
use Rattle.text.proofs.Back.{same_back}
use Rattle.text.proofs.Fields.{field_unended, field_then, field_last}
use Rattle.folds.specs.Fold.{all}
use Rattle.folds.proofs.Folds.{picked, passed, both, clash}
use Rattle.lines.specs.declared.Kind.{Kind}
use Rattle.lines.specs.declared.Kind.TheVariants.{NoRecord, BusLine, IntLine, AccLine, OfferLine, Bus3Line}
use Rattle.lines.specs.declared.Line.{Line}
use Rattle.lines.specs.Lines.{name_of, kind_of, named, push, pushed, line_with, line_from, line_of, value_at, shaped, limits_kept, in_trace}
use Rattle.lines.proofs.Back.{pushed_kind, pushed_count, shape_count, name_exactly}
use Rattle.trace.specs.declared.OfferText.{OfferText}
use Rattle.trace.specs.OfferText.{number_in, number_at, shaped_text, text_of, offer_text, offer_of}

-- the answer of `number_at` at each return
module _ (s : List ℕ) (at sep e : ℕ) (q : e ≡ at + field_length (drop at s)) where
  pub number_past : length s ≤ e → number_at s at sep ≡ None
  unfolding number_at
  number_past h = picked _ _ _ (le-leb (length s) (at + field_length (drop at s)) (omega arith))

  module _ (h : e < length s) where
    pub number_other : (get_or s e 0 ≡ sep → ⊥) → number_at s at sep ≡ None
    unfolding number_at
    number_other d =
        passed _ _ _ (lt-leb (length s) (at + field_length (drop at s)) (omega arith)) ∙ passed _ _ _ (ne_eqb _ _ (λ g. d (ap (λ i. get_or s i 0) q ∙ g)))

    pub number_here : get_or s e 0 ≡ sep → number_at s at sep ≡ number_in (field_of (take (e - at) (drop at s))) (e + 1)
    unfolding number_at
    number_here g =
        let m : field_length (drop at s) ≡ e - at = omega arith in
        passed _ _ _ (lt-leb (length s) (at + field_length (drop at s)) (omega arith))
        ∙ picked _ _ _ (eq-eqb _ _ (ap (λ i. get_or s i 0) (sym q) ∙ g))
        ∙ ap (λ k. number_in (field_of (take k (drop at s))) (at + k + 1)) m
        ∙ ap (λ i. number_in (field_of (take (e - at) (drop at s))) (i + 1)) (let z : at + (e - at) ≡ e = omega arith in z)

    -- as the code holds it: the field that it has read is k
    pub number_field : get_or s e 0 ≡ sep → (f k : Field) → f ≡ field_of (take (e - at) (drop at s)) → f ≡ k → number_in k (e + 1) ≡ number_at s at sep
    number_field g f k r t = ap (λ x. number_in x (e + 1)) (sym t ∙ r) ∙ sym (number_here g)

pub same_some : {A : Type 0} {p q : A} → Some p ≡ Some q → p ≡ q
same_some e = cc

number_in_lem : (f : Field) (n x next : ℕ) → number_in f n ≡ Some (x, next) → (f ≡ Number x) × (n ≡ next)
number_in_lem Malformed n x next e = clash cc
number_in_lem Dash n x next e = clash cc
number_in_lem (Number y) n x next e = let q = same_some e in (ap (λ (k : ℕ × ℕ). Number k.0) q, ap (λ (k : ℕ × ℕ). k.1) q)

not_number_lem : (f : Field) (n x : ℕ) → number_in f n ≡ None → f ≡ Number x → ⊥
not_number_lem f n x e g = let h = sym (ap (λ k. number_in k n) g) ∙ e in clash cc

none_to : {p : ℕ × ℕ} → None ≡ Some p → ⊥
none_to e = clash cc

-- the first part of two equal rows, and rows that are not equal
heads : {p q : List ℕ} {ps qs : List (List ℕ)} → p ∷ ps ≡ q ∷ qs → p ≡ q
heads e = cc

tails : {p q : List ℕ} {ps qs : List (List ℕ)} → p ∷ ps ≡ q ∷ qs → ps ≡ qs
tails e = cc

one_two : {p q r : List ℕ} {qs : List (List ℕ)} → p ∷ [] ≡ q ∷ (r ∷ qs) → ⊥
one_two e = clash cc

one_none : {p : List ℕ} {ps : List (List ℕ)} → p ∷ ps ≡ [] → ⊥
one_none e = clash cc

-- a line has always a first part
more_one : {p q : List ℕ} (s : List ℕ) → p ∷ fields s ≡ q ∷ [] → ⊥
more_one s e = one_none (sym (first_part 9 s) ∙ tails e)

-- where the line at a place ends
abbrev pub end_at : List ℕ → ℕ → ℕ
end_at s at = at + part_length 10 (drop at s)

-- a number that a tab ends, and what is left of the line
pub record Then (s : List ℕ) (at x next : ℕ) : Type 0 where
  pub field : List ℕ
  pub parts : fields (line_at s at) ≡ field ∷ fields (line_at s next)
  pub number : field_of field ≡ Number x
  pub ends : end_at s at ≡ end_at s next

-- a number that the LF ends
pub record Last (s : List ℕ) (at x next : ℕ) : Type 0 where
  pub field : List ℕ
  pub parts : fields (line_at s at) ≡ field ∷ []
  pub number : field_of field ≡ Number x
  pub ends : end_at s at + 1 ≡ next
  pub within : end_at s at < length s

module _ (s : List ℕ) (at : ℕ) where
  abbrev e : ℕ
  e = at + field_length (drop at s)

  abbrev field : List ℕ
  field = take (e - at) (drop at s)

  pub number_then : (x next : ℕ) → number_at s at 9 ≡ Some (x, next) → Then s at x next
  number_then x next r = elim (dec_lt e (length s)) [
    | no h ↦ absurd (none_to (sym (number_past s at 9 e refl (omega arith)) ∙ r))
    | yes h ↦ elim (ℕ_discrete (get_or s e 0) 9) [
      | no d ↦ absurd (none_to (sym (number_other s at 9 e refl h d) ∙ r))
      | yes g ↦
          let n = number_in_lem (field_of field) (e + 1) x next (sym (number_here s at 9 e refl h g) ∙ r) in
          let p = field_then s at e refl h g in
          record {
            field = field;
            parts = p.0 ∙ ap (λ k. field ∷ fields (line_at s k)) n.1;
            number = n.0;
            ends = p.1 ∙ ap (end_at s) n.1;
          }
    ]
  ]

  pub number_last : (x next : ℕ) → number_at s at 10 ≡ Some (x, next) → Last s at x next
  number_last x next r = elim (dec_lt e (length s)) [
    | no h ↦ absurd (none_to (sym (number_past s at 10 e refl (omega arith)) ∙ r))
    | yes h ↦ elim (ℕ_discrete (get_or s e 0) 10) [
      | no d ↦ absurd (none_to (sym (number_other s at 10 e refl h d) ∙ r))
      | yes g ↦
          let n = number_in_lem (field_of field) (e + 1) x next (sym (number_here s at 10 e refl h g) ∙ r) in
          let p = field_last s at e refl h (λ f. omega arith) in
          record {
            field = field;
            parts = p.0;
            number = n.0;
            ends = omega (arith, p.1, n.1);
            within = omega (arith, p.1);
          }
    ]
  ]

  -- where no number is followed by a tab, the line has no LF, or its next field is its last or no number
  pub no_number_then : number_at s at 9 ≡ None → end_at s at < length s → (f g : List ℕ) (fs : List (List ℕ)) (x : ℕ)
      → fields (line_at s at) ≡ f ∷ (g ∷ fs) → field_of f ≡ Number x → ⊥
  no_number_then r w f g fs x p n = elim (dec_lt e (length s)) [
    | no h ↦ omega (arith, field_unended s at e refl (omega arith))
    | yes h ↦ elim (ℕ_discrete (get_or s e 0) 9) [
      | no d ↦ one_two (sym (field_last s at e refl h d).0 ∙ p)
      | yes t ↦ not_number_lem (field_of field) (e + 1) x (sym (number_here s at 9 e refl h t) ∙ r)
          (ap field_of (heads (sym (field_then s at e refl h t).0 ∙ p)) ∙ n)
    ]
  ]

  -- where no number is followed by an LF, the line has no LF, or its next field is not its last or no number
  pub no_number_last : number_at s at 10 ≡ None → end_at s at < length s → (f : List ℕ) (x : ℕ) → fields (line_at s at) ≡ f ∷ [] → field_of f ≡ Number x → ⊥
  no_number_last r w f x p n = elim (dec_lt e (length s)) [
    | no h ↦ omega (arith, field_unended s at e refl (omega arith))
    | yes h ↦ elim (ℕ_discrete (get_or s e 0) 9) [
      | yes t ↦ more_one (line_at s (e + 1)) (sym (field_then s at e refl h t).0 ∙ p)
      | no d ↦
          let l = field_last s at e refl h d in
          not_number_lem (field_of field) (e + 1) x (sym (number_here s at 10 e refl h l.2) ∙ r) (ap field_of (heads (sym l.0 ∙ p)) ∙ n)
    ]
  ]

not_true_false : (b : Bool) → (b ≡ true → ⊥) → b ≡ false
not_true_false true d = absurd (d refl)
not_true_false false d = refl

-- what test 1 says of a line's parts
pub in_trace_says : (k : Kind) → in_trace k ≡ true → k ≡ OfferLine
in_trace_says NoRecord e = clash cc
in_trace_says BusLine e = clash cc
in_trace_says IntLine e = clash cc
in_trace_says AccLine e = clash cc
in_trace_says OfferLine e = refl
in_trace_says Bus3Line e = clash cc

name_says : (name : List ℕ) → kind_of name ≡ OfferLine → same name (name_of OfferLine) ≡ true
unfolding same
name_says name e = ap (λ (x : List ℕ). same x (name_of OfferLine)) ((name_exactly name OfferLine refl).0 e)

pub name_kind : (name : List ℕ) → same name (name_of OfferLine) ≡ true → kind_of name ≡ OfferLine
name_kind name e = (name_exactly name OfferLine refl).1 (same_back name (name_of OfferLine) e)

is_number : Field → Bool
is_number Malformed = false
is_number Dash = false
is_number (Number x) = true

number_is : (f : Field) → is_number f ≡ true → (x : ℕ) × (f ≡ Number x)
unfolding is_number
number_is Malformed e = clash cc
number_is Dash e = clash cc
number_is (Number x) e = (x, refl)

-- test 1 of three fields
three_fields : (f g h : Field) → shaped (push (push (push (named OfferLine) f) g) h) ≡ is_number f && is_number g && is_number h
unfolding shaped is_number all
three_fields Malformed Malformed Malformed = refl
three_fields Malformed Malformed Dash = refl
three_fields Malformed Malformed (Number z) = refl
three_fields Malformed Dash Malformed = refl
three_fields Malformed Dash Dash = refl
three_fields Malformed Dash (Number z) = refl
three_fields Malformed (Number y) Malformed = refl
three_fields Malformed (Number y) Dash = refl
three_fields Malformed (Number y) (Number z) = refl
three_fields Dash Malformed Malformed = refl
three_fields Dash Malformed Dash = refl
three_fields Dash Malformed (Number z) = refl
three_fields Dash Dash Malformed = refl
three_fields Dash Dash Dash = refl
three_fields Dash Dash (Number z) = refl
three_fields Dash (Number y) Malformed = refl
three_fields Dash (Number y) Dash = refl
three_fields Dash (Number y) (Number z) = refl
three_fields (Number x) Malformed Malformed = refl
three_fields (Number x) Malformed Dash = refl
three_fields (Number x) Malformed (Number z) = refl
three_fields (Number x) Dash Malformed = refl
three_fields (Number x) Dash Dash = refl
three_fields (Number x) Dash (Number z) = refl
three_fields (Number x) (Number y) Malformed = refl
three_fields (Number x) (Number y) Dash = refl
three_fields (Number x) (Number y) (Number z) = refl

-- the parts of an o line: its name and three numbers
pub record OfferFields (name : List ℕ) (fs : List (List ℕ)) : Type 0 where
  pub named : same name (111 ∷ []) ≡ true
  pub first : List ℕ
  pub second : List ℕ
  pub third : List ℕ
  pub parts : fs ≡ first ∷ (second ∷ (third ∷ []))
  pub slot : (x : ℕ) × (field_of first ≡ Number x)
  pub accelerator : (x : ℕ) × (field_of second ≡ Number x)
  pub count : (x : ℕ) × (field_of third ≡ Number x)

abbrev pub is_offer_line : Line → Bool
is_offer_line l = in_trace l.kind && shaped l

three_parts : (name : List ℕ) (fs : List (List ℕ)) → length fs ≡ 3 → shaped (line_with OfferLine (map field_of fs)) ≡ true
    → same name (111 ∷ []) ≡ true → OfferFields name fs
unfolding pushed
three_parts name [] l e n = absurd (omega arith)
three_parts name (f ∷ []) l e n = absurd (omega arith)
three_parts name (f ∷ (g ∷ [])) l e n = absurd (omega arith)
three_parts name (f ∷ (g ∷ (h ∷ (i ∷ fs)))) l e n = absurd (omega arith)
three_parts name (f ∷ (g ∷ (h ∷ []))) l e n =
    let t = both (is_number (field_of f) && is_number (field_of g)) _ (sym (three_fields (field_of f) (field_of g) (field_of h)) ∙ e) in
    let u = both (is_number (field_of f)) _ t.0 in
    record {
      named = n;
      first = f;
      second = g;
      third = h;
      parts = refl;
      slot = number_is _ u.0;
      accelerator = number_is _ u.1;
      count = number_is _ t.1;
    }

mapped : {A B : Type 0} (f : A → B) (xs : List A) → length (map f xs) ≡ length xs
mapped f [] = refl
mapped f (x ∷ xs) = ap suc (mapped f xs)

pub offer_fields : (name : List ℕ) (fs : List (List ℕ)) → is_offer_line (line_with (kind_of name) (map field_of fs)) ≡ true → OfferFields name fs
offer_fields name fs e =
    let l = line_with (kind_of name) (map field_of fs) in
    let b = both (in_trace l.kind) (shaped l) e in
    let k = in_trace_says l.kind b.0 in
    let n = sym (pushed_kind (named (kind_of name)) (map field_of fs)) ∙ k in
    let c = shape_count l OfferLine k b.1 in
    three_parts name fs (omega (arith, c, pushed_count (named (kind_of name)) (map field_of fs), mapped field_of fs))
    (subst (λ (x : Kind). shaped (line_with x (map field_of fs)) ≡ true) n b.1) (name_says name n)

-- three numbers after the name are an o line
pub offer_line_lem : (f g h : List ℕ) (x y z : ℕ) → field_of f ≡ Number x → field_of g ≡ Number y → field_of h ≡ Number z
    → line_with OfferLine (map field_of (f ∷ (g ∷ (h ∷ [])))) ≡ offer_of x y z
unfolding pushed
offer_line_lem f g h x y z p q r =
    ap (λ (k : Field). push (push (push (named OfferLine) k) (field_of g)) (field_of h)) p
    ∙ ap (λ (k : Field). push (push (push (named OfferLine) (Number x)) k) (field_of h)) q
    ∙ ap (λ (k : Field). push (push (push (named OfferLine) (Number x)) (Number y)) k) r

-- the answer of `offer_at` at each return
module _ (s : List ℕ) (at : ℕ) where
  pub text_none : (end_at s at < length s → is_offer_line (line_of (line_at s at)) ≡ true → ⊥) → offer_text s at ≡ None
  unfolding offer_text
  text_none d = elim (dec_lt (end_at s at) (length s)) [
    | no h ↦ picked _ _ _ (le-leb (length s) (end_at s at) (omega arith))
    | yes h ↦ passed _ _ _ (lt-leb (length s) (end_at s at) h) ∙ passed _ _ _ (not_true_false _ (d h))
  ]

  pub text_offer : (x y z : ℕ) → end_at s at < length s → line_of (line_at s at) ≡ offer_of x y z → offer_text s at ≡ Some (text_of x y z (end_at s at + 1))
  unfolding offer_text shaped all
  text_offer x y z h e = passed _ _ _ (lt-leb (length s) (end_at s at) h) ∙ ap (λ (l : Line). shaped_text l (end_at s at + 1)) e

  -- the line's name and what follows it, where its parts are known
  pub line_parts : (name : List ℕ) (fs : List (List ℕ)) → fields (line_at s at) ≡ name ∷ fs → line_of (line_at s at) ≡ line_with (kind_of name) (map field_of fs)
  unfolding line_of
  line_parts name fs p = ap line_from p

  pub parts_none : (name : List ℕ) (fs : List (List ℕ)) → fields (line_at s at) ≡ name ∷ fs → (end_at s at < length s → OfferFields name fs → ⊥)
      → offer_text s at ≡ None
  parts_none name fs p d = text_none (λ h e. d h (offer_fields name fs (sym (ap is_offer_line (line_parts name fs p)) ∙ e)))

false_true : {b : Bool} → b ≡ false → b ≡ true → ⊥
false_true e f = clash cc

-- a line whose first part ends at e
module _ (s : List ℕ) (at e : ℕ) (q : e ≡ at + field_length (drop at s)) where
  abbrev name : List ℕ
  name = take (e - at) (drop at s)

  pub offer_past : length s ≤ e → offer_text s at ≡ None
  offer_past l = text_none s at (λ w o. omega (arith, field_unended s at e q l))

  module _ (h : e < length s) where
    pub offer_short : (get_or s e 0 ≡ 9 → ⊥) → offer_text s at ≡ None
    offer_short d = parts_none s at name [] (field_last s at e q h d).0 (λ w o. one_none (sym o.parts))

    module _ (g : get_or s e 0 ≡ 9) where
      rest : fields (line_at s at) ≡ name ∷ fields (line_at s (e + 1))
      rest = (field_then s at e q h g).0

      ends : end_at s at ≡ end_at s (e + 1)
      ends = (field_then s at e q h g).1

      pub offer_other : same name (111 ∷ []) ≡ false → offer_text s at ≡ None
      offer_other d = parts_none s at name _ rest (λ w o. false_true d o.named)

      module _ (n : same name (111 ∷ []) ≡ true) where
        pub offer_no_slot : number_at s (e + 1) 9 ≡ None → offer_text s at ≡ None
        offer_no_slot r =
            parts_none s at name _ rest (λ w o. no_number_then s (e + 1) r (omega (arith, ends)) o.first o.second _ _ o.parts o.slot.1)

        module _ (x b : ℕ) (r1 : number_at s (e + 1) 9 ≡ Some (x, b)) where
          abbrev T1 : Then s (e + 1) x b
          T1 = number_then s (e + 1) x b r1

          pub offer_no_accelerator : number_at s b 9 ≡ None → offer_text s at ≡ None
          offer_no_accelerator r =
              parts_none s at name _ (rest ∙ ap (λ fs. name ∷ fs) T1.parts)
              (λ w o. no_number_then s b r (omega (arith, ends, T1.ends)) o.second o.third _ _ (tails o.parts) o.accelerator.1)

          module _ (y d : ℕ) (r2 : number_at s b 9 ≡ Some (y, d)) where
            abbrev T2 : Then s b y d
            T2 = number_then s b y d r2

            abbrev parts2 : fields (line_at s at) ≡ name ∷ (T1.field ∷ (T2.field ∷ fields (line_at s d)))
            parts2 = rest ∙ ap (λ fs. name ∷ fs) (T1.parts ∙ ap (λ fs. T1.field ∷ fs) T2.parts)

            pub offer_no_count : number_at s d 10 ≡ None → offer_text s at ≡ None
            offer_no_count r =
                parts_none s at name _ parts2
                (λ w o. no_number_last s d r (omega (arith, ends, T1.ends, T2.ends)) o.third _ (tails (tails o.parts)) o.count.1)

            pub offer_read : (z next : ℕ) → number_at s d 10 ≡ Some (z, next) → offer_text s at ≡ Some (text_of x y z next)
            offer_read z next r =
                let T3 = number_last s d z next r in
                let p = parts2 ∙ ap (λ fs. name ∷ (T1.field ∷ (T2.field ∷ fs))) T3.parts in
                let l =
                line_parts s at name _ p
                ∙ ap (λ (k : Kind). line_with k (map field_of (T1.field ∷ (T2.field ∷ (T3.field ∷ []))))) (name_kind name n)
                ∙ offer_line_lem _ _ _ x y z T1.number T2.number T3.number in
                let m : end_at s at + 1 ≡ next = omega (arith, ends, T1.ends, T2.ends, T3.ends) in
                text_offer s at x y z (omega (arith, ends, T1.ends, T2.ends, T3.within)) l ∙ ap (λ k. Some (text_of x y z k)) m

-- what the answer of `offer_at` says: the line's numbers, and that it is an o line with its LF
pub record Read (s : List ℕ) (at x y z next : ℕ) : Type 0 where
  pub within : end_at s at < length s
  pub place : next ≡ end_at s at + 1
  pub offer : is_offer_line (line_of (line_at s at)) ≡ true
  pub slot : value_at (line_of (line_at s at)) 0 ≡ x
  pub accelerator : value_at (line_of (line_at s at)) 1 ≡ y
  pub count : value_at (line_of (line_at s at)) 2 ≡ z

module _ (s : List ℕ) (at : ℕ) where
  text_within : end_at s at < length s → offer_text s at ≡ shaped_text (line_of (line_at s at)) (end_at s at + 1)
  unfolding offer_text
  text_within h = passed _ _ _ (lt-leb (length s) (end_at s at) h)

  pub text_not : offer_text s at ≡ None → end_at s at < length s → is_offer_line (line_of (line_at s at)) ≡ false
  text_not r h = go (is_offer_line (line_of (line_at s at))) refl
    where
      go : (b : Bool) → is_offer_line (line_of (line_at s at)) ≡ b → b ≡ false
      go false e = refl
      go true e = let q = sym (picked _ _ _ e) ∙ sym (text_within h) ∙ r in clash cc

  pub text_read : (o : OfferText) → offer_text s at ≡ Some o → Read s at o.slot o.accelerator o.count o.next
  text_read o r = elim (dec_lt (end_at s at) (length s)) [
    | no h ↦ let q = sym (text_none s at (λ w _. absurd (h w))) ∙ r in clash cc
    | yes h ↦ go h (is_offer_line (line_of (line_at s at))) refl
  ]
    where
      go : end_at s at < length s → (b : Bool) → is_offer_line (line_of (line_at s at)) ≡ b → Read s at o.slot o.accelerator o.count o.next
      go h false e = let q = sym (passed _ _ _ e) ∙ sym (text_within h) ∙ r in clash cc
      go h true e =
          let q = sym (picked _ _ _ e) ∙ sym (text_within h) ∙ r in
          record { within = h; place = cc; offer = e; slot = cc; accelerator = cc; count = cc }

-- an o line of three numbers passes test 1
pub offer_shaped : (x y z : ℕ) → is_offer_line (offer_of x y z) ≡ true
unfolding shaped all
offer_shaped x y z = refl

-- the limits of an o line are those of its three numbers
pub offer_limits_same : (l : Line) → limits_kept OfferLine l.values ≡ limits_kept OfferLine (offer_of (value_at l 0) (value_at l 1) (value_at l 2)).values
unfolding all
offer_limits_same l = refl
