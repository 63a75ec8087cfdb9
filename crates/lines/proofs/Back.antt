-- The other way of Written: a line that passes test 1 is its record's name and its fields as they are written. By induction on the
-- fields read.
use Prim.Native.Nat.{ℕ, zero, suc, ◌+◌, ◌≤◌, ◌<◌}
use mathlib.Core.Bool.{Bool, true, false, ◌&&◌, ◌||◌, not, or-true}
use mathlib.Core.List.{List, [], ◌∷◌, map}
use mathlib.Core.Logic.{◌↔◌}
use mathlib.Core.Path.{◌≡◌, refl, sym, ◌∙◌, ap, ap₂, subst}
use native.Mathlib.Decide.{dec_lt}
use native.Mathlib.Numerals.{add-one}
use native.Mathlib.Omega.{arith}
use lib.Dec.{leb}
use lib.ListN.{length, get_or, replicate, length-set}
use lib.Seq.{get_or-set_same, get_or-set_other}
use borrow.Author.Tests.{leb-true, le-leb, lt-ltb, ltb-true, not-true}
use Rattle.folds.specs.Fold.{pick, within}
use Rattle.folds.proofs.Folds.{clash, picked, passed, both, joined, all_at, at_all}
use Rattle.text.specs.declared.Field.{Field}
use Rattle.text.specs.declared.Field.TheVariants.{Malformed, Dash, Number}
use Rattle.text.specs.Text.{fields, same, field_of}
use Rattle.text.specs.Write.{decimal_text, field_text, rows, line_text}
use Rattle.text.proofs.Parts.{first_part}
use Rattle.text.proofs.Back.{fields_exactly, same_back, number_exactly, dash_exactly}
use Rattle.lines.specs.declared.Kind.{Kind}
use Rattle.lines.specs.declared.Kind.TheVariants.{NoRecord, BusLine, IntLine, AccLine, OfferLine, Bus3Line}
use Rattle.lines.specs.declared.Line.{Line}
use Rattle.lines.specs.Lines.{name_of, kind_of, named, push, pushed, line_with, line_from, line_of, value_at, dash_at}
use Rattle.lines.specs.Lines.{form_of, dash_kept, dashes_kept, no_dashes, is_record, shaped}
use Rattle.lines.specs.LineText.{may_stand, WritesLine}
use Rattle.lines.proofs.Fields.{form_count, push_count}
use Rattle.lines.proofs.Written.{name_read, Plain, plain_first, line_read}

-- "A line begins with one of the record names bus, int or acc": each record has one name
name_back : (name : List ℕ) → is_record (kind_of name) ≡ true → name ≡ name_of (kind_of name)
unfolding kind_of
name_back name d =
    go (same name (name_of BusLine)) (same name (name_of IntLine)) (same name (name_of AccLine)) (same name (name_of OfferLine))
    (same name (name_of Bus3Line)) refl refl refl refl refl d
  where
    kind : (a b c e z : Bool) → Kind
    kind a b c e z = pick a BusLine (pick b IntLine (pick c AccLine (pick e OfferLine (pick z Bus3Line NoRecord))))

    go : (a b c e z : Bool) → same name (name_of BusLine) ≡ a → same name (name_of IntLine) ≡ b → same name (name_of AccLine) ≡ c
        → same name (name_of OfferLine) ≡ e → same name (name_of Bus3Line) ≡ z
        → is_record (kind a b c e z) ≡ true → name ≡ name_of (kind a b c e z)
    go true b c e z f g h i j d = same_back name _ f
    go false true c e z f g h i j d = same_back name _ g
    go false false true e z f g h i j d = same_back name _ h
    go false false false true z f g h i j d = same_back name _ i
    go false false false false true f g h i j d = same_back name _ j
    go false false false false false f g h i j d = clash cc

pub name_exactly : (name : List ℕ) (k : Kind) → is_record k ≡ true → (kind_of name ≡ k) ↔ (name ≡ name_of k)
name_exactly name k e = (λ q. name_back name (ap is_record q ∙ e) ∙ ap name_of q, λ q. ap kind_of q ∙ name_read k)

-- what a field more leaves as it was
module _ (l : Line) (i : ℕ) (h : i < l.count) where
  push_value : (f : Field) → value_at (push l f) i ≡ value_at l i
  push_value Malformed = refl
  push_value Dash = refl
  push_value (Number x) = get_or-set_other l.values l.count i x 0 (λ e. omega arith)

  push_dash : (f : Field) → dash_at (push l f) i ≡ dash_at l i
  push_dash Malformed = refl
  push_dash Dash = get_or-set_other l.dashes l.count i true false (λ e. omega arith)
  push_dash (Number x) = refl

push_kind : (l : Line) (f : Field) → (push l f).kind ≡ l.kind
push_kind l Malformed = refl
push_kind l Dash = refl
push_kind l (Number x) = refl

pub pushed_kind : (l : Line) (fs : List Field) → (pushed l fs).kind ≡ l.kind
unfolding pushed
pushed_kind l [] = refl
pushed_kind l (f ∷ fs) = pushed_kind (push l f) fs ∙ push_kind l f

pub pushed_count : (l : Line) (fs : List Field) → (pushed l fs).count ≡ l.count + length fs
unfolding pushed
pushed_count l [] = omega arith
pushed_count l (f ∷ fs) = omega (arith, pushed_count (push l f) fs, push_count l f)

with_count : (k : Kind) (fs : List Field) → (line_with k fs).count ≡ length fs
with_count k fs = omega (arith, pushed_count (named k) fs)

pushed_same : (fs : List Field) (l : Line) (i : ℕ) → i < l.count → (value_at (pushed l fs) i ≡ value_at l i) × (dash_at (pushed l fs) i ≡ dash_at l i)
unfolding pushed
pushed_same [] l i h = (refl, refl)
pushed_same (f ∷ fs) l i h =
    let r = pushed_same fs (push l f) i (omega (arith, push_count l f)) in
    (r.0 ∙ push_value l i h f, r.1 ∙ push_dash l i h f)

pushed_malformed : (fs : List Field) (l : Line) → l.malformed ≡ true → (pushed l fs).malformed ≡ true
unfolding pushed
pushed_malformed [] l e = e
pushed_malformed (f ∷ fs) l e = pushed_malformed fs (push l f) (go f)
  where
    go : (f : Field) → (push l f).malformed ≡ true
    go Malformed = refl
    go Dash = e
    go (Number x) = e

-- fields that may stand are none of them malformed
pushed_sound : (d : ℕ → Bool) (fs : List Field) (l : Line) → Plain d fs → (pushed l fs).malformed ≡ l.malformed
unfolding pushed
pushed_sound d [] l P = refl
pushed_sound d (f ∷ fs) l P =
    let p = plain_first d f fs P in
    pushed_sound (λ i. d (suc i)) fs (push l f) p.1 ∙ go f p.0
  where
    go : (f : Field) → may_stand (d 0) f ≡ true → (push l f).malformed ≡ l.malformed
    go Malformed e = clash cc
    go Dash e = refl
    go (Number x) e = refl

-- a line under way: the arrays have eleven entries, and neither "-" nor a number is held for a field to come
record Begun (l : Line) : Type 0 where
  dashes : length l.dashes ≡ 11
  values : length l.values ≡ 11
  none : (i : ℕ) → l.count ≤ i → dash_at l i ≡ false
  zero : (i : ℕ) → l.count ≤ i → value_at l i ≡ 0

begun_next : (l : Line) → Begun l → (f : Field) → Begun (push l f)
begun_next l B Malformed =
    record { dashes = B.dashes; values = B.values; none = λ i h. B.none i (omega arith); zero = λ i h. B.zero i (omega arith) }
begun_next l B Dash =
    record {
      dashes = length-set l.dashes _ _ ∙ B.dashes;
      values = B.values;
      none = λ i h. get_or-set_other l.dashes l.count i true false (λ e. omega arith) ∙ B.none i (omega arith);
      zero = λ i h. B.zero i (omega arith);
    }
begun_next l B (Number x) =
    record {
      dashes = B.dashes;
      values = length-set l.values _ _ ∙ B.values;
      none = λ i h. B.none i (omega arith);
      zero = λ i h. get_or-set_other l.values l.count i x 0 (λ e. omega arith) ∙ B.zero i (omega arith);
    }

begun_fields : (fs : List Field) (l : Line) → Begun l → Begun (pushed l fs)
unfolding pushed
begun_fields [] l B = B
begun_fields (f ∷ fs) l B = begun_fields fs (push l f) (begun_next l B f)

repeated : {A : Type 0} (n i : ℕ) (x : A) → get_or (replicate n x) i x ≡ x
repeated zero i x = refl
repeated (suc n) zero x = refl
repeated (suc n) (suc i) x = repeated n i x

pub never_dash : (n i : ℕ) → get_or {A = Bool} (replicate n false) i false ≡ false
never_dash n i = repeated n i false

begun_named : (k : Kind) → Begun (named k)
begun_named k = record { dashes = refl; values = refl; none = λ i h. never_dash 11 i; zero = λ i h. repeated 11 i 0 }

-- "absent means 0": a field that a line has not is held as 0
pub absent_zero : (s : List ℕ) (i : ℕ) → (line_of s).count ≤ i → value_at (line_of s) i ≡ 0
unfolding line_of
absent_zero s i h = (go (fields s)).zero i h
  where
    go : (ps : List (List ℕ)) → Begun (line_from ps)
    go [] = begun_named NoRecord
    go (name ∷ gs) = begun_fields (map field_of gs) _ (begun_named (kind_of name))

-- field i of a line as it is held
abbrev pub field_at : Line → ℕ → Field
field_at l i = pick (dash_at l i) Dash (Number (value_at l i))

-- the fields of a line are what it holds
fields_held : (fs : List Field) (l : Line) → Begun l → l.count + length fs ≤ 11 → (pushed l fs).malformed ≡ false
    → fs ≡ rows (length fs) l.count (field_at (pushed l fs))
unfolding pushed rows
fields_held [] l B h e = refl
fields_held (f ∷ fs) l B h e =
    let n = push_count l f ∙ add-one l.count in
    let i = fields_held fs (push l f) (begun_next l B f) (omega arith) e in
    ap₂ (λ (x : Field) (xs : List Field). x ∷ xs) (go f e) (i ∙ ap (λ (k : ℕ). rows (length fs) k (field_at (pushed (push l f) fs))) n)
  where
    go : (f : Field) → (pushed (push l f) fs).malformed ≡ false → f ≡ field_at (pushed (push l f) fs) l.count
    go Malformed e = let m = pushed_malformed fs (push l Malformed) refl in clash cc
    go Dash e =
        let s = pushed_same fs (push l Dash) l.count (omega arith) in
        sym (picked _ _ _ (s.1 ∙ get_or-set_same l.dashes l.count true false (omega (arith, B.dashes))))
    go (Number x) e =
        let s = pushed_same fs (push l (Number x)) l.count (omega arith) in
        ap Number (sym (s.0 ∙ get_or-set_same l.values l.count x 0 (omega (arith, B.values))))
        ∙ sym (passed _ _ _ (s.1 ∙ B.none l.count (omega arith)))

rows_at : {A : Type 0} (n k : ℕ) (f : ℕ → A) (x : A) (i : ℕ) → i < n → get_or (rows n k f) i x ≡ f (k + i)
unfolding rows
rows_at zero k f x i h = absurd (omega arith)
rows_at (suc n) k f x zero h = let z : k ≡ k + 0 = omega arith in ap f z
rows_at (suc n) k f x (suc i) h = let z : suc k + i ≡ k + suc i = omega arith in rows_at n (suc k) f x i (omega arith) ∙ ap f z

rows_length : {A : Type 0} (n k : ℕ) (f : ℕ → A) → length (rows n k f) ≡ n
unfolding rows
rows_length zero k f = refl
rows_length (suc n) k f = ap suc (rows_length n (suc k) f)

-- what a field that is read writes
fields_back : (gs : List (List ℕ)) (l : Line) → (pushed l (map field_of gs)).malformed ≡ false → gs ≡ map field_text (map field_of gs)
unfolding pushed
fields_back [] l e = refl
fields_back (g ∷ gs) l e = ap₂ (λ (x : List ℕ) (xs : List (List ℕ)). x ∷ xs) (go (field_of g) refl e) (fields_back gs (push l (field_of g)) e)
  where
    go : (f : Field) → field_of g ≡ f → (pushed (push l f) (map field_of gs)).malformed ≡ false → g ≡ field_text (field_of g)
    go Malformed q e = let m = pushed_malformed (map field_of gs) (push l Malformed) refl in clash cc
    go Dash q e = (dash_exactly g).0 q ∙ sym (ap field_text q)
    go (Number x) q e = ((number_exactly g x).0 q).0 ∙ sym (ap field_text q)

-- each is read from some bytes
read_at : (gs : List (List ℕ)) (i : ℕ) → i < length (map field_of gs) → (g : List ℕ) × (get_or (map field_of gs) i Malformed ≡ field_of g)
read_at [] i h = absurd (omega arith)
read_at (g ∷ gs) zero h = (g, refl)
read_at (g ∷ gs) (suc i) h = read_at gs i (omega arith)

-- the tests of shape, apart
pub record ShapeTests (l : Line) : Type 0 where
  pub known : is_record l.kind ≡ true
  pub least : (form_of l.kind).least ≤ l.count
  pub most : l.count ≤ (form_of l.kind).count
  pub sound : l.malformed ≡ false
  pub dashes : (i : ℕ) → i < (form_of l.kind).count → dash_kept (form_of l.kind) l.dashes i ≡ true

pub shape_tests : (l : Line) → (shaped l ≡ true) ↔ ShapeTests l
unfolding shaped
shape_tests l = (there, back)
  where
    there : shaped l ≡ true → ShapeTests l
    there e =
        let m = (form_of l.kind).least in
        let n = (form_of l.kind).count in
        let w = within m l.count n in
        let a = both (is_record l.kind && w && not l.malformed) (dashes_kept l.kind l.dashes) e in
        let b = both (is_record l.kind && w) (not l.malformed) a.0 in
        let c = both (is_record l.kind) w b.0 in
        let d = both (leb m l.count) (leb l.count n) c.1 in
        record {
          known = c.0;
          least = leb-true _ _ d.0;
          most = leb-true _ _ d.1;
          sound = not-true _ b.1;
          dashes = all_at n (dash_kept (form_of l.kind) l.dashes) a.1;
        }

    back : ShapeTests l → shaped l ≡ true
    back S =
        joined _ _ (joined _ _ (joined _ _ S.known (joined _ _ (le-leb _ _ S.least) (le-leb _ _ S.most))) (ap not S.sound))
        (at_all (form_of l.kind).count (dash_kept (form_of l.kind) l.dashes) S.dashes)

-- how many fields a line of right shape has
pub shape_count : (l : Line) (k : Kind) → l.kind ≡ k → shaped l ≡ true → ((form_of k).least ≤ l.count) × (l.count ≤ (form_of k).count)
shape_count l k q e =
    let S = (shape_tests l).0 e in
    subst (λ (x : Kind). ((form_of x).least ≤ l.count) × (l.count ≤ (form_of x).count)) q (S.least, S.most)

-- where the record has always as many, it has those
pub shape_exact : (l : Line) (k : Kind) → l.kind ≡ k → shaped l ≡ true → (form_of k).least ≡ (form_of k).count → l.count ≡ (form_of k).count
shape_exact l k q e h = let c = shape_count l k q e in omega arith

-- where the form has no "-", none stands
pub no_dash_at : (l : Line) (k : Kind) → l.kind ≡ k → shaped l ≡ true → (i : ℕ) → i < (form_of k).count → get_or (form_of k).dashes i false ≡ false
    → dash_at l i ≡ false
no_dash_at l k q e i h z =
    let b = subst (λ (x : Kind). (i : ℕ) → i < (form_of x).count → dash_kept (form_of x) l.dashes i ≡ true) q ((shape_tests l).0 e).dashes i h in
    not-true _ (sym (ap (λ (c : Bool). c || not (dash_at l i)) z) ∙ b)

-- where "-" may stand
abbrev may_dash : Kind → ℕ → Bool
may_dash k i = get_or (form_of k).dashes i false

-- a line that is written has the shape that test 1 asks for
module _ (k : Kind) (fs : List Field) (known : is_record k ≡ true) (least : (form_of k).least ≤ length fs) (most : length fs ≤ (form_of k).count)
    (plain : Plain (may_dash k) fs) where
  abbrev l : Line
  l = line_with k fs

  held : (i : ℕ) → i < length fs → get_or fs i Malformed ≡ field_at l i
  held i h =
      let m = pushed_sound (may_dash k) fs (named k) plain in
      let e = fields_held fs (named k) (begun_named k) (omega (arith, form_count k)) m in
      ap (λ (xs : List Field). get_or xs i Malformed) e ∙ rows_at (length fs) 0 (field_at l) Malformed i h ∙ ap (field_at l) (omega arith)

  dash_may : (i : ℕ) → i < (form_of k).count → dash_kept (form_of k) l.dashes i ≡ true
  dash_may i h = elim (dec_lt i (length fs)) [ yes u ↦ go u (dash_at l i) refl | no u ↦ past (omega arith) ]
    where
      go : i < length fs → (c : Bool) → dash_at l i ≡ c → may_dash k i || not c ≡ true
      go u true q = ap (λ (c : Bool). c || false) (sym (ap (may_stand (may_dash k i)) (held i u ∙ picked _ _ _ q)) ∙ plain i u)
      go u false q = or-true (may_dash k i)

      past : length fs ≤ i → may_dash k i || not (dash_at l i) ≡ true
      past u =
          let n = with_count k fs in
          let d = (begun_fields fs (named k) (begun_named k)).none i (omega arith) in
          ap (λ (c : Bool). may_dash k i || not c) d ∙ or-true (may_dash k i)

  written_shaped : shaped (line_with k fs) ≡ true
  written_shaped =
      let q = pushed_kind (named k) fs in
      let n = with_count k fs in
      (shape_tests l).1
      (record {
        known = ap is_record q ∙ known;
        least = subst (λ (x : Kind). (form_of x).least ≤ l.count) (sym q) (omega (arith, n));
        most = subst (λ (x : Kind). l.count ≤ (form_of x).count) (sym q) (omega (arith, n));
        sound = pushed_sound (may_dash k) fs (named k) plain;
        dashes = subst (λ (x : Kind). (i : ℕ) → i < (form_of x).count → dash_kept (form_of x) l.dashes i ≡ true) (sym q) dash_may;
      })

-- what a written line is read as
pub line_said : {s : List ℕ} {k : Kind} {fs : List Field} → WritesLine s k fs → line_of s ≡ line_with k fs
line_said {s} {k} {fs} W = ap line_of W.text ∙ line_read k (may_dash k) fs W.plain

-- and what is read with the shape of a line is written so
module _ (name : List ℕ) (gs : List (List ℕ)) (e : shaped (line_with (kind_of name) (map field_of gs)) ≡ true) where
  abbrev pub k : Kind
  k = kind_of name

  abbrev pub fs : List Field
  fs = map field_of gs

  abbrev pub r : Line
  r = line_with k fs

  S : ShapeTests r
  S = (shape_tests r).0 e

  kind : r.kind ≡ k
  kind = pushed_kind (named k) fs

  counted : ((form_of k).least ≤ length fs) × (length fs ≤ (form_of k).count)
  counted =
      let n = with_count k fs in
      let c = shape_count r k kind e in
      (omega arith, omega arith)

  said : (i : ℕ) → i < length fs → get_or fs i Malformed ≡ field_at r i
  said i h =
      let e = fields_held fs (named k) (begun_named k) (omega (arith, form_count k, counted.1)) S.sound in
      ap (λ (xs : List Field). get_or xs i Malformed) e ∙ rows_at (length fs) 0 (field_at r) Malformed i h ∙ ap (field_at r) (omega arith)

  may : (i : ℕ) → i < length fs → may_stand (may_dash k i) (get_or fs i Malformed) ≡ true
  may i h = go (dash_at r i) refl
    where
      stays : (d : Bool) → d || false ≡ true → d ≡ true
      stays true e = refl
      stays false e = e

      kept : dash_kept (form_of k) r.dashes i ≡ true
      kept =
          subst (λ (x : Kind). (i : ℕ) → i < (form_of x).count → dash_kept (form_of x) r.dashes i ≡ true) kind S.dashes i (omega (arith, counted.1))

      go : (c : Bool) → dash_at r i ≡ c → may_stand (may_dash k i) (get_or fs i Malformed) ≡ true
      go true q =
          ap (may_stand (may_dash k i)) (said i h ∙ picked _ _ _ q) ∙ stays (may_dash k i) (sym (ap (λ (c : Bool). may_dash k i || not c) q) ∙ kept)
      go false q =
          let n = said i h ∙ passed _ _ _ q in
          let g = read_at gs i h in
          ap (may_stand (may_dash k i)) n ∙ lt-ltb (value_at r i) 10000000000 ((number_exactly g.0 (value_at r i)).0 (sym g.1 ∙ n)).1

  parts_written : WritesLine (line_text name gs) k fs
  parts_written =
      let known = ap is_record (sym kind) ∙ S.known in
      record {
        name = known;
        least = counted.0;
        most = counted.1;
        plain = may;
        text = ap₂ line_text (name_back name known) (fields_back gs (named k) S.sound);
      }

read_of : (s name : List ℕ) (gs : List (List ℕ)) → fields s ≡ name ∷ gs → shaped (line_of s) ≡ true → (k : Kind) × (fs : List Field) × WritesLine s k fs
unfolding line_of
read_of s name gs p e =
    let W = parts_written name gs (sym (ap (λ (ps : List (List ℕ)). shaped (line_from ps)) p) ∙ e) in
    (kind_of name, map field_of gs, subst (λ (x : List ℕ). WritesLine x (kind_of name) (map field_of gs)) (sym ((fields_exactly s name gs).0 p).0) W)

read_written : (s : List ℕ) → shaped (line_of s) ≡ true → (k : Kind) × (fs : List Field) × WritesLine s k fs
read_written s e = read_of s _ _ (first_part 9 s) e

-- "line of wrong shape: record name, field count, malformed number": a line passes test 1 exactly if it is written so
pub shaped_exactly : (s : List ℕ) → (shaped (line_of s) ≡ true) ↔ ((k : Kind) × (fs : List Field) × WritesLine s k fs)
shaped_exactly s = (
  read_written s,
  λ h. let W = h.2 in ap shaped (line_said W) ∙ written_shaped h.0 h.1 W.name W.least W.most W.plain,
)

-- the fields that a line writes are what it is read as
fields_of : (s : List ℕ) (k : Kind) (fs : List Field) → WritesLine s k fs → fs ≡ rows (line_of s).count 0 (field_at (line_of s))
fields_of s k fs W =
    let m = pushed_sound (may_dash k) fs (named k) W.plain in
    let n = with_count k fs in
    fields_held fs (named k) (begun_named k) (omega (arith, form_count k, W.most)) m
    ∙ ap (λ (c : ℕ). rows c 0 (field_at (line_with k fs))) (sym n)
    ∙ ap (λ (l : Line). rows l.count 0 (field_at l)) (sym (line_said W))

pub line_written : (s : List ℕ) (k : Kind) (c : ℕ) → (line_of s).kind ≡ k → shaped (line_of s) ≡ true → (line_of s).count ≡ c
    → s ≡ line_text (name_of k) (map field_text (rows c 0 (field_at (line_of s))))
line_written s k c q e m =
    let h = read_written s e in
    let W = h.2 in
    let n = sym (pushed_kind (named h.0) h.1) ∙ sym (ap (λ (l : Line). l.kind) (line_said W)) ∙ q in
    W.text ∙ ap (λ (fs : List Field). line_text (name_of h.0) (map field_text fs)) (fields_of s h.0 h.1 W)
    ∙ ap₂ (λ (x : Kind) (d : ℕ). line_text (name_of x) (map field_text (rows d 0 (field_at (line_of s))))) n m

-- a number that a line of right shape has is one of at most ten digits
pub value_small : (s : List ℕ) (k : Kind) → (line_of s).kind ≡ k → shaped (line_of s) ≡ true → (i : ℕ) → i < (form_of k).count
    → dash_at (line_of s) i ≡ false → value_at (line_of s) i < 10000000000
value_small s k q e i h z = elim (dec_lt i (line_of s).count) [ yes u ↦ stands u | no u ↦ absent (omega arith) ]
  where
    absent : (line_of s).count ≤ i → value_at (line_of s) i < 10000000000
    absent u = omega (arith, absent_zero s i u)

    stands : i < (line_of s).count → value_at (line_of s) i < 10000000000
    stands u =
        let r = read_written s e in
        let W = r.2 in
        let n = ap (λ (l : Line). l.count) (line_said W) ∙ with_count r.0 r.1 in
        let f = ap (λ (fs : List Field). get_or fs i Malformed) (fields_of s r.0 r.1 W)
        ∙ rows_at (line_of s).count 0 (field_at (line_of s)) Malformed i u ∙ ap (field_at (line_of s)) (omega arith) ∙ passed _ _ _ z in
        ltb-true _ _ (sym (ap (may_stand (get_or (form_of r.0).dashes i false)) f) ∙ W.plain i (omega arith))

rows_numbers : (n k : ℕ) (l : Line) → ((i : ℕ) → i < k + n → dash_at l i ≡ false)
    → map field_text (rows n k (field_at l)) ≡ rows n k (λ i. decimal_text (value_at l i))
unfolding rows
rows_numbers zero k l h = refl
rows_numbers (suc n) k l h =
    ap₂ (λ (x : List ℕ) (xs : List (List ℕ)). x ∷ xs) (ap field_text (passed _ _ _ (h k (omega arith)))) (rows_numbers n (suc k) l (λ i m. h i (omega arith)))

-- a line of a record that has no "-"
pub numbers_written : (s : List ℕ) (k : Kind) (c : ℕ) → (line_of s).kind ≡ k → (form_of k).dashes ≡ no_dashes → shaped (line_of s) ≡ true
    → (line_of s).count ≡ c → s ≡ line_text (name_of k) (rows c 0 (λ i. decimal_text (value_at (line_of s) i)))
numbers_written s k c q z e m =
    let none : (i : ℕ) → get_or (form_of k).dashes i false ≡ false = λ i. ap (λ (d : List Bool). get_or d i false) z ∙ never_dash 11 i in
    let most = (shape_count (line_of s) k q e).1 in
    line_written s k c q e m
    ∙ ap (line_text (name_of k)) (rows_numbers c 0 (line_of s) (λ i h. no_dash_at (line_of s) k q e i (omega arith) (none i)))
