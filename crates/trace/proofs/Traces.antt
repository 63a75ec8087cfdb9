-- Laws of a trace file: the answer of each chain of tests at each return, and the file read at a position, where the answer
-- for the whole is the answer for what is left. By the tests in order, and by the laws of lines at a position.
use Rattle.std.specs.Prelude.{Option, Some, None, Result, Ok, Err}
use Prim.Native.Nat.{ℕ, ◌+◌, ◌-◌, ◌≤◌, ◌<◌}
use mathlib.Core.Bool.{Bool, true, false, ◌&&◌}
use mathlib.Core.List.{List}
use mathlib.Core.Path.{◌≡◌, refl, sym, ◌∙◌, ap, ap₂, subst}
use native.Mathlib.Decide.{dec_lt, ℕ_discrete}
use native.Mathlib.Omega.{arith}
use lib.Dec.{leb, ltb}
use lib.ListN.{length, take, drop}
use borrow.Author.Tests.{lt-ltb, le-ltb, le-leb, lt-leb, ne_eqb, leb-true, leb-false, ltb-false, ltb-true, not-false}
use Rattle.text.specs.Text.{part_length, lines, unended, line_at}
use Rattle.text.proofs.Parts.{lines_none, lines_unended, lines_next, part_fits}
use Rattle.model.specs.declared.Tree.{Tree}
use Rattle.model.specs.declared.Refusal.{Refusal}
use Rattle.model.specs.declared.Refusal.TheVariants.{Shape, Limit, Falling, Unknown}
use Rattle.folds.specs.Fold.{pick, all, within}
use Rattle.rules.specs.Rules.{tree_keeps}
use Rattle.rules.proofs.Sound.{sound}
use Rattle.folds.proofs.Folds.{picked, passed, both, joined, clash}
use Rattle.lines.specs.declared.Kind.TheVariants.{OfferLine}
use Rattle.lines.specs.declared.Line.{Line}
use Rattle.trace.specs.declared.Request.{Request}
use Rattle.lines.specs.Answer.{FileAnswer, Accepted, Refused, Broken}
use Rattle.lines.specs.Lines.{line_of, value_at, shaped, limits_kept, in_trace}
use Rattle.trace.specs.TraceFile.{request_of, total_of, added, offer_line, after_offer, read_offers, no_totals, read_trace, read_requests, request_on, request_at}
use Rattle.trace.specs.OfferText.{offer_text, offer_of}
use Rattle.trace.proofs.Offers.{end_at, is_offer_line, Read, text_not, offer_shaped, offer_limits_same}
use Rattle.lines.proofs.Limits.{yes_not, no_not, nonempty}

module _ (accs last : ℕ) (totals : List ℕ) (l : Line) where
  pub offer_shape : in_trace l.kind && shaped l ≡ false → offer_line accs last totals l ≡ Err Shape
  unfolding offer_line
  offer_shape e = picked _ _ _ (yes_not _ e)

  module _ (e : in_trace l.kind && shaped l ≡ true) where
    pub offer_limit : limits_kept OfferLine l.values ≡ false → offer_line accs last totals l ≡ Err Limit
    unfolding offer_line
    offer_limit f = passed _ _ _ (no_not _ e) ∙ picked _ _ _ (yes_not _ f)

    module _ (f : limits_kept OfferLine l.values ≡ true) where
      pub offer_unknown : accs ≤ value_at l 1 → offer_line accs last totals l ≡ Err Unknown
      unfolding offer_line
      offer_unknown g = passed _ _ _ (no_not _ e) ∙ passed _ _ _ (no_not _ f) ∙ picked _ _ _ (le-leb _ _ g)

      module _ (g : value_at l 1 < accs) where
        pub offer_falling : value_at l 0 < last → offer_line accs last totals l ≡ Err Falling
        unfolding offer_line
        offer_falling h = passed _ _ _ (no_not _ e) ∙ passed _ _ _ (no_not _ f) ∙ passed _ _ _ (lt-leb _ _ g) ∙ picked _ _ _ (lt-ltb _ _ h)

        module _ (h : last ≤ value_at l 0) where
          pub offer_total : 65535 < total_of totals (value_at l 1) + value_at l 2 → offer_line accs last totals l ≡ Err Limit
          unfolding offer_line
          offer_total k =
              passed _ _ _ (no_not _ e) ∙ passed _ _ _ (no_not _ f) ∙ passed _ _ _ (lt-leb _ _ g) ∙ passed _ _ _ (le-ltb _ _ h) ∙ picked _ _ _ (lt-ltb _ _ k)

          pub offer_good : total_of totals (value_at l 1) + value_at l 2 ≤ 65535 → offer_line accs last totals l ≡ Ok (request_of l.values)
          unfolding offer_line
          offer_good k =
              passed _ _ _ (no_not _ e) ∙ passed _ _ _ (no_not _ f) ∙ passed _ _ _ (lt-leb _ _ g) ∙ passed _ _ _ (le-ltb _ _ h) ∙ passed _ _ _ (le-ltb _ _ k)

-- a test whose failure is a refusal has passed where the line is accepted
not_refused : (c : Bool) (x : Refusal) (y : Result Request Refusal) (r : Request) → pick c (Err x) y ≡ Ok r → (c ≡ false) × (y ≡ Ok r)
not_refused true x y r e = clash cc
not_refused false x y r e = (refl, e)

same_offer : (p r : Request) → ◌≡◌ {A = Result Request Refusal} (Ok p) (Ok r) → p ≡ r
same_offer p r e = cc

-- what an accepted line says
pub record Good (accs last : ℕ) (totals : List ℕ) (l : Line) (r : Request) : Type 0 where
  pub offer : in_trace l.kind && shaped l ≡ true
  pub limits : limits_kept OfferLine l.values ≡ true
  pub known : r.accelerator < accs
  pub rising : last ≤ r.slot
  pub total : total_of totals r.accelerator + r.count ≤ 65535
  pub same : request_of l.values ≡ r

pub offer_says : (accs last : ℕ) (totals : List ℕ) (l : Line) (r : Request) → offer_line accs last totals l ≡ Ok r → Good accs last totals l r
unfolding offer_line
offer_says accs last totals l r e =
    let a = not_refused _ _ _ _ e in
    let b = not_refused _ _ _ _ a.1 in
    let d = not_refused _ _ _ _ b.1 in
    let f = not_refused _ _ _ _ d.1 in
    let g = not_refused _ _ _ _ f.1 in
    let s = same_offer _ _ g.1 in
    record {
      offer = not-false _ a.0;
      limits = not-false _ b.0;
      known = subst (λ (q : Request). q.accelerator < accs) s (leb-false _ _ d.0);
      rising = subst (λ (q : Request). last ≤ q.slot) s (ltb-false _ _ f.0);
      total = subst (λ (q : Request). total_of totals q.accelerator + q.count ≤ 65535) s (ltb-false _ _ g.0);
      same = s;
    }

-- what is left of a trace from a position on
abbrev pub trace_from : ℕ → ℕ → ℕ → List ℕ → List ℕ → ℕ → FileAnswer
trace_from n accs last totals s at = read_offers n accs last totals (lines (drop at s)) (unended (drop at s))

pub trace_broken : (t : Tree) (s : List ℕ) → tree_keeps t ≡ false → read_trace t s ≡ Broken
unfolding read_trace
trace_broken t s e = picked _ _ _ (yes_not _ e)

pub trace_size : (t : Tree) (s : List ℕ) → tree_keeps t ≡ true → 65536 < length s → read_trace t s ≡ Refused Limit 0
unfolding read_trace
trace_size t s e h = passed _ _ _ (no_not _ e) ∙ picked _ _ _ (lt-ltb _ _ h)

pub trace_start_lem : (t : Tree) (s : List ℕ) → tree_keeps t ≡ true → length s ≤ 65536 → read_trace t s ≡ trace_from 1 t.accs 0 no_totals s 0
unfolding read_trace
trace_start_lem t s e h = passed _ _ _ (no_not _ e) ∙ passed _ _ _ (le-ltb _ _ h)

-- the same where the rules were checked before
module _ (accs : ℕ) (s : List ℕ) where
  pub reads_none : within 1 accs 32 ≡ false → read_requests accs s ≡ Broken
  unfolding read_requests
  reads_none h = picked _ _ _ (yes_not _ h)

  module _ (m : within 1 accs 32 ≡ true) where
    pub reads_most : accs ≤ 32
    reads_most = leb-true _ _ (both (leb 1 accs) (leb accs 32) m).1

    pub reads_size : 65536 < length s → read_requests accs s ≡ Refused Limit 0
    unfolding read_requests
    reads_size h = passed _ _ _ (no_not _ m) ∙ picked _ _ _ (lt-ltb _ _ h)

    pub reads_from : length s ≤ 65536 → read_requests accs s ≡ trace_from 1 accs 0 no_totals s 0
    unfolding read_requests
    reads_from h = passed _ _ _ (no_not _ m) ∙ passed _ _ _ (le-ltb _ _ h)

pub reads_kept : (t : Tree) (s : List ℕ) → tree_keeps t ≡ true → read_requests t.accs s ≡ read_trace t s
unfolding read_requests read_trace
reads_kept t s k =
    let m = joined _ _ (le-leb 1 t.accs (sound t k).some_accs) (le-leb t.accs 32 (sound t k).most_accs) in
    passed _ _ _ (no_not (within 1 t.accs 32) m) ∙ sym (passed _ _ _ (no_not _ k))

module _ (n accs last : ℕ) (totals s : List ℕ) (at : ℕ) where
  pub trace_end : length s ≤ at → trace_from n accs last totals s at ≡ Accepted
  unfolding read_offers
  trace_end h = ap₂ (read_offers n accs last totals) (lines_none s at h).0 (lines_none s at h).1

  module _ (e : ℕ) (h : at < length s) (q : e ≡ at + part_length 10 (drop at s)) where
    pub trace_unended : e ≡ length s → trace_from n accs last totals s at ≡ Refused Shape n
    unfolding read_offers
    trace_unended l =
        let r = lines_unended s at e (omega arith) q (omega arith) in
        ap₂ (read_offers n accs last totals) r.0 r.1 ∙ passed _ _ _ (ne_eqb _ _ (nonempty s at e (omega arith) (omega arith)))

    -- one line, and what is left after it
    pub trace_line : (e ≡ length s → ⊥) → (x : Result Request Refusal) → x ≡ offer_line accs last totals (line_of (take (e - at) (drop at s)))
        → trace_from n accs last totals s at ≡ after_offer n x (λ r. trace_from (n + 1) accs r.slot (added totals r) s (e + 1))
    unfolding read_offers
    trace_line l x o =
        let f = part_fits 10 s at (omega arith) in
        let r = lines_next s at e (omega arith) q (omega arith) in
        ap₂ (read_offers n accs last totals) r.0 r.1
        ∙ ap (λ (y : Result Request Refusal). after_offer n y (λ r. trace_from (n + 1) accs r.slot (added totals r) s (e + 1))) (sym o)

-- the line at a position
module _ (s : List ℕ) (at e : ℕ) (q : e ≡ at + part_length 10 (drop at s)) where
  same_part : take (e - at) (drop at s) ≡ take (part_length 10 (drop at s)) (drop at s)
  same_part = let m : e - at ≡ part_length 10 (drop at s) = omega arith in ap (λ k. take k (drop at s)) m

  pub request_done : length s ≤ e → request_at s at ≡ None
  unfolding request_at
  request_done h = picked _ _ _ (le-leb (length s) (at + part_length 10 (drop at s)) (omega arith))

  pub request_line : e < length s → request_at s at ≡ request_on (line_of (take (e - at) (drop at s))) e
  unfolding request_at
  request_line h = passed _ _ _ (lt-leb (length s) (at + part_length 10 (drop at s)) (omega arith)) ∙ ap₂ request_on (ap line_of (sym same_part)) (sym q)

-- the answers by what the code has read of the line
same_offers : (accs last : ℕ) (totals : List ℕ) (l : Line) → is_offer_line l ≡ true
    → offer_line accs last totals l ≡ offer_line accs last totals (offer_of (value_at l 0) (value_at l 1) (value_at l 2))
unfolding offer_line all
same_offers accs last totals l e = passed _ _ _ (no_not _ e) ∙ sym (passed _ _ _ (no_not _ (offer_shaped (value_at l 0) (value_at l 1) (value_at l 2))))

module _ (s : List ℕ) (at : ℕ) where
  abbrev line : Line
  line = line_of (line_at s at)

  abbrev line_here : Line
  line_here = line_of (take (end_at s at - at) (drop at s))

  same_line : line_here ≡ line
  same_line = ap line_of (same_part s at (end_at s at) refl)

  module _ (n accs last : ℕ) (totals : List ℕ) (h : at < length s) where
    pub trace_unshaped : offer_text s at ≡ None → trace_from n accs last totals s at ≡ Refused Shape n
    trace_unshaped r = elim (ℕ_discrete (end_at s at) (length s)) [
      | yes q ↦ trace_unended n accs last totals s at (end_at s at) h refl q
      | no d ↦
          let w = part_fits 10 s at (omega arith) in
          let no = offer_shape accs last totals line (text_not s at r (omega arith)) in
          trace_line n accs last totals s at (end_at s at) h refl d (Err Shape) (sym (ap (offer_line accs last totals) same_line ∙ no))
    ]

    trace_read : (x y z next : ℕ) → Read s at x y z next → (o : Result Request Refusal) → o ≡ offer_line accs last totals (offer_of x y z)
        → trace_from n accs last totals s at ≡ after_offer n o (λ r. trace_from (n + 1) accs r.slot (added totals r) s next)
    trace_read x y z next R o q =
        trace_line n accs last totals s at (end_at s at) h refl (λ e. omega (arith, R.within)) o
        (q
        ∙ sym (ap (offer_line accs last totals) same_line ∙ same_offers accs last totals line R.offer
        ∙ ap (offer_line accs last totals) (ap (λ k. offer_of k (value_at line 1) (value_at line 2)) R.slot ∙ ap₂ (offer_of x) R.accelerator R.count)))
        ∙ ap (λ k. after_offer n o (λ r. trace_from (n + 1) accs r.slot (added totals r) s k)) (sym R.place)

    module _ (x y z next : ℕ) (R : Read s at x y z next) (o : Result Request Refusal) (q : o ≡ offer_line accs last totals (offer_of x y z)) where
      pub trace_refused : (f : Refusal) → o ≡ Err f → trace_from n accs last totals s at ≡ Refused f n
      trace_refused f e = trace_read x y z next R (Err f) (sym e ∙ q)

      pub trace_taken : (r : Request) → o ≡ Ok r → trace_from n accs last totals s at ≡ trace_from (n + 1) accs r.slot (added totals r) s next
      trace_taken r e = trace_read x y z next R (Ok r) (sym e ∙ q)

  pub request_unshaped : offer_text s at ≡ None → request_at s at ≡ None
  request_unshaped r = elim (dec_lt (end_at s at) (length s)) [
    | no h ↦ request_done s at (end_at s at) refl (omega arith)
    | yes h ↦
        request_line s at (end_at s at) refl h
        ∙ ap (λ (l : Line). request_on l (end_at s at)) same_line
        ∙ passed _ _ _ (ap (λ b. b && limits_kept OfferLine line.values && ltb (value_at line 1) 32) (text_not s at r h))
  ]

  request_read : (x y z next : ℕ) → Read s at x y z next
      → request_at s at ≡ pick (limits_kept OfferLine (offer_of x y z).values && ltb y 32) (Some (request_of (offer_of x y z).values, next)) None
  request_read x y z next R =
      request_line s at (end_at s at) refl R.within
      ∙ ap (λ (l : Line). request_on l (end_at s at)) same_line
      ∙ ap (λ b. pick (b && limits_kept OfferLine line.values && ltb (value_at line 1) 32) (Some (request_of line.values, (end_at s at + 1))) None) R.offer
      ∙ ap (λ b. pick (b && ltb (value_at line 1) 32) (Some (request_of line.values, (end_at s at + 1))) None) (offer_limits_same line)
      ∙ ap (λ k. answer k (value_at line 1) (value_at line 2) (end_at s at + 1)) R.slot
      ∙ ap₂ (λ k m. answer x k m (end_at s at + 1)) R.accelerator R.count
      ∙ ap (answer x y z) (sym R.place)
    where
      answer : ℕ → ℕ → ℕ → ℕ → Option (Request × ℕ)
      answer x y z next = pick (limits_kept OfferLine (offer_of x y z).values && ltb y 32) (Some (request_of (offer_of x y z).values, next)) None

  module _ (x y z next : ℕ) (R : Read s at x y z next) (k : Bool) (q : k ≡ limits_kept OfferLine (offer_of x y z).values) where
    same_test : limits_kept OfferLine (offer_of x y z).values && ltb y 32 ≡ k && ltb y 32
    same_test = ap (λ b. b && ltb y 32) (sym q)

    pub request_none : k && ltb y 32 ≡ false → request_at s at ≡ None
    request_none e = request_read x y z next R ∙ passed _ _ _ (same_test ∙ e)

    pub request_due : k && ltb y 32 ≡ true → (r : Request) → r ≡ request_of (offer_of x y z).values → Some (r, next) ≡ request_at s at
    request_due e r f = ap (λ (p : Request). Some (p, next)) f ∙ sym (request_read x y z next R ∙ picked _ _ _ (same_test ∙ e))

    pub request_limits : k && ltb y 32 ≡ true → (limits_kept OfferLine (offer_of x y z).values ≡ true) × (y < 32)
    request_limits e = let b = both k (ltb y 32) e in (sym q ∙ b.0, ltb-true _ _ b.1)
