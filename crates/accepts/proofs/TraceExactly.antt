-- "a file as exactly the .. trace that it writes". One way by the lines of an accepted trace, each of which is the o line of its
-- request; the other by induction on the requests, each of whose lines passes its tests.
use Rattle.std.specs.Prelude.{Result, Ok}
use Prim.Native.Nat.{ℕ, zero, suc, ◌+◌, ◌≤◌, ◌<◌}
use mathlib.Core.Bool.{Bool, true, false, ◌&&◌}
use mathlib.Core.List.{List, [], ◌∷◌, map}
use mathlib.Core.Logic.{◌↔◌}
use mathlib.Core.Path.{◌≡◌, refl, sym, ◌∙◌, ap, ap₂, subst}
use native.Mathlib.Omega.{arith}
use lib.Dec.{leb, ltb, eqb, lit<}
use lib.ListN.{length, get_or, replicate, length-set}
use borrow.Author.Tests.{leb-true, ltb-true, lt-ltb, eqb-true, le-leb, eq-eqb}
use Rattle.text.specs.Text.{lines, unended}
use Rattle.text.specs.Write.{numbers, rows, file_text}
use Rattle.text.proofs.Written.{Clean, clean_append, fields_clean, AllClean, all_none, all_more, lines_read}
use Rattle.text.proofs.Back.{file_back, nothing}
use Rattle.model.specs.declared.Tree.{Tree}
use Rattle.model.specs.declared.Refusal.{Refusal}
use Rattle.model.specs.declared.Refusal.TheVariants.{Shape}
use Rattle.folds.specs.Fold.{pick, all, within}
use Rattle.folds.proofs.Folds.{picked, both, joined}
use Rattle.rules.specs.Rules.{tree_keeps}
use Rattle.rules.proofs.Sound.{sound}
use Rattle.lines.specs.declared.Kind.TheVariants.{OfferLine}
use Rattle.lines.specs.declared.Line.{Line}
use Rattle.lines.specs.Answer.{Accepted, Refused}
use Rattle.lines.specs.Lines.{pushed, line_of, in_trace, shaped, limits_kept}
use Rattle.lines.proofs.Written.{name_clean, Below, below_none, below_more, numbers_clean, numbers_read}
use Rattle.lines.proofs.Back.{shape_exact, numbers_written, no_dash_at, value_small, never_dash}
use Rattle.trace.specs.declared.Request.{Request}
use Rattle.trace.specs.TraceFile.{request_of, total_of, added, offer_line, after_offer, read_offers, no_totals, read_trace, requests}
use Rattle.trace.specs.TraceFile.{rising, in_range, all_in_range, total_for}
use Rattle.accepts.specs.TraceText.{request_text, TraceKeeps, WritesTrace}
use Rattle.accepts.specs.TraceRefused.{ten_digits}
use Rattle.trace.specs.OfferText.{offer_of}
use Rattle.trace.proofs.Offers.{is_offer_line, in_trace_says, offer_shaped}
use Rattle.trace.proofs.Traces.{offer_says, offer_good, trace_start_lem}
use Rattle.trace.proofs.Requests.{not_accepted, taken_offer, added_total, accepted_trace}

-- a line that passes test 1 is the o line of its request
module _ (l : List ℕ) (e : is_offer_line (line_of l) ≡ true) where
  kind : (line_of l).kind ≡ OfferLine
  kind = in_trace_says (line_of l).kind (both (in_trace (line_of l).kind) (shaped (line_of l)) e).0

  shape : shaped (line_of l) ≡ true
  shape = (both (in_trace (line_of l).kind) (shaped (line_of l)) e).1

  pub request_written : l ≡ request_text (request_of (line_of l).values)
  unfolding rows numbers
  request_written = numbers_written l OfferLine 3 kind refl shape (shape_exact (line_of l) OfferLine kind shape refl)

  small : (i : ℕ) → i < 3 → get_or (line_of l).values i 0 < 10000000000
  small i h = value_small l OfferLine kind shape i h (no_dash_at (line_of l) OfferLine kind shape i h (never_dash 11 i))

  pub request_digits : ten_digits (request_of (line_of l).values) ≡ true
  request_digits = joined _ _ (joined _ _ (lt-ltb _ _ (small 0 (lit< tt))) (lt-ltb _ _ (small 1 (lit< tt)))) (lt-ltb _ _ (small 2 (lit< tt)))

-- and the other way: the o line of a request of at most ten digits
module _ (r : Request) (e : ten_digits r ≡ true) where
  below : Below (r.slot ∷ r.accelerator ∷ r.count ∷ [])
  below =
      let a = both (ltb r.slot 10000000000 && ltb r.accelerator 10000000000) (ltb r.count 10000000000) e in
      let b = both (ltb r.slot 10000000000) (ltb r.accelerator 10000000000) a.0 in
      below_more (ltb-true _ _ b.0) (below_more (ltb-true _ _ b.1) (below_more (ltb-true _ _ a.1) below_none))

  pub request_line : line_of (request_text r) ≡ offer_of r.slot r.accelerator r.count
  unfolding pushed
  request_line = numbers_read OfferLine below

pub request_clean : (r : Request) → Clean 10 (request_text r)
request_clean r = clean_append (name_clean 10 (lit< tt) OfferLine) (fields_clean (numbers_clean 10 (lit< tt) _))

-- a request in its range
pub range_facts : (accs : ℕ) (r : Request) → in_range accs r ≡ true → (r.slot ≤ 4294967294) × (r.accelerator < accs) × (1 ≤ r.count) × (r.count ≤ 16)
range_facts accs r e =
    let a = both (leb r.slot 4294967294 && ltb r.accelerator accs) (within 1 r.count 16) e in
    let b = both (leb r.slot 4294967294) (ltb r.accelerator accs) a.0 in
    let c = both (leb 1 r.count) (leb r.count 16) a.1 in
    (leb-true _ _ b.0, ltb-true _ _ b.1, leb-true _ _ c.0, leb-true _ _ c.1)

module _ (accs : ℕ) (m : accs ≤ 32) (r : Request) (e : in_range accs r ≡ true) where
  pub range_digits : ten_digits r ≡ true
  range_digits =
      let h = range_facts accs r e in
      joined _ _
      (joined _ _ (lt-ltb r.slot 10000000000 (omega (arith, h.0))) (lt-ltb r.accelerator 10000000000 (omega (arith, h.1))))
      (lt-ltb r.count 10000000000 (omega (arith, h.3)))

  range_limits : limits_kept OfferLine (offer_of r.slot r.accelerator r.count).values ≡ true
  unfolding all
  range_limits =
      let h = range_facts accs r e in
      joined _ _
      (joined _ _ (joined _ _ (le-leb 0 r.slot (omega arith)) (le-leb r.slot 4294967294 h.0))
      (joined _ _ (le-leb 0 r.accelerator (omega arith)) (le-leb r.accelerator 9999999999 (omega (arith, h.1)))))
      (joined _ _ (le-leb 1 r.count h.2) (le-leb r.count 16 h.3))

  pub request_read : (last : ℕ) (totals : List ℕ) → last ≤ r.slot → total_of totals r.accelerator + r.count ≤ 65535
      → offer_line accs last totals (line_of (request_text r)) ≡ Ok r
  request_read last totals h k =
      let l = offer_of r.slot r.accelerator r.count in
      ap (offer_line accs last totals) (request_line r range_digits)
      ∙ offer_good accs last totals l (offer_shaped r.slot r.accelerator r.count) range_limits (range_facts accs r e).1 h k

-- an accepted trace is written by its requests
lines_written : (ls : List (List ℕ)) (n accs last : ℕ) (totals u : List ℕ) → read_offers n accs last totals ls u ≡ Accepted
    → (u ≡ []) × (ls ≡ map request_text (requests ls))
unfolding read_offers requests
lines_written [] n accs last totals u e = (go (eqb (length u) 0) refl e, refl)
  where
    go : (c : Bool) → eqb (length u) 0 ≡ c → pick c Accepted (Refused Shape n) ≡ Accepted → u ≡ []
    go true f e = nothing u (eqb-true _ _ f)
    go false f e = not_accepted Shape n e
lines_written (l ∷ ls) n accs last totals u e =
    let o = taken_offer n (offer_line accs last totals (line_of l)) _ e in
    let i = lines_written ls (n + 1) accs o.0.slot (added totals o.0) u o.2 in
    (i.0, ap₂ ◌∷◌ (request_written l (offer_says accs last totals (line_of l) o.0 o.1).offer) i.1)

-- a request's count and the total before it
pub own_fits : (totals : List ℕ) (r : Request) (rs : List Request) → get_or totals r.accelerator 0 + total_for r.accelerator (r ∷ rs) ≤ 65535
    → total_of totals r.accelerator + r.count ≤ 65535
unfolding total_for
own_fits totals r rs h =
    let a = r.accelerator in
    omega (arith, h, picked {A = ℕ} (eqb a a) r.count 0 (eq-eqb a a refl))

-- the requests are read from their text
requests_read : (rs : List Request) (n accs last : ℕ) (totals : List ℕ) → accs ≤ 32 → length totals ≡ 32 → rising last rs ≡ true
    → all_in_range accs rs ≡ true → ((a : ℕ) → get_or totals a 0 + total_for a rs ≤ 65535)
    → (read_offers n accs last totals (map request_text rs) [] ≡ Accepted) × (requests (map request_text rs) ≡ rs) × AllClean 10 (map request_text rs)
unfolding read_offers requests rising all_in_range total_for
requests_read [] n accs last totals m z o g t = (refl, refl, all_none)
requests_read (r ∷ rs) n accs last totals m z o g t =
    let b = both (leb last r.slot) (rising r.slot rs) o in
    let c = both (in_range accs r) (all_in_range accs rs) g in
    let h : r.accelerator < length totals = omega (arith, (range_facts accs r c.0).1) in
    let u : (a : ℕ) → get_or (added totals r) a 0 + total_for a rs ≤ 65535 = λ a. omega (arith, added_total totals r a h, t a) in
    let i = requests_read rs (n + 1) accs r.slot (added totals r) m (length-set totals r.accelerator _ ∙ z) b.1 c.1 u in
    let k = request_read accs m r c.0 last totals (leb-true _ _ b.0) (own_fits totals r rs (t r.accelerator)) in (
      ap (λ (y : Result Request Refusal). after_offer n y (λ q. read_offers (n + 1) accs q.slot (added totals q) (map request_text rs) [])) k ∙ i.0,
      ap₂ ◌∷◌ (ap (λ (l : Line). request_of l.values) (request_line r (range_digits accs m r c.0))) i.1,
      all_more (request_clean r) i.2,
    )

pub none : (n a : ℕ) → get_or {A = ℕ} (replicate n 0) a 0 ≡ 0
none zero a = refl
none (suc n) zero = refl
none (suc n) (suc a) = none n a

-- a file is accepted as exactly the trace that it writes, and a run walks the requests that it writes
pub exactly_trace : (t : Tree) (s : List ℕ) (rs : List Request)
    → ((read_trace t s ≡ Accepted) × (requests (lines s) ≡ rs)) ↔ ((tree_keeps t ≡ true) × WritesTrace t.accs s rs)
exactly_trace t s rs = (there, back)
  where
    there : (read_trace t s ≡ Accepted) × (requests (lines s) ≡ rs) → (tree_keeps t ≡ true) × WritesTrace t.accs s rs
    there h =
        let A = accepted_trace t s h.0 in
        let w = lines_written (lines s) 1 t.accs 0 no_totals (unended s) (sym (trace_start_lem t s A.keeps A.size) ∙ h.0) in
        let G : TraceKeeps t.accs (requests (lines s)) = record { range = A.range; order = A.order; total = A.total } in
        subst (λ (q : List Request). (tree_keeps t ≡ true) × WritesTrace t.accs s q) h.1
        (A.keeps, record { text = file_back s w.0 ∙ ap file_text w.1; size = A.size; keeps = G })

    back : (tree_keeps t ≡ true) × WritesTrace t.accs s rs → (read_trace t s ≡ Accepted) × (requests (lines s) ≡ rs)
    back h =
        let W = h.1 in
        let G = W.keeps in
        let R = requests_read rs 1 t.accs 0 no_totals (sound t h.0).most_accs refl G.order G.range (λ a. omega (arith, none 32 a, G.total a)) in
        let l = lines_read R.2 in
        let p = ap lines W.text ∙ l.0 in
        (trace_start_lem t s h.0 W.size ∙ ap₂ (read_offers 1 t.accs 0 no_totals) p (ap unended W.text ∙ l.1) ∙ R.0, ap requests p ∙ R.1)

-- the same bytes write one list of requests
pub one_trace : (t : Tree) (s : List ℕ) (rs qs : List Request) → tree_keeps t ≡ true → WritesTrace t.accs s rs → WritesTrace t.accs s qs → rs ≡ qs
one_trace t s rs qs k A B = sym ((exactly_trace t s rs).1 (k, A)).1 ∙ ((exactly_trace t s qs).1 (k, B)).1

-- and a trace that is refused writes none
pub refused_none : (t : Tree) (s : List ℕ) (r : Refusal) (n : ℕ) → tree_keeps t ≡ true → read_trace t s ≡ Refused r n → (rs : List Request)
    → WritesTrace t.accs s rs → ⊥
refused_none t s r n k e rs W = not_accepted r n (sym e ∙ ((exactly_trace t s rs).1 (k, W)).0)
