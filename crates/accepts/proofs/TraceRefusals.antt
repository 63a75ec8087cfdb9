-- A refusal's number and line are those of the first line of the trace that breaks a rule, and of the first rule that it breaks. By
-- cases along the tests of a line, and by induction on the lines before it.
use Rattle.std.specs.Prelude.{Result, Ok, Err}
use Prim.Native.Nat.{ℕ, suc, ◌+◌, ◌≤◌, ◌<◌}
use mathlib.Core.Bool.{Bool, true, false, ◌&&◌, not}
use mathlib.Core.List.{List, [], ◌∷◌, ◌++◌, map}
use mathlib.Core.Logic.{◌↔◌}
use mathlib.Core.Path.{◌≡◌, refl, sym, ◌∙◌, ap, ap₂, subst}
use native.Mathlib.Decide.{dec_lt}
use native.Mathlib.Omega.{arith}
use lib.Dec.{leb, ltb, eqb}
use lib.ListN.{length, get_or, length-set}
use borrow.Author.Tests.{leb-true, ltb-true, le-leb, lt-leb, lt-ltb, le-ltb, eq-eqb, ne_eqb}
use Rattle.text.specs.Text.{lines, unended}
use Rattle.text.proofs.Back.{nothing}
use Rattle.model.specs.declared.Tree.{Tree}
use Rattle.model.specs.declared.Refusal.{Refusal}
use Rattle.model.specs.declared.Refusal.TheVariants.{Shape, Limit, Falling, Unknown}
use Rattle.folds.specs.Fold.{pick, all, within}
use Rattle.folds.proofs.Folds.{passed, both, joined, clash}
use Rattle.rules.specs.Rules.{tree_keeps}
use Rattle.rules.proofs.Sound.{sound}
use Rattle.lines.specs.declared.Kind.TheVariants.{OfferLine}
use Rattle.lines.specs.Answer.{FileAnswer, Accepted, Refused}
use Rattle.lines.specs.FirstRule.{broken}
use Rattle.lines.specs.Lines.{line_of, limits_kept}
use Rattle.trace.specs.declared.Request.{Request}
use Rattle.trace.specs.TraceFile.{request_of, total_of, added, offer_line, after_offer, read_offers, no_totals, read_trace}
use Rattle.trace.specs.TraceFile.{rising, in_range, all_in_range, total_for}
use Rattle.accepts.specs.TraceText.{request_text}
use Rattle.accepts.specs.TraceRefused.{last_slot, ten_digits, offer_rules, OfferBreaks, not_ended, not_shaped, breaks}
use Rattle.accepts.specs.TraceRefused.{TraceBreaks, TraceRefused, too_long, at_line}
use Rattle.trace.specs.OfferText.{offer_of}
use Rattle.trace.proofs.Offers.{is_offer_line, offer_shaped}
use Rattle.trace.proofs.Traces.{Good, offer_shape, offer_says, trace_size, trace_start_lem}
use Rattle.trace.proofs.Requests.{good_range, added_total, added_fits}
use Rattle.accepts.proofs.TraceExactly.{request_written, request_digits, request_line, request_read, range_facts, own_fits, none}

abbrev sums : List ℕ → ℕ → ℕ
sums totals a = get_or totals a 0

-- the lines after a request
abbrev goes_on : ℕ → ℕ → List ℕ → List (List ℕ) → List ℕ → Request → FileAnswer
goes_on n accs totals ls u r = read_offers (n + 1) accs r.slot (added totals r) ls u

-- a test and its opposite
not_leb : (a b : ℕ) → not (leb a b) ≡ ltb b a
not_leb a b = elim (dec_lt b a) [
  | yes h ↦ ap not (lt-leb a b h) ∙ sym (lt-ltb b a h)
  | no h ↦ ap not (le-leb a b (omega arith)) ∙ sym (le-ltb b a (omega arith))
]

not_ltb : (a b : ℕ) → not (ltb a b) ≡ leb b a
not_ltb a b = elim (dec_lt a b) [
  | yes h ↦ ap not (lt-ltb a b h) ∙ sym (lt-leb b a h)
  | no h ↦ ap not (le-ltb a b (omega arith)) ∙ sym (le-leb b a (omega arith))
]

-- the limits of an o line: "accelerator (no limit of its own ..)"
limits_same : (r : Request) → ten_digits r ≡ true
    → limits_kept OfferLine (offer_of r.slot r.accelerator r.count).values ≡ leb r.slot 4294967294 && within 1 r.count 16
unfolding all
limits_same r e =
    let a = (both (ltb r.slot 10000000000 && ltb r.accelerator 10000000000) (ltb r.count 10000000000) e).0 in
    let b : r.accelerator < 10000000000 = ltb-true _ _ (both (ltb r.slot 10000000000) (ltb r.accelerator 10000000000) a).1 in
    rw (le-leb 0 r.slot (omega arith), le-leb 0 r.accelerator (omega arith), le-leb r.accelerator 9999999999 (omega arith))
    (go (leb r.slot 4294967294) (within 1 r.count 16))
  where
    go : (c w : Bool) → c && true && w ≡ c && w
    go true w = refl
    go false w = refl

-- the answer to a request, by which of its rules are kept
abbrev answered : ℕ → Bool → Bool → Bool → Bool → FileAnswer
answered n limits known order total =
    pick limits (pick known (pick order (pick total Accepted (Refused Limit n)) (Refused Falling n)) (Refused Unknown n)) (Refused Limit n)

-- the tests of a request are the rules in their order
module _ (n : ℕ) where
  answers : (b c d e : Bool) (r : Request)
      → after_offer n (pick (not b) (Err Limit) (pick c (Err Unknown) (pick d (Err Falling) (pick e (Err Limit) (Ok r))))) (λ q. Accepted)
      ≡ answered n b (not c) (not d) (not e)
  answers false c d e r = refl
  answers true true d e r = refl
  answers true false true e r = refl
  answers true false false true r = refl
  answers true false false false r = refl

  rules_same : (accs last : ℕ) (totals : List ℕ) (r : Request) (b : Bool) → b ≡ leb r.slot 4294967294 && within 1 r.count 16
      → answered n b (not (leb accs r.accelerator)) (not (ltb r.slot last)) (not (ltb 65535 (total_of totals r.accelerator + r.count)))
      ≡ broken n (offer_rules accs last (sums totals) r)
  unfolding broken
  rules_same accs last totals r b e =
      rw (not_leb accs r.accelerator, not_ltb r.slot last, not_ltb 65535 (total_of totals r.accelerator + r.count))
      (ap (λ (x : Bool). answered n x (ltb r.accelerator accs) (leb last r.slot) (leb (total_of totals r.accelerator + r.count) 65535)) e)

  offer_rules_lem : (accs last : ℕ) (totals : List ℕ) (l : List ℕ) (q : Request) → ten_digits q ≡ true → l ≡ request_text q
      → after_offer n (offer_line accs last totals (line_of l)) (λ r. Accepted) ≡ broken n (offer_rules accs last (sums totals) q)
  unfolding offer_line
  offer_rules_lem accs last totals l q d w =
      let x = offer_of q.slot q.accelerator q.count in
      ap (λ (y : Result Request Refusal). after_offer n y (λ r. Accepted))
      (ap (offer_line accs last totals) (ap line_of w ∙ request_line q d) ∙ passed _ _ _ (ap not (offer_shaped q.slot q.accelerator q.count)))
      ∙ answers (limits_kept OfferLine x.values) (leb accs q.accelerator) (ltb q.slot last) (ltb 65535 (total_of totals q.accelerator + q.count)) _
      ∙ rules_same accs last totals q _ (limits_same q d)

-- a line that is no o line
no_request : (l : List ℕ) → is_offer_line (line_of l) ≡ false → (q : Request) → ten_digits q ≡ true → l ≡ request_text q → ⊥
no_request l e q d w = clash2 (sym e ∙ ap is_offer_line (ap line_of w ∙ request_line q d) ∙ offer_shaped q.slot q.accelerator q.count)
  where
    clash2 : false ≡ true → ⊥
    clash2 z = clash cc

-- the totals with all the requests added
added_all : List ℕ → List Request → List ℕ
added_all totals [] = totals
added_all totals (r ∷ rs) = added_all (added totals r) rs

all_added : (rs : List Request) (accs : ℕ) (totals : List ℕ) → accs ≤ 32 → length totals ≡ 32 → all_in_range accs rs ≡ true → (a : ℕ)
    → get_or (added_all totals rs) a 0 ≡ get_or totals a 0 + total_for a rs
unfolding added_all total_for all_in_range
all_added [] accs totals m z g a = omega arith
all_added (r ∷ rs) accs totals m z g a =
    let c = both (in_range accs r) (all_in_range accs rs) g in
    let h : r.accelerator < length totals = omega (arith, (range_facts accs r c.0).1) in
    omega (arith, all_added rs accs (added totals r) m (length-set totals r.accelerator _ ∙ z) c.1 a, added_total totals r a h)

-- the first line that breaks a rule, of the lines from line n on
record Found (n accs last : ℕ) (totals : List ℕ) (ls : List (List ℕ)) (u : List ℕ) (x : Refusal) (m : ℕ) : Type 0 where
  before : List Request
  after : List (List ℕ)
  split : ls ≡ map request_text before ++ after
  order : rising last before ≡ true
  range : all_in_range accs before ≡ true
  total : (a : ℕ) → get_or totals a 0 ≤ 65535 → get_or totals a 0 + total_for a before ≤ 65535
  line : m ≡ n + length before
  first : OfferBreaks accs (last_slot last before) (sums (added_all totals before)) m after u x

plus : (n : ℕ) → n + 0 ≡ n
plus n = omega arith

here : (n accs last : ℕ) (totals : List ℕ) (ls : List (List ℕ)) (u : List ℕ) (x : Refusal) → OfferBreaks accs last (sums totals) n ls u x
    → Found n accs last totals ls u x n
unfolding rising all_in_range total_for last_slot added_all
here n accs last totals ls u x e =
    record { before = []; after = ls; split = refl; order = refl; range = refl; total = λ a h. omega arith; line = sym (plus n); first = e }

on : (n accs last : ℕ) (totals : List ℕ) (l : List ℕ) (ls : List (List ℕ)) (u : List ℕ) (x : Refusal) (i : ℕ) (r : Request) → accs ≤ 32
    → length totals ≡ 32 → Good accs last totals (line_of l) r → Found (n + 1) accs r.slot (added totals r) ls u x i
    → Found n accs last totals (l ∷ ls) u x i
unfolding rising all_in_range total_for last_slot added_all
on n accs last totals l ls u x i r m z G F =
    let h : r.accelerator < length totals = omega (arith, G.known) in
    let k : n + 1 + length F.before ≡ n + suc (length F.before) = omega arith in
    record {
      before = r ∷ F.before;
      after = F.after;
      split = ap₂ ◌∷◌ (request_written l G.offer ∙ ap request_text G.same) F.split;
      order = joined _ _ (le-leb _ _ G.rising) F.order;
      range = joined _ _ (good_range accs last totals (line_of l) r G) F.range;
      total = λ a b. omega (arith, F.total a (added_fits totals r a h G.total b), added_total totals r a h);
      line = F.line ∙ k;
      first = F.first;
    }

-- an answer's refusal and line
same_refusal : {x y : Refusal} {n m : ℕ} → Refused y n ≡ Refused x m → (y ≡ x) × (n ≡ m)
same_refusal e = (cc, cc)

found_at : {n accs last : ℕ} {totals : List ℕ} {ls : List (List ℕ)} {u : List ℕ} {x y : Refusal} {m : ℕ} → Refused y n ≡ Refused x m
    → Found n accs last totals ls u y n → Found n accs last totals ls u x m
found_at {n} {accs} {last} {totals} {ls} {u} {x} {y} {m} e F =
    let s = same_refusal {x = x} {y = y} e in
    subst (λ (i : ℕ). Found n accs last totals ls u x i) s.1 (subst (λ (z : Refusal). Found n accs last totals ls u z n) s.0 F)

found : (ls : List (List ℕ)) (n accs last : ℕ) (totals u : List ℕ) (x : Refusal) (m : ℕ) → accs ≤ 32 → length totals ≡ 32
    → read_offers n accs last totals ls u ≡ Refused x m → Found n accs last totals ls u x m
unfolding read_offers
found [] n accs last totals u x m b z e = go (eqb (length u) 0) refl e
  where
    go : (c : Bool) → eqb (length u) 0 ≡ c → pick c Accepted (Refused Shape n) ≡ Refused x m → Found n accs last totals [] u x m
    go true q e = clash cc
    go false q e = found_at e (here n accs last totals [] u Shape (not_ended (λ w. let y = sym q ∙ eq-eqb (length u) 0 (ap length w) in clash cc)))
found (l ∷ ls) n accs last totals u x m b z e =
    go (is_offer_line (line_of l)) refl (offer_line accs last totals (line_of l)) refl e
    (λ r. found ls (n + 1) accs r.slot (added totals r) u x m b (length-set totals r.accelerator _ ∙ z))
  where
    go : (c : Bool) → is_offer_line (line_of l) ≡ c → (o : Result Request Refusal) → offer_line accs last totals (line_of l) ≡ o
        → after_offer n o (goes_on n accs totals ls u) ≡ Refused x m
        → ((r : Request) → read_offers (n + 1) accs r.slot (added totals r) ls u ≡ Refused x m → Found (n + 1) accs r.slot (added totals r) ls u x m)
        → Found n accs last totals (l ∷ ls) u x m
    go false p o q e rec =
        found_at (ap (λ (o : Result Request Refusal). after_offer n o (goes_on n accs totals ls u)) (sym (offer_shape accs last totals (line_of l) p) ∙ q) ∙ e)
        (here n accs last totals (l ∷ ls) u Shape (not_shaped (no_request l p)))
    go true p (Err y) q e rec =
        let w = request_written l p in
        let d = request_digits l p in
        let f = sym (offer_rules_lem n accs last totals l (request_of (line_of l).values) d w) ∙ ap (λ (o : Result Request Refusal). after_offer n o (λ r. Accepted)) q in
        found_at e (here n accs last totals (l ∷ ls) u y (breaks (request_of (line_of l).values) d w f))
    go true p (Ok r) q e rec = on n accs last totals l ls u x m r b z (offer_says accs last totals (line_of l) r q) (rec r e)

-- the lines before it are read
led : (rs : List Request) (n accs last : ℕ) (totals : List ℕ) (ls : List (List ℕ)) (u : List ℕ) → accs ≤ 32 → length totals ≡ 32 → rising last rs ≡ true
    → all_in_range accs rs ≡ true → ((a : ℕ) → get_or totals a 0 + total_for a rs ≤ 65535)
    → read_offers n accs last totals (map request_text rs ++ ls) u ≡ read_offers (n + length rs) accs (last_slot last rs) (added_all totals rs) ls u
unfolding read_offers rising all_in_range total_for last_slot added_all
led [] n accs last totals ls u m z o g t = ap (λ (k : ℕ). read_offers k accs last totals ls u) (sym (plus n))
led (r ∷ rs) n accs last totals ls u m z o g t =
    let b = both (leb last r.slot) (rising r.slot rs) o in
    let c = both (in_range accs r) (all_in_range accs rs) g in
    let h : r.accelerator < length totals = omega (arith, (range_facts accs r c.0).1) in
    let q = request_read accs m r c.0 last totals (leb-true _ _ b.0) (own_fits totals r rs (t r.accelerator)) in
    let k : n + 1 + length rs ≡ n + suc (length rs) = omega arith in
    let v : (a : ℕ) → get_or (added totals r) a 0 + total_for a rs ≤ 65535 = λ a. omega (arith, added_total totals r a h, t a) in
    ap (λ (y : Result Request Refusal). after_offer n y (λ p. read_offers (n + 1) accs p.slot (added totals p) (map request_text rs ++ ls) u)) q
    ∙ led rs (n + 1) accs r.slot (added totals r) ls u m (length-set totals r.accelerator _ ∙ z) b.1 c.1 v
    ∙ ap (λ (i : ℕ). read_offers i accs (last_slot r.slot rs) (added_all (added totals r) rs) ls u) k

next_refused : (n accs last : ℕ) (totals : List ℕ) (ls : List (List ℕ)) (u : List ℕ) (x : Refusal) → OfferBreaks accs last (sums totals) n ls u x
    → read_offers n accs last totals ls u ≡ Refused x n
unfolding read_offers
next_refused n accs last totals [] u x (not_ended d) = passed _ _ _ (ne_eqb _ _ (λ z. d (nothing u z)))
next_refused n accs last totals (l ∷ ls) u x (not_shaped d) = go (is_offer_line (line_of l)) refl
  where
    go : (c : Bool) → is_offer_line (line_of l) ≡ c → after_offer n (offer_line accs last totals (line_of l)) (goes_on n accs totals ls u) ≡ Refused Shape n
    go true p = absurd (d (request_of (line_of l).values) (request_digits l p) (request_written l p))
    go false p = ap (λ (o : Result Request Refusal). after_offer n o (goes_on n accs totals ls u)) (offer_shape accs last totals (line_of l) p)
next_refused n accs last totals (l ∷ ls) u x (breaks q d w e) = go (offer_line accs last totals (line_of l)) (offer_rules_lem n accs last totals l q d w ∙ e)
  where
    go : (o : Result Request Refusal) → after_offer n o (λ r. Accepted) ≡ Refused x n → after_offer n o (goes_on n accs totals ls u) ≡ Refused x n
    go (Err y) e = e
    go (Ok r) e = clash cc

module _ (t : Tree) (s : List ℕ) (k : tree_keeps t ≡ true) where
  m : t.accs ≤ 32
  m = (sound t k).most_accs

  summed : (rs : List Request) → all_in_range t.accs rs ≡ true → (λ (a : ℕ). total_for a rs) ≡ sums (added_all no_totals rs)
  summed rs g = λ i a. at a i
    where
      at : (a : ℕ) → total_for a rs ≡ get_or (added_all no_totals rs) a 0
      at a = omega (arith, all_added rs t.accs no_totals m refl g a, none 32 a)

  there : (r : Refusal) (n : ℕ) → length s ≤ 65536 → read_trace t s ≡ Refused r n → TraceBreaks t.accs s r n
  there r n h e =
      let F = found (lines s) 1 t.accs 0 no_totals (unended s) r n m refl (sym (trace_start_lem t s k h) ∙ e) in
      record {
        before = F.before;
        after = F.after;
        split = F.split;
        keeps = record { range = F.range; order = F.order; total = λ a. omega (arith, F.total a (omega (arith, none 32 a)), none 32 a) };
        line = F.line;
        breaks = subst (λ (f : ℕ → ℕ). OfferBreaks t.accs (last_slot 0 F.before) f n F.after (unended s) r)
            (sym (summed F.before F.range)) F.first;
      }

  back : (r : Refusal) (n : ℕ) → length s ≤ 65536 → TraceBreaks t.accs s r n → read_trace t s ≡ Refused r n
  back r n h F =
      let G = F.keeps in
      let b = subst (λ (f : ℕ → ℕ). OfferBreaks t.accs (last_slot 0 F.before) f n F.after (unended s) r)
      (summed F.before G.range) F.breaks in
      trace_start_lem t s k h
      ∙ ap (λ (ls : List (List ℕ)). read_offers 1 t.accs 0 no_totals ls (unended s)) F.split
      ∙ led F.before 1 t.accs 0 no_totals F.after (unended s) m refl G.order G.range (λ a. omega (arith, G.total a, none 32 a))
      ∙ ap (λ (i : ℕ). read_offers i t.accs (last_slot 0 F.before) (added_all no_totals F.before) F.after (unended s)) (sym F.line)
      ∙ next_refused n t.accs (last_slot 0 F.before) (added_all no_totals F.before) F.after (unended s) r b

  -- "File size comes first, then lines in order": a refusal's number and line are those of the first rule broken
  pub trace_refused : (r : Refusal) (n : ℕ) → (read_trace t s ≡ Refused r n) ↔ TraceRefused t.accs s r n
  trace_refused r n = (λ e. elim (dec_lt 65536 (length s)) [ yes h ↦ long h e | no h ↦ at_line (omega arith) (there r n (omega arith) e) ], given r n)
    where
      long : 65536 < length s → read_trace t s ≡ Refused r n → TraceRefused t.accs s r n
      long h e =
          let q = same_refusal {x = r} {y = Limit} (sym (trace_size t s k h) ∙ e) in
          subst (λ (i : ℕ). TraceRefused t.accs s r i) q.1 (subst (λ (x : Refusal). TraceRefused t.accs s x 0) q.0 (too_long h))

      given : (r : Refusal) (n : ℕ) → TraceRefused t.accs s r n → read_trace t s ≡ Refused r n
      given r n (too_long h) = trace_size t s k h
      given r n (at_line h F) = back r n h F
