-- What an accepted trace says: its requests are in order, within limits and totals, and walking the bytes gives them one
-- after the other. By induction on the lines, with what an accepted line says at each.
use Rattle.std.specs.Prelude.{Option, Some, None, Result, Ok, Err}
use Prim.Native.Nat.{ℕ, zero, suc, ◌+◌, ◌-◌, ◌≤◌, ◌<◌}
use mathlib.Core.Bool.{Bool, true, false}
use mathlib.Core.List.{List, [], ◌∷◌}
use mathlib.Core.Path.{◌≡◌, refl, sym, ◌∙◌, ap, subst}
use native.Mathlib.Decide.{dec_lt, ℕ_discrete}
use native.Mathlib.Omega.{arith}
use lib.Dec.{eqb, lit<}
use lib.ListN.{length, get_or, take, drop, replicate, length-set}
use lib.Seq.{get_or-set_same, get_or-set_other}
use borrow.Author.Tests.{lt-ltb, le-leb, eq-eqb, ne_eqb}
use Rattle.text.specs.Text.{part_length, lines, unended}
use Rattle.text.proofs.Parts.{lines_none, lines_next, part_fits}
use Rattle.model.specs.declared.Tree.{Tree}
use Rattle.model.specs.declared.Refusal.{Refusal}
use Rattle.model.specs.declared.Refusal.TheVariants.{Shape, Limit}
use Rattle.folds.specs.Fold.{pick}
use Rattle.rules.specs.Rules.{tree_keeps}
use Rattle.folds.proofs.Folds.{picked, passed, joined, clash}
use Rattle.rules.proofs.Sound.{sound}
use Rattle.lines.specs.declared.Kind.TheVariants.{OfferLine}
use Rattle.lines.specs.declared.Line.{Line}
use Rattle.trace.specs.declared.Request.{Request}
use Rattle.lines.specs.Answer.{FileAnswer, Accepted, Refused}
use Rattle.lines.specs.Lines.{line_of, value_at}
use Rattle.trace.specs.TraceFile.{total_of, added, offer_line, after_offer, read_offers, no_totals, read_trace}
use Rattle.trace.specs.TraceFile.{requests, rising, in_range, all_in_range, total_for, is_offer, request_at}
use Rattle.lines.proofs.Limits.{most, least}
use Rattle.trace.proofs.Offers.{same_some}
use Rattle.trace.proofs.Traces.{Good, offer_says, trace_from, request_done, request_line}
use Rattle.trace.proofs.Traces.{trace_broken, trace_size, trace_start_lem, trace_unended, trace_line}

pub not_accepted : {A : Type 0} (x : Refusal) (n : ℕ) → Refused x n ≡ Accepted → A
not_accepted x n e = clash cc

-- a line that reading goes on after was a request
pub taken_offer : (n : ℕ) (x : Result Request Refusal) (next : Request → FileAnswer) → after_offer n x next ≡ Accepted → (r : Request) × (x ≡ Ok r) × (next r ≡ Accepted)
taken_offer n (Err y) next e = not_accepted y n e
taken_offer n (Ok r) next e = (r, refl, e)

-- a request in its limits
pub good_range : (accs last : ℕ) (totals : List ℕ) (l : Line) (r : Request) → Good accs last totals l r → in_range accs r ≡ true
good_range accs last totals l r G =
    let v = l.values in
    let s = ap (λ (q : Request). q.slot) G.same in
    let c = ap (λ (q : Request). q.count) G.same in
    joined _ _ (joined _ _ (le-leb r.slot 4294967294 (omega (arith, most OfferLine v G.limits 0 (lit< tt)))) (lt-ltb _ _ G.known))
    (joined _ _ (le-leb 1 r.count (omega (arith, least OfferLine v G.limits 2 (lit< tt))))
    (le-leb r.count 16 (omega (arith, most OfferLine v G.limits 2 (lit< tt)))))

-- the totals after a request
pub added_total : (totals : List ℕ) (r : Request) (a : ℕ) → r.accelerator < length totals
    → get_or (added totals r) a 0 ≡ get_or totals a 0 + pick (eqb a r.accelerator) r.count 0
added_total totals r a h = elim (ℕ_discrete a r.accelerator) [
  | yes e ↦
      let b = r.accelerator in
      subst (λ (k : ℕ). get_or (added totals r) k 0 ≡ get_or totals k 0 + pick (eqb k b) r.count 0) (sym e)
      (get_or-set_same totals b _ 0 h ∙ ap (λ (k : ℕ). get_or totals b 0 + k) (sym (picked _ _ _ (eq-eqb b b refl))))
  | no d ↦ get_or-set_other totals r.accelerator a _ 0 d ∙ omega (arith, passed (eqb a r.accelerator) r.count 0 (ne_eqb _ _ d))
]

pub added_fits : (totals : List ℕ) (r : Request) (a : ℕ) → r.accelerator < length totals → total_of totals r.accelerator + r.count ≤ 65535
    → get_or totals a 0 ≤ 65535 → get_or (added totals r) a 0 ≤ 65535
added_fits totals r a h k m = elim (ℕ_discrete a r.accelerator) [
  | yes e ↦ subst (λ (i : ℕ). get_or (added totals r) i 0 ≤ 65535) (sym e)
      (omega (arith, get_or-set_same totals r.accelerator (total_of totals r.accelerator + r.count) 0 h))
  | no d ↦ omega (arith, get_or-set_other totals r.accelerator a (total_of totals r.accelerator + r.count) 0 d)
]

pub record Sound-requests (accs last : ℕ) (totals : List ℕ) (rs : List Request) : Type 0 where
  pub order : rising last rs ≡ true
  pub range : all_in_range accs rs ≡ true
  pub total : (a : ℕ) → get_or totals a 0 ≤ 65535 → get_or totals a 0 + total_for a rs ≤ 65535

sound_lines : (ls : List (List ℕ)) (n accs last : ℕ) (totals u : List ℕ) → length totals ≡ 32 → accs ≤ 32
    → read_offers n accs last totals ls u ≡ Accepted → Sound-requests accs last totals (requests ls)
unfolding read_offers requests rising all_in_range total_for
sound_lines [] n accs last totals u z m e = record { order = refl; range = refl; total = λ a h. omega arith }
sound_lines (l ∷ ls) n accs last totals u z m e =
    let o = taken_offer n (offer_line accs last totals (line_of l)) _ e in
    let r = o.0 in
    let G = offer_says accs last totals (line_of l) r o.1 in
    let S = sound_lines ls (n + 1) accs r.slot (added totals r) u (length-set totals r.accelerator _ ∙ z) m o.2 in
    let h : r.accelerator < length totals = omega (arith, G.known) in
    subst (λ (q : Request). Sound-requests accs last totals (q ∷ requests ls)) (sym G.same)
    (record {
      order = joined _ _ (le-leb _ _ G.rising) S.order;
      range = joined _ _ (good_range accs last totals (line_of l) r G) S.range;
      total = λ a b. omega (arith, S.total a (added_fits totals r a h G.total b), added_total totals r a h);
    })

-- a trace is read on a tree that keeps its rules, and has at most 65,536 bytes
accepted_start : (t : Tree) (s : List ℕ) → read_trace t s ≡ Accepted → (tree_keeps t ≡ true) × (length s ≤ 65536)
accepted_start t s e = go (tree_keeps t) refl
  where
    go : (c : Bool) → tree_keeps t ≡ c → (tree_keeps t ≡ true) × (length s ≤ 65536)
    go false f = let q = sym (trace_broken t s f) ∙ e in clash cc
    go true f = elim (dec_lt 65536 (length s)) [
      | yes h ↦ not_accepted Limit 0 (sym (trace_size t s f h) ∙ e)
      | no h ↦ (f, omega arith)
    ]

-- an accepted trace: its slots do not fall, each request is in its limits and of an accelerator of the tree, and one
-- accelerator's counts total at most 65,535
pub record Accepted-trace (t : Tree) (s : List ℕ) : Type 0 where
  pub keeps : tree_keeps t ≡ true
  pub size : length s ≤ 65536
  pub order : rising 0 (requests (lines s)) ≡ true
  pub range : all_in_range t.accs (requests (lines s)) ≡ true
  pub total : (a : ℕ) → total_for a (requests (lines s)) ≤ 65535

pub accepted_trace : (t : Tree) (s : List ℕ) → read_trace t s ≡ Accepted → Accepted-trace t s
accepted_trace t s e =
    let b = accepted_start t s e in
    let S = sound_lines (lines s) 1 t.accs 0 no_totals (unended s) refl (sound t b.0).most_accs (sym (trace_start_lem t s b.0 b.1) ∙ e) in
    record {
      keeps = b.0;
      size = b.1;
      order = S.order;
      range = S.range;
      total = λ a. omega (arith, S.total a (omega (arith, none 32 a)), none 32 a);
    }
  where
    none : (n a : ℕ) → get_or {A = ℕ} (replicate n 0) a 0 ≡ 0
    none zero a = refl
    none (suc n) zero = refl
    none (suc n) (suc a) = none n a

-- two answers of `request_at` that are equal give the same request and the same place
pub same_request : (r q : Request) (p m : ℕ) → ◌≡◌ {A = Option (Request × ℕ)} (Some (r, p)) (Some (q, m)) → (r ≡ q) × (p ≡ m)
same_request r q p m e = let h = same_some e in (ap (λ (x : Request × ℕ). x.0) h, ap (λ (x : Request × ℕ). x.1) h)

-- one step of the walk: the request at a place, and what is left after it
pub record Step (n accs last : ℕ) (totals s : List ℕ) (at : ℕ) : Type 0 where
  pub request : Request
  pub place : ℕ
  pub on : at < place
  pub within : place ≤ length s
  pub found : request_at s at ≡ Some (request, place)
  pub first : requests (lines (drop at s)) ≡ request ∷ requests (lines (drop place s))
  pub due : last ≤ request.slot
  pub known : request.accelerator < accs
  pub left : trace_from (n + 1) accs request.slot (added totals request) s place ≡ Accepted

pub walk_step : (n accs last : ℕ) (totals s : List ℕ) (at : ℕ) → accs ≤ 32 → at < length s → trace_from n accs last totals s at ≡ Accepted
    → Step n accs last totals s at
unfolding requests
walk_step n accs last totals s at m h e = go (ℕ_discrete end (length s))
  where
    end : ℕ
    end = at + part_length 10 (drop at s)

    l : Line
    l = line_of (take (end - at) (drop at s))

    go : Dec (end ≡ length s) → Step n accs last totals s at
    go (yes q) = not_accepted Shape n (sym (trace_unended n accs last totals s at end h refl q) ∙ e)
    go (no q) =
        let o = taken_offer n (offer_line accs last totals l) (λ r. trace_from (n + 1) accs r.slot (added totals r) s (end + 1))
        (sym (trace_line n accs last totals s at end h refl q _ refl) ∙ e) in
        let G = offer_says accs last totals l o.0 o.1 in
        let f = part_fits 10 s at (omega arith) in
        let b : end < length s = omega arith in
        let k = ap (λ (r : Request). r.accelerator) G.same in
        let x : is_offer l ≡ true = joined _ _ (joined _ _ G.offer G.limits) (lt-ltb (value_at l 1) 32 (omega (arith, G.known))) in
        record {
          request = o.0;
          place = end + 1;
          on = omega arith;
          within = omega arith;
          found = request_line s at end refl b ∙ picked _ _ _ x ∙ ap (λ (r : Request). Some (r, end + 1)) G.same;
          first = ap requests (lines_next s at end (omega arith) refl b).0 ∙ ap (λ (r : Request). r ∷ requests (lines (drop (end + 1) s))) G.same;
          due = G.rising;
          known = G.known;
          left = o.2;
        }

-- the end of the walk
pub walk_end : (s : List ℕ) (at : ℕ) → length s ≤ at → (request_at s at ≡ None) × (requests (lines (drop at s)) ≡ [])
unfolding requests
walk_end s at h = (request_done s at (at + part_length 10 (drop at s)) refl (omega arith), ap requests (lines_none s at h).0)
