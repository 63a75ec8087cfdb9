-- The walk over the lines due, on any bytes: a request's line ends behind its place and within the bytes, so that the bytes left
-- are lines enough; a step of the walk is a step of the loop. By the clauses of the definitions, and by induction on the lines.
use Rattle.std.specs.Prelude.{Option, Some, None}
use Prim.Native.Nat.{ℕ, zero, suc, ◌+◌, ◌-◌, ◌^◌, ◌≤◌, ◌<◌}
use mathlib.Core.Bool.{Bool, true, false, ◌&&◌}
use mathlib.Core.List.{List}
use mathlib.Core.Path.{◌≡◌, refl, sym, ◌∙◌, ap}
use native.Mathlib.Omega.{arith}
use lib.Dec.{leb, ltb, lit<}
use lib.ListN.{length, get_or, take, drop}
use lib.Seq.{get_or-set_other}
use borrow.Author.Tests.{lt-ltb, le-ltb, leb-false, ltb-true, eqb-false}
use Rattle.folds.specs.Fold.{pick}
use Rattle.folds.proofs.Folds.{both, picked, passed, clash}
use Rattle.text.specs.Text.{part_length}
use Rattle.lines.specs.declared.Line.{Line}
use Rattle.lines.specs.Lines.{line_of, value_at, in_trace, shaped, limits_kept}
use Rattle.lines.specs.declared.Kind.TheVariants.{OfferLine}
use Rattle.lines.proofs.Limits.{most}
use Rattle.machine.specs.Machine.{last_slot}
use Rattle.trace.specs.declared.Request.{Request}
use Rattle.trace.specs.TraceFile.{request_at, request_of, is_offer}
use Rattle.trace.proofs.Requests.{same_request, walk_end}
use Rattle.admit.specs.Admitting.{is_in}
use Rattle.admit.proofs.Sets.{none_of, in_or, in_one}
use Rattle.runner.specs.declared.NextLine.{NextLine}
use Rattle.runner.specs.Offers.{held_of}
use Rattle.runner.specs.Due.{line_at, Taken, taken, hold_on, join_on, on_request, due_from, due_on}

-- the request r is found at a place, and its line ends before the place p
pub record Found (s : List ℕ) (at : ℕ) (r : Request) (p : ℕ) : Type 0 where
  pub later : at < p
  pub inside : p ≤ length s
  pub known : r.accelerator < 32
  pub few : r.count ≤ 16

pub found : (s : List ℕ) (at : ℕ) (r : Request) (p : ℕ) → request_at s at ≡ Some (r, p) → Found s at r p
unfolding request_at
found s at r p e = go (leb (length s) end) (is_offer l) refl refl e
  where
    end : ℕ
    end = at + part_length 10 (drop at s)

    l : Line
    l = line_of (take (part_length 10 (drop at s)) (drop at s))

    go : (b c : Bool) → leb (length s) end ≡ b → is_offer l ≡ c → pick {A = Option (Request × ℕ)} b None (pick c (Some (request_of l.values, end + 1)) None) ≡ Some (r, p) → Found s at r p
    go true c f g h = clash cc
    go false false f g h = clash cc
    go false true f g h =
        let G = both (in_trace l.kind && shaped l && limits_kept OfferLine l.values) (ltb (value_at l 1) 32) g in
        let known : value_at l 1 < 32 = ltb-true (value_at l 1) 32 G.1 in
        let few : get_or l.values 2 0 ≤ 16 = most OfferLine l.values (both (in_trace l.kind && shaped l) (limits_kept OfferLine l.values) G.0).1 2 (lit< tt) in
        let same = same_request _ _ _ _ h in
        let q = same.0 in
        let m = same.1 in
        record {
          later = omega (arith, m);
          inside = omega (arith, m, leb-false (length s) end f);
          known = omega (arith, known, ap (λ (x : Request). x.accelerator) q);
          few = omega (arith, few, ap (λ (x : Request). x.count) q);
        }

module _ (n : ℕ) (s : List ℕ) where
  -- nothing is added where no line begins; what follows the request r, whose line ends before p, by i lines at most
  abbrev nothing : ℕ → List ℕ → ℕ → Taken
  nothing at h z = taken h z (line_at at last_slot)

  abbrev follows : ℕ → ℕ → List ℕ → ℕ → Request → ℕ → Taken
  follows i at h z r p = pick (ltb n r.slot) (taken h z (line_at at r.slot)) (due_from i n s p (hold_on h r) (join_on z r))

  from_end : (k at : ℕ) (h : List ℕ) (z : ℕ) → request_at s at ≡ None → due_from k n s at h z ≡ nothing at h z
  unfolding due_from
  from_end zero at h z e = refl
  from_end (suc k) at h z e = ap (λ (q : Option (Request × ℕ)). on_request q (nothing at h z) (follows k at h z)) e

  same_from : (k m at : ℕ) (h : List ℕ) (z : ℕ) (q : Option (Request × ℕ)) → ((r : Request) (p : ℕ) → q ≡ Some (r, p) → follows k at h z r p ≡ follows m at h z r p)
      → on_request q (nothing at h z) (follows k at h z) ≡ on_request q (nothing at h z) (follows m at h z)
  same_from k m at h z None f = refl
  same_from k m at h z (Some (r, p)) f = f r p refl

  -- as many lines as bytes are left are enough
  enough : (k m at : ℕ) (h : List ℕ) (z : ℕ) → length s - at ≤ k → length s - at ≤ m → due_from k n s at h z ≡ due_from m n s at h z
  unfolding due_from
  enough zero m at h z a b = sym (from_end m at h z (walk_end s at (omega arith)).0)
  enough (suc k) zero at h z a b = from_end (suc k) at h z (walk_end s at (omega arith)).0
  enough (suc k) (suc m) at h z a b =
      same_from k m at h z (request_at s at)
      (λ r p e. let F = found s at r p e in
      ap (λ (x : Taken). pick (ltb n r.slot) (taken h z (line_at at r.slot)) x)
      (enough k m p (hold_on h r) (join_on z r) (omega (arith, F.later, F.inside)) (omega (arith, F.later, F.inside))))

  abbrev pub left : ℕ → List ℕ → ℕ → Taken
  left at h z = due_from (length s - at) n s at h z

  pub left_none : (at : ℕ) (h : List ℕ) (z : ℕ) → request_at s at ≡ None → left at h z ≡ nothing at h z
  left_none at h z e = from_end (length s - at) at h z e

  module _ (at : ℕ) (h : List ℕ) (z : ℕ) (r : Request) (p : ℕ) (e : request_at s at ≡ Some (r, p)) where
    one : left at h z ≡ follows (length s - at - 1) at h z r p
    unfolding due_from
    one =
        let F = found s at r p e in
        let m : length s - at ≡ suc (length s - at - 1) = omega (arith, F.later, F.inside) in
        ap (λ (k : ℕ). due_from k n s at h z) m ∙ ap (λ (q : Option (Request × ℕ)). on_request q (nothing at h z) (follows (length s - at - 1) at h z)) e

    pub left_later : n < r.slot → left at h z ≡ taken h z (line_at at r.slot)
    left_later l = one ∙ picked _ _ _ (lt-ltb _ _ l)

    pub left_step : r.slot ≤ n → left at h z ≡ left p (hold_on h r) (join_on z r)
    left_step l =
        let F = found s at r p e in
        one ∙ passed _ _ _ (le-ltb _ _ l) ∙ enough _ _ p (hold_on h r) (join_on z r) (omega (arith, F.later, F.inside)) (omega arith)

-- the next line is not looked at before it is due
pub on_none : (n : ℕ) (s : List ℕ) (x : NextLine) (h : List ℕ) → n < x.due → due_on n s x h ≡ taken h 0 x
unfolding due_on
on_none n s x h l = picked _ _ _ (lt-ltb _ _ l)

pub on_some : (n : ℕ) (s : List ℕ) (x : NextLine) (h : List ℕ) → x.due ≤ n → due_on n s x h ≡ left n s x.at h 0
unfolding due_on
on_some n s x h l = passed _ _ _ (le-ltb _ _ l)

-- an accelerator outside the set of those whose lines are due was not in it before, and holds as many as before
record Outside (a : ℕ) (h : List ℕ) (z : ℕ) (x : Taken) : Type 0 where
  set : is_in z a ≡ false
  held : held_of x.held a ≡ held_of h a

module _ (n : ℕ) (s : List ℕ) (a : ℕ) where
  abbrev Leaves : List ℕ → ℕ → Taken → Type 0
  Leaves h z x = is_in x.accelerators a ≡ false → Outside a h z x

  nothing_left : (h : List ℕ) (z : ℕ) (x : NextLine) → Leaves h z (taken h z x)
  nothing_left h z x e = record { set = e; held = refl }

  -- one more accelerator in the set: a is neither in it nor that one
  joined : (h : List ℕ) (z : ℕ) (r : Request) (x : Taken) → Outside a (hold_on h r) (join_on z r) x → Outside a h z x
  joined h z r x O =
      let e = none_of (is_in z a) (is_in (2 ^ r.accelerator) a) (sym (in_or z (2 ^ r.accelerator) a) ∙ O.set) in
      let d = eqb-false a r.accelerator (sym (in_one r.accelerator a) ∙ e.1) in
      record { set = e.0; held = O.held ∙ get_or-set_other h r.accelerator a _ 0 d }

  from_leaves : (k at : ℕ) (h : List ℕ) (z : ℕ) → Leaves h z (due_from k n s at h z)
  unfolding due_from
  from_leaves zero at h z = nothing_left h z _
  from_leaves (suc k) at h z = by_request (request_at s at) (λ r p e. joined h z r _ (from_leaves k p (hold_on h r) (join_on z r) e))
    where
      by_request : (q : Option (Request × ℕ))
          → ((r : Request) (p : ℕ) → Leaves h z (due_from k n s p (hold_on h r) (join_on z r)))
          → Leaves h z (on_request q (nothing n s at h z) (follows n s k at h z))
      by_request None f = nothing_left h z _
      by_request (Some (r, p)) f = by_slot (ltb n r.slot)
        where
          by_slot : (b : Bool) → Leaves h z (pick b (taken h z (line_at at r.slot)) (due_from k n s p (hold_on h r) (join_on z r)))
          by_slot true = nothing_left h z _
          by_slot false = f r p

-- of an accelerator that has no line due as many are held as before
pub due_others : (n : ℕ) (s : List ℕ) (x : NextLine) (h : List ℕ) (a : ℕ) → is_in (due_on n s x h).accelerators a ≡ false
    → held_of (due_on n s x h).held a ≡ held_of h a
unfolding due_on
due_others n s x h a = go (ltb n x.due)
  where
    go : (b : Bool) → is_in (pick b (taken h 0 x) (due_from (length s - x.at) n s x.at h 0)).accelerators a ≡ false
        → held_of (pick b (taken h 0 x) (due_from (length s - x.at) n s x.at h 0)).held a ≡ held_of h a
    go true e = refl
    go false e = (from_leaves n s a (length s - x.at) x.at h 0 e).held
