-- The lines of an accepted trace, walked from its bytes: where bytes are left, a request stands there, it is the next of the
-- trace's requests, and what follows its line is accepted too. By the steps of the reader's walk.
use Rattle.std.specs.Prelude.{Option, Some, None}
use Prim.Native.Nat.{ℕ, suc, zero, ◌+◌, ◌-◌, ◌*◌, ◌≤◌, ◌<◌}
use mathlib.Core.List.{List, [], ◌∷◌}
use mathlib.Core.Path.{◌≡◌, refl, sym, ◌∙◌, ap, subst}
use native.Mathlib.Decide.{dec_lt, ℕ_discrete}
use native.Mathlib.Omega.{arith}
use lib.Dec.{eqb}
use lib.ListN.{length, set}
use lib.Seq.{get_or-set_same, get_or-set_other, set_out}
use borrow.Author.Tests.{le-leb, lt-leb, eq-eqb, ne_eqb}
use Rattle.model.specs.declared.Tree.{Tree}
use Rattle.folds.proofs.Folds.{picked, passed, clash}
use Rattle.rules.proofs.Sound.{sound}
use Rattle.trace.specs.declared.Request.{Request}
use Rattle.machine.specs.Machine.{last_slot}
use Rattle.lines.specs.Answer.{Accepted}
use Rattle.trace.specs.TraceFile.{added, no_totals, read_trace, request_at}
use Rattle.trace.proofs.Traces.{trace_start_lem}
use Rattle.trace.proofs.Requests.{accepted_trace, same_request, Step, walk_step, walk_end}
use Rattle.runner.specs.Offers.{held_of}
use Rattle.runner.specs.Run.{hold, held_with, left_after}
use Rattle.runner.specs.declared.NextLine.{NextLine}
use Rattle.runner.specs.Places.{left_at, Accepts}
use Rattle.runner.specs.Due.{line_at, Taken, taken, hold_on, join_on, due_on}
use Rattle.runner.proofs.Due.{found, left, left_none, left_later, left_step, on_none, on_some}

-- the slot of the first line of rs; none is due in any slot of a run where no line is left
abbrev pub due_of : List Request → ℕ
due_of [] = last_slot
due_of (r ∷ rs) = r.slot

-- the held counts h are at most 255 for each byte before `at`, so that adding a line's count fits
abbrev pub Room : List ℕ → ℕ → Type 0
Room h at = (a : ℕ) → held_of h a ≤ 255 * at

-- x is a place in trace s from which its lines can be walked, with a slot before which the line there is not due, and h are the
-- held counts
pub record AtLine (s h : List ℕ) (x : NextLine) : Type 0 where
  pub accepts : Accepts s x.at
  pub room : Room h x.at
  pub due : x.due ≤ due_of (left_at s x.at)

-- x has the lines due in slot n, from the place `at` on, added to the held counts h, and its line is the next one then
pub record NextOf (n : ℕ) (s h : List ℕ) (at : ℕ) (x : Taken) : Type 0 where
  pub held : x.held ≡ held_with n h (left_at s at)
  pub left : left_at s x.line.at ≡ left_after n (left_at s at)
  pub line : AtLine s x.held x.line

-- the request r stands at a place of an accepted trace, and its line ends before the place p
pub record Next (s : List ℕ) (at : ℕ) (r : Request) (p : ℕ) : Type 0 where
  pub left : left_at s at ≡ r ∷ left_at s p
  pub later : at < p
  pub known : r.accelerator < 32
  pub accepts : Accepts s p

module _ (s : List ℕ) (at : ℕ) (A : Accepts s at) where
  here : at < length s → Step A.line A.accs A.last A.totals s at
  here h = walk_step A.line A.accs A.last A.totals s at A.most h A.accepted

  -- where bytes are left, a request stands there
  pub line_some : at < length s → request_at s at ≡ None → ⊥
  line_some h e = let x = (here h).found in clash cc

  pub line_next : at < length s → (r : Request) (p : ℕ) → request_at s at ≡ Some (r, p) → Next s at r p
  line_next h r p e =
      let x = here h in
      let d = x.found in
      let same = same_request _ _ _ _ (sym d ∙ e) in
      let q = same.0 in
      let m = same.1 in
      subst (Next s at r) m
      (subst (λ (y : Request). Next s at y x.place) q
      (record {
        left = x.first;
        later = x.on;
        known = omega (arith, x.known, A.most);
        accepts = record {
          line = A.line + 1;
          accs = A.accs;
          last = x.request.slot;
          totals = added A.totals x.request;
          most = A.most;
          inside = x.within;
          short = A.short;
          accepted = x.left;
        };
      }))

  -- no line is left exactly at the end
  pub left_ends : eqb at (length s) ≡ eqb (length (left_at s at)) 0
  left_ends = elim (dec_lt at (length s)) [
    | yes h ↦
        let some : length (left_at s at) ≡ 0 → ⊥ = λ e. omega (arith, ap length (here h).first) in
        ne_eqb at (length s) (omega arith) ∙ sym (ne_eqb (length (left_at s at)) 0 some)
    | no d ↦
        eq-eqb at (length s) (omega (arith, A.inside))
        ∙ sym (eq-eqb (length (left_at s at)) 0 (ap length (walk_end s at (omega arith)).1))
  ]

-- an accepted trace is accepted from its first byte on
pub accepts_start : (t : Tree) (s : List ℕ) → read_trace t s ≡ Accepted → Accepts s 0
accepts_start t s e =
    let a = accepted_trace t s e in
    record {
      line = 1;
      accs = t.accs;
      last = 0;
      totals = no_totals;
      most = (sound t a.keeps).most_accs;
      inside = omega arith;
      short = a.size;
      accepted = sym (trace_start_lem t s a.keeps a.size) ∙ e;
    }

-- no line is due where none is left, or the next one is later; else it is added
module _ (n : ℕ) (h : List ℕ) where
  none_due : (rs : List Request) → rs ≡ [] → (held_with n h rs ≡ h) × (left_after n rs ≡ rs)
  unfolding held_with left_after
  none_due [] e = (refl, refl)
  none_due (r ∷ rs) e = let l : ◌≡◌ {A = ℕ} (suc (length rs)) 0 = ap length e in absurd (omega arith)

  later_due : (rs qs : List Request) (r : Request) → rs ≡ r ∷ qs → n < r.slot → (held_with n h rs ≡ h) × (left_after n rs ≡ rs)
  unfolding held_with left_after
  later_due rs qs r e l =
      subst (λ (x : List Request). (held_with n h x ≡ h) × (left_after n x ≡ x)) (sym e) (passed _ _ _ (lt-leb _ _ l), passed _ _ _ (lt-leb _ _ l))

  now_due : (rs qs : List Request) (r : Request) → rs ≡ r ∷ qs → r.slot ≤ n
      → (held_with n h rs ≡ held_with n (hold h r) qs) × (left_after n rs ≡ left_after n qs)
  unfolding held_with left_after
  now_due rs qs r e l =
      subst (λ (x : List Request). (held_with n h x ≡ held_with n (hold h r) qs) × (left_after n x ≡ left_after n qs)) (sym e)
      (picked _ _ _ (le-leb _ _ l), picked _ _ _ (le-leb _ _ l))

-- a line's count fits beside what is held
hold_room : (h : List ℕ) (at p : ℕ) (r : Request) → Room h at → r.count < 256 → at < p → Room (hold h r) p
hold_room h at p r R c m a = elim (ℕ_discrete a r.accelerator) [
  | yes e ↦ elim (dec_lt r.accelerator (length h)) [
    | yes l ↦
        subst (λ (x : ℕ). held_of (hold h r) x ≤ 255 * p) (sym e)
        (omega (arith, get_or-set_same h r.accelerator (held_of h r.accelerator + r.count) 0 l, R r.accelerator))
    | no d ↦ omega (arith, ap (λ (x : List ℕ). held_of x a) (set_out h r.accelerator (held_of h r.accelerator + r.count) (omega arith)), R a)
  ]
  | no d ↦ omega (arith, get_or-set_other h r.accelerator a (held_of h r.accelerator + r.count) 0 d, R a)
]

-- so that a count held in 32 bits is the count itself
hold_same : (h : List ℕ) (at : ℕ) (r : Request) → Room h at → at ≤ 65536 → r.count < 256 → hold_on h r ≡ hold h r
hold_same h at r R m c = ap (set h r.accelerator) (omega (arith, R r.accelerator))

-- the lines due, between two of them: what is left to add from here is what was left at the start
module _ (n : ℕ) (s : List ℕ) (h₀ : List ℕ) (at₀ : ℕ) where
  pub record Taking (h : List ℕ) (at : ℕ) : Type 0 where
    pub accepts : Accepts s at
    pub room : Room h at
    pub held : held_with n h₀ (left_at s at₀) ≡ held_with n h (left_at s at)
    pub left : left_after n (left_at s at₀) ≡ left_after n (left_at s at)

  ends : (h : List ℕ) (z at n' : ℕ) → Taking h at → n' ≤ due_of (left_at s at)
      → (held_with n h (left_at s at) ≡ h) × (left_after n (left_at s at) ≡ left_at s at) → NextOf n s h₀ at₀ (taken h z (line_at at n'))
  ends h z at n' T d e = record {
    held = sym (T.held ∙ e.0);
    left = sym (T.left ∙ e.1);
    line = record { accepts = T.accepts; room = T.room; due = d };
  }

  all_taken : (h : List ℕ) (z at : ℕ) → Taking h at → length s ≤ at → NextOf n s h₀ at₀ (taken h z (line_at at last_slot))
  all_taken h z at T l =
      let e = (walk_end s at l).1 in
      ends h z at last_slot T (subst (λ (rs : List Request). last_slot ≤ due_of rs) (sym e) (omega arith)) (none_due n h (left_at s at) e)

  -- one line of the walk; what follows a request that is due is left to the caller
  walk_one : (h : List ℕ) (z at : ℕ) → Taking h at → (q : Option (Request × ℕ)) → request_at s at ≡ q
      → ((r : Request) (p : ℕ) → Next s at r p → Taking (hold h r) p → NextOf n s h₀ at₀ (left n s p (hold h r) (join_on z r)))
      → NextOf n s h₀ at₀ (left n s at h z)
  walk_one h z at T None e f = elim (dec_lt at (length s)) [
    | yes l ↦ absurd (line_some s at T.accepts l e)
    | no d ↦ subst (NextOf n s h₀ at₀) (sym (left_none n s at h z e)) (all_taken h z at T (omega arith))
  ]
  walk_one h z at T (Some (r, p)) e f =
      let F = found s at r p e in
      let N = line_next s at T.accepts (omega (arith, F.later, F.inside)) r p e in
      elim (dec_lt n r.slot) [
        | yes l ↦
            subst (NextOf n s h₀ at₀) (sym (left_later n s at h z r p e l))
            (ends h z at r.slot T (subst (λ (rs : List Request). r.slot ≤ due_of rs) (sym N.left) (omega arith)) (later_due n h (left_at s at) (left_at s p) r N.left l))
        | no d ↦
            let m = now_due n h (left_at s at) (left_at s p) r N.left (omega arith) in
            let fits = hold_same h at r T.room (omega (arith, T.accepts.inside, T.accepts.short)) (omega (arith, F.few)) in
            subst (NextOf n s h₀ at₀) (sym (left_step n s at h z r p e (omega arith) ∙ ap (λ (l : List ℕ). left n s p l (join_on z r)) fits))
            (f r p N
            (record {
              accepts = N.accepts;
              room = hold_room h at p r T.room (omega (arith, F.few)) N.later;
              held = T.held ∙ m.0;
              left = T.left ∙ m.1;
            }))
      ]

  walked : (k : ℕ) (h : List ℕ) (z at : ℕ) → length s - at ≤ k → Taking h at → NextOf n s h₀ at₀ (left n s at h z)
  walked zero h z at m T = subst (NextOf n s h₀ at₀) (sym (left_none n s at h z (walk_end s at (omega arith)).0)) (all_taken h z at T (omega arith))
  walked (suc k) h z at m T = walk_one h z at T (request_at s at) refl (λ r p N T₁. walked k (hold h r) (join_on z r) p (omega (arith, N.later)) T₁)

-- before the slot of the next line none is due
pub not_due : (n : ℕ) (h : List ℕ) (rs : List Request) → n < due_of rs → (held_with n h rs ≡ h) × (left_after n rs ≡ rs)
unfolding held_with left_after
not_due n h [] l = (refl, refl)
not_due n h (r ∷ rs) l = later_due n h (r ∷ rs) rs r refl l

-- from the next line of an accepted trace on, the walk adds the lines due of the definition
pub due_taken : (n : ℕ) (s h : List ℕ) (x : NextLine) → AtLine s h x → NextOf n s h x.at (due_on n s x h)
due_taken n s h x A = elim (dec_lt n x.due) [
  | yes l ↦
      let e = not_due n h (left_at s x.at) (omega (arith, A.due)) in
      subst (NextOf n s h x.at) (sym (on_none n s x h l)) (record { held = sym e.0; left = sym e.1; line = A })
  | no d ↦
      subst (NextOf n s h x.at) (sym (on_some n s x h (omega arith)))
      (walked n s h x.at (length s) h 0 x.at (omega arith) (record { accepts = A.accepts; room = A.room; held = refl; left = refl }))
]
