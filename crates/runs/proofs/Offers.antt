-- The offers of a run as calls: they come to the state of the defined offers, write no byte, and each admission takes one from
-- the held count of its accelerator. By induction on the offers, with what each does, by cases.
use Prim.Native.Nat.{ℕ, zero, suc, ◌+◌, ◌-◌, ◌≤◌, ◌<◌}
use mathlib.Core.List.{List, [], ◌∷◌, ◌++◌, append_assoc}
use mathlib.Core.Path.{◌≡◌, refl, sym, ◌∙◌, ap, ap₂, subst}
use native.Mathlib.Decide.{dec_lt, ℕ_discrete}
use native.Mathlib.Omega.{arith}
use lib.Dec.{eqb}
use lib.ListN.{length, length-set}
use lib.Seq.{get_or-set_other}
use borrow.Author.Tests.{eq-eqb, ne_eqb}
use Rattle.model.specs.declared.Tree.{Tree}
use Rattle.model.specs.declared.State.{State}
use Rattle.folds.specs.Fold.{pick}
use Rattle.folds.proofs.Folds.{picked, passed}
use Rattle.model.proofs.Lists.{beyond}
use Rattle.machine.specs.Machine.{Outcome, admitted, refused, offered, on_admitted}
use Rattle.machine.specs.Calls.{Call, offer, state_after}
use Rattle.machine.proofs.Cases.{Offered, refuses, admits, offer_cases}
use Rattle.guarantee.specs.Guarantee.{Event, event, events_of, slots_in}
use Rattle.runner.specs.Offers.{Offering}
use Rattle.runner.specs.Offers.{held_of, release, offering, offer_held, offer_each}
use Rattle.runner.proofs.Held.{release_own}
use Rattle.guarantee.specs.Windows.{admissions_by}
use Rattle.runs.specs.Calls.{offers_held, offers_each, bytes_in}
use Rattle.guarantee.proofs.Events.{state_append, events_append, slots_append}
use Rattle.runs.proofs.Events.{bytes_append, admissions_append}

-- the events es are offers that go from o to r, which has the state s
pub record Offers (o : Offering) (es : List Event) (s : State) (r : Offering) : Type 0 where
  pub state : s ≡ r.state
  pub bytes : bytes_in es ≡ []
  pub slots : slots_in es ≡ 0
  pub long : length r.held ≡ length o.held
  pub held : (a : ℕ) → a < length o.held → held_of r.held a + admissions_by a es ≡ held_of o.held a

abbrev Makes : Tree → Offering → List Call → Offering → Type 0
Makes t o cs r = Offers o (events_of t o.state cs) (state_after t o.state cs) r

makes_none : (t : Tree) (o : Offering) → Makes t o [] o
unfolding events_of state_after bytes_in slots_in admissions_by
makes_none t o = record { state = refl; bytes = refl; slots = refl; long = refl; held = λ a l. omega arith }

makes_both : (t : Tree) (o p r : Offering) (cs ds : List Call) → Makes t o cs p → Makes t p ds r → Makes t o (cs ++ ds) r
makes_both t o p r cs ds A B =
    let e : events_of t o.state (cs ++ ds) ≡ events_of t o.state cs ++ events_of t p.state ds =
    events_append t o.state cs ds ∙ ap (λ (s : State). events_of t o.state cs ++ events_of t s ds) A.state in
    record {
      state = state_append t o.state cs ds ∙ ap (λ (s : State). state_after t s ds) A.state ∙ B.state;
      bytes = ap bytes_in e ∙ bytes_append (events_of t o.state cs) (events_of t p.state ds) ∙ ap₂ (λ (x y : List ℕ). x ++ y) A.bytes B.bytes;
      slots = ap slots_in e ∙ omega (arith, slots_append (events_of t o.state cs) (events_of t p.state ds), A.slots, B.slots);
      long = B.long ∙ A.long;
      held = λ a l. omega (
        arith,
        ap (admissions_by a) e,
        admissions_append a (events_of t o.state cs) (events_of t p.state ds),
        A.held a l,
        B.held a (omega (arith, A.long)),
      );
    }

-- what is held is held by one of the 32
within : (h : List ℕ) (b : ℕ) → 0 < held_of h b → b < length h
within h b p = elim (dec_lt b (length h)) [
  | yes l ↦ l
  | no d ↦ absurd (omega (arith, beyond h 0 b (length h) refl (omega arith)))
]

release_count : (h : List ℕ) (a b : ℕ) → 0 < held_of h b → pick (eqb a b) 1 0 + held_of (release h b) a ≡ held_of h a
release_count h a b p = elim (ℕ_discrete a b) [
  | yes e ↦
      subst (λ (x : ℕ). pick (eqb x b) 1 0 + held_of (release h b) x ≡ held_of h x) (sym e)
      (omega (arith, picked {A = ℕ} (eqb b b) 1 0 (eq-eqb b b refl), release_own h b (within h b p)))
  | no d ↦ omega (arith, passed {A = ℕ} (eqb a b) 1 0 (ne_eqb a b d), get_or-set_other h b a (held_of h b - 1) 0 d)
]

module _ (k : ℕ) (t : Tree) (o : Offering) (b : ℕ) (p : 0 < held_of o.held b) where
  -- the offering after an offer that came out as x
  abbrev then : Outcome → Offering
  then x = offering x.state (release o.held b)

  one_more : (x : Outcome) → Offered t o.state b x → Makes t (then x) (offers_held k t (then x) b) (offer_held k t (then x) b)
      → Offers o
      (event (offer b) x.answer ∷ events_of t x.state (on_admitted x.answer (offers_held k t (then x) b) []))
      (state_after t x.state (on_admitted x.answer (offers_held k t (then x) b) []))
      (on_admitted x.answer (offer_held k t (then x) b) o)
  unfolding events_of state_after bytes_in slots_in admissions_by
  one_more x (refuses w) M = record { state = refl; bytes = refl; slots = refl; long = refl; held = λ a l. omega arith }
  one_more x (admits l h m) M = record {
    state = M.state;
    bytes = M.bytes;
    slots = omega (arith, M.slots);
    long = M.long ∙ length-set o.held b (held_of o.held b - 1);
    held = λ a q.
        omega (
          arith,
          M.held a (omega (arith, length-set o.held b (held_of o.held b - 1))),
          release_count o.held a b p,
        );
  }

makes_held : (k : ℕ) (t : Tree) (o : Offering) (b : ℕ) → k ≤ held_of o.held b → Makes t o (offers_held k t o b) (offer_held k t o b)
unfolding offers_held offer_held events_of state_after
makes_held zero t o b l = makes_none t o
makes_held (suc k) t o b l =
    let p : 0 < held_of o.held b = omega arith in
    one_more k t o b p (offered t o.state b) (offer_cases t o.state b)
    (makes_held k t (then k t o b p (offered t o.state b)) b (omega (arith, release_own o.held b (within o.held b p))))

pub makes_each : (n : ℕ) (t : Tree) (o : Offering) → Makes t o (offers_each n t o) (offer_each n t o)
unfolding offers_each offer_each
makes_each zero t o = makes_none t o
makes_each (suc n) t o =
    makes_both t o (offer_each n t o) _ (offers_each n t o) _ (makes_each n t o)
    (makes_held (held_of (offer_each n t o).held n) t (offer_each n t o) n (omega arith))

-- an offer of accelerator a among the events es that is refused, by this number, and the unrefused slots before it
pub record Refusal (a q : ℕ) (es : List Event) : Type 0 where
  pub front : List Event
  pub back : List Event
  pub number : ℕ
  pub place : es ≡ front ++ event (offer a) (refused number) ∷ back
  pub slots : slots_in front ≡ q

abbrev pub refusal_first : {a q : ℕ} {es : List Event} (fs : List Event) → Refusal a q es → Refusal a q (es ++ fs)
refusal_first {a} fs R = record {
  front = R.front;
  back = R.back ++ fs;
  number = R.number;
  place = ap (λ (xs : List Event). xs ++ fs) R.place ∙ append_assoc R.front (event (offer a) (refused R.number) ∷ R.back) fs;
  slots = R.slots;
}

abbrev pub refusal_then : {a q : ℕ} {fs : List Event} (es : List Event) (p : ℕ) → p ≡ slots_in es + q → Refusal a q fs → Refusal a p (es ++ fs)
refusal_then {a} es p e R = record {
  front = es ++ R.front;
  back = R.back;
  number = R.number;
  place = ap (λ (xs : List Event). es ++ xs) R.place ∙ sym (append_assoc es R.front (event (offer a) (refused R.number) ∷ R.back));
  slots = omega (arith, slots_append es R.front, R.slots);
}

-- where an accelerator offers all that it holds and some of it stays held, its last offer is refused
held_refused : (k : ℕ) (t : Tree) (o : Offering) (b : ℕ) → k ≡ held_of o.held b → 0 < held_of (offer_held k t o b).held b
    → Refusal b 0 (events_of t o.state (offers_held k t o b))
unfolding offers_held offer_held events_of slots_in
held_refused zero t o b e h = absurd (omega arith)
held_refused (suc k) t o b e h =
    go (offered t o.state b) (offer_cases t o.state b) h
    (λ g. held_refused k t (then k t o b p (offered t o.state b)) b (omega (arith, release_own o.held b (within o.held b p))) g)
  where
    p : 0 < held_of o.held b
    p = omega arith

    go : (x : Outcome) → Offered t o.state b x → 0 < held_of (on_admitted x.answer (offer_held k t (then k t o b p x) b) o).held b
        → (0 < held_of (offer_held k t (then k t o b p x) b).held b → Refusal b 0 (events_of t x.state (offers_held k t (then k t o b p x) b)))
        → Refusal b 0
        (event (offer b) x.answer ∷ events_of t x.state (on_admitted x.answer (offers_held k t (then k t o b p x) b) []))
    go x (refuses {n = n} w) g later = record { front = []; back = _; number = n; place = refl; slots = refl }
    go x (admits l u m) g later = refusal_then (event (offer b) admitted ∷ []) 0 refl (later g)

-- and so it is among the offers of all
pub each_refused : (n : ℕ) (t : Tree) (o : Offering) (a : ℕ) → length o.held ≡ 32 → a < n → n ≤ 32
    → 0 < held_of (offer_each n t o).held a → Refusal a 0 (events_of t o.state (offers_each n t o))
unfolding offers_each offer_each
each_refused zero t o a e l u h = absurd (omega arith)
each_refused (suc n) t o a e l u h = subst (Refusal a 0) (sym split) (elim (ℕ_discrete a n) [
  | yes d ↦ refusal_then front 0 (omega (arith, M.slots)) (subst (λ (b : ℕ). Refusal b 0 back) (sym d)
      (held_refused k t p n refl (subst (λ (b : ℕ). 0 < held_of (offer_held k t p n).held b) d h)))
  | no d ↦ refusal_first back (each_refused n t o a e (omega arith) (omega arith) (omega (arith, N.held a (omega (arith, M.long)))))
])
  where
    p : Offering
    p = offer_each n t o

    k : ℕ
    k = held_of p.held n

    front : List Event
    front = events_of t o.state (offers_each n t o)

    back : List Event
    back = events_of t p.state (offers_held k t p n)

    M : Makes t o (offers_each n t o) p
    M = makes_each n t o

    N : Makes t p (offers_held k t p n) (offer_held k t p n)
    N = makes_held k t p n (omega arith)

    split : events_of t o.state (offers_each n t o ++ offers_held k t p n) ≡ front ++ back
    split =
        events_append t o.state (offers_each n t o) (offers_held k t p n)
        ∙ ap (λ (s : State). front ++ events_of t s (offers_held k t p n)) M.state
