-- The k-th transaction of an accelerator that is served is the k-th that was admitted: a ticket moves up by one at each service of
-- its accelerator, and by nothing else.
--
-- At x k q              ticket x is in the queue q behind k others
use Prim.Native.Nat.{ℕ, suc, ◌+◌, ◌-◌, ◌*◌, ◌≤◌, ◌<◌}
use mathlib.Core.Bool.{Bool, true, false}
use mathlib.Core.List.{List, [], ◌∷◌, ◌++◌, append_assoc}
use mathlib.Core.Path.{◌≡◌, refl, sym, ◌∙◌, ap, subst}
use native.Mathlib.Decide.{dec_lt}
use native.Mathlib.Omega.{arith}
use lib.Dec.{eqb}
use lib.ListN.{length}
use borrow.Author.Tests.{eq-eqb}
use Rattle.model.specs.declared.Tree.{Tree}
use Rattle.model.specs.declared.State.{State}
use Rattle.folds.specs.Fold.{pick}
use Rattle.model.specs.Tree.{waiting_of}
use Rattle.rules.specs.Rules.{keeps}
use Rattle.shares.specs.Shares.{share_of}
use Rattle.folds.proofs.Folds.{picked}
use Rattle.rules.proofs.Sound.{kept_of}
use Rattle.machine.specs.Machine.{Answer, admitted, served, idle, refused}
use Rattle.machine.specs.Calls.{Call, offer, slot, state_after}
use Rattle.guarantee.specs.Guarantee.{Event, event, events_of, Ticket, admitted_by, without_first, call_moves, moved, queue_from, starting_queue, queue_after, slots_in, others_in, admits_one, up_to, ServedWithin, Holds, here, Guarantee}
use Rattle.guarantee.proofs.Leads.{Does, admits, declines, serves, idles, halts, Leads, stay, go, calls_lead, leads_start, parts}
use Rattle.guarantee.proofs.Events.{slots_append}
use Rattle.guarantee.proofs.Consequences.{waits_until_served}
use Rattle.guarantee.proofs.Queue.{start_length, queue_append, queue_length}
use Rattle.guarantee.specs.Windows.{admissions_by}
use Rattle.runs.specs.Waits.{serves_one, services_of, InTime}

pub services_append : (a : ℕ) (es fs : List Event) → services_of a (es ++ fs) ≡ services_of a es + services_of a fs
unfolding services_of
services_append a [] fs = omega arith
services_append a (e ∷ es) fs = omega (arith, services_append a es fs)

pub balance_step : (t : Tree) (s m : State) (a : ℕ) (c : Call) (x : Answer) → Does t s c x m
    → serves_one a x c + waiting_of m a ≡ waiting_of s a + admits_one a x c
balance_step t s m a c x (admits A) = omega (arith, A.waiting a)
balance_step t s m a c x (declines w) = omega arith
balance_step t s m a c x (serves v) = omega (arith, v.waiting a)
balance_step t s m a c x (idles i) = omega (arith, i.waiting a)
balance_step t s m a c x (halts f) = omega arith

-- what is admitted is served or waits
pub balance : {t : Tree} {s r : State} {es : List Event} (a : ℕ) → Leads t s es r
    → services_of a es + waiting_of r a ≡ waiting_of s a + admissions_by a es
unfolding services_of admissions_by
balance a (stay k) = omega arith
balance {t} {s} a (go {m = m} {e = v} k d w) = omega (arith, balance a w, balance_step t s m a v.call v.answer d)

pub data At (x : Ticket) : ℕ → List Ticket → Type 0 where
  at_first : {q : List Ticket} → At x 0 (x ∷ q)
  at_behind : {y : Ticket} {q : List Ticket} {k : ℕ} → At x k q → At x (suc k) (y ∷ q)

at_last : (x : Ticket) (q : List Ticket) → At x (length q) (q ++ x ∷ [])
at_last x [] = at_first
at_last x (y ∷ q) = at_behind (at_last x q)

at_append : (z : Ticket) {x : Ticket} {k : ℕ} {q : List Ticket} → At x k q → At x k (q ++ z ∷ [])
at_append z at_first = at_first
at_append z (at_behind h) = at_behind (at_append z h)

at_without : {x : Ticket} {k : ℕ} {q : List Ticket} → At x (suc k) q → At x k (without_first q)
at_without (at_behind h) = h

pub at_some : {x : Ticket} {k : ℕ} {q : List Ticket} → At x k q → 0 < length q
at_some at_first = omega arith
at_some (at_behind h) = omega arith

pub at_found : {x : Ticket} {q : List Ticket} (k : ℕ) → k ≡ 0 → At x k q → (others : List Ticket) × (q ≡ x ∷ others)
at_found k e (at_first {q}) = (q, refl)
at_found k e (at_behind h) = absurd (omega arith)

at_step : (x : Ticket) (a n k m : ℕ) (q : List Ticket) (c : Call) (y : Answer) → m ≡ serves_one a y c + k → At x m q → At x k (call_moves a n q y c)
at_step x a n k m q (offer b) admitted e h = put (eqb a b)
  where
    same : At x k q
    same = subst (λ i. At x i q) {x = m} {y = k} (omega arith) h

    put : (c : Bool) → At x k (pick c (q ++ admitted_by n ∷ []) q)
    put true = at_append (admitted_by n) same
    put false = same
at_step x a n k m q (offer b) (served i) e h = subst (λ i. At x i q) {x = m} {y = k} (omega arith) h
at_step x a n k m q (offer b) idle e h = subst (λ i. At x i q) {x = m} {y = k} (omega arith) h
at_step x a n k m q (offer b) (refused i) e h = subst (λ i. At x i q) {x = m} {y = k} (omega arith) h
at_step x a n k m q slot admitted e h = subst (λ i. At x i q) {x = m} {y = k} (omega arith) h
at_step x a n k m q slot (served b) e h = less (eqb a b) e
  where
    less : (c : Bool) → m ≡ pick c 1 0 + k → At x k (pick c (without_first q) q)
    less true f = at_without (subst (λ i. At x i q) {x = m} {y = suc k} (omega arith) h)
    less false f = subst (λ i. At x i q) {x = m} {y = k} (omega arith) h
at_step x a n k m q slot idle e h = subst (λ i. At x i q) {x = m} {y = k} (omega arith) h
at_step x a n k m q slot (refused i) e h = subst (λ i. At x i q) {x = m} {y = k} (omega arith) h

at_run : (x : Ticket) (a n k m : ℕ) (q : List Ticket) (es : List Event) → m ≡ services_of a es + k → At x m q → At x k (queue_from a n q es)
unfolding queue_from services_of
at_run x a n k m q [] e h = subst (λ i. At x i q) {x = m} {y = k} (omega arith) h
at_run x a n k m q (v ∷ es) e h =
    at_run x a (suc n) k (services_of a es + k) (moved a n q v) es refl
    (at_step x a n (services_of a es + k) m q v.call v.answer (omega arith) h)

-- after the events front comes an admission of accelerator a, later as many services of a as were admitted and not served before it
module _ (t : Tree) (s : State) (cs : List Call) (K : keeps t s ≡ true) (a : ℕ) (front mid rest : List Event)
    (E : events_of t s cs ≡ up_to a front (mid ++ rest)) (C : waiting_of s a + admissions_by a front ≡ services_of a (up_to a front mid)) where
  before : length (queue_after s a front) ≡ services_of a mid
  unfolding services_of
  before =
      let w = (parts front _ (subst (λ es. Leads t s es (state_after t s cs)) E (calls_lead t s cs K))).before in
      omega (
        arith,
        queue_length a 0 (starting_queue (waiting_of s a)) w (start_length (waiting_of s a)),
        balance a w,
        C,
        services_append a front (event (offer a) admitted ∷ mid),
      )

  following : (x : List Event) → queue_after s a (up_to a front x) ≡ queue_from a (suc (length front)) (queue_after s a front ++ admitted_by (length front) ∷ []) x
  unfolding queue_from
  following x =
      let q = queue_after s a front in
      let put : ℕ → List Ticket = λ n. pick (eqb a a) (q ++ admitted_by n ∷ []) q in
      queue_append a 0 (starting_queue (waiting_of s a)) front (event (offer a) admitted ∷ x)
      ∙ ap (λ n. queue_from a (suc n) (put n) x) {x = length front + 0} {y = length front} (omega arith)
      ∙ ap (λ r. queue_from a (suc (length front)) r x) (picked (eqb a a) (q ++ admitted_by (length front) ∷ []) q (eq-eqb a a refl))

  -- up to its service the ticket stands behind those that are served before it
  pub stands_at : (x y : List Event) → mid ≡ x ++ y → At (admitted_by (length front)) (services_of a y) (queue_after s a (up_to a front x))
  stands_at x y e =
      subst (At (admitted_by (length front)) (services_of a y)) (sym (following x))
      (at_run (admitted_by (length front)) a (suc (length front)) (services_of a y) (length (queue_after s a front)) _ x
      (omega (arith, before, ap (services_of a) e, services_append a x y)) (at_last (admitted_by (length front)) (queue_after s a front)))

  -- the transaction keeps demand 3: had it waited longer, its service would be that of the guarantee, which comes in time
  pub in_time : Guarantee t s cs → (others : List Ticket) → queue_after s a (up_to a front mid) ≡ admitted_by (length front) ∷ others
      → (later : List Event) → rest ≡ event slot (served a) ∷ later → InTime t s a front mid
  unfolding slots_in
  in_time G others first later e = record {
    own = before;
    slots = subst (λ (k : ℕ). slots_in mid < suc k * share_of t s.channel a) before soon;
    others = subst (λ (k : ℕ). others_in a mid ≤ suc k * (share_of t s.channel a - 1)) before
        (G.few_others front (mid ++ rest) a E mid rest refl (subst (Holds (admitted_by (length front))) (sym first) here));
  }
    where
      enough : slots_in mid + 1 ≤ slots_in (mid ++ rest)
      enough = omega (arith, slots_append mid rest, ap slots_in e)

      soon : slots_in mid < suc (length (queue_after s a front)) * share_of t s.channel a
      soon = elim (dec_lt (slots_in (mid ++ rest)) (suc (length (queue_after s a front)) * share_of t s.channel a)) [
        | yes l ↦ omega (arith, enough, l)
        | no d ↦
            let U = G.in_time front (mid ++ rest) a E (omega arith) in
            let own : ServedWithin s a front (mid ++ rest) (slots_in (mid ++ rest)) =
            record { mid = mid; rest = later; ending = ap (λ (es : List Event). mid ++ es) e; others = others; first = first; within = enough } in
            omega (arith, U.within, ap slots_in ((waits_until_served s).once a front (mid ++ rest) _ _ U own))
      ]

  -- what happens meanwhile happens in the list
  among : (x y : List Event) (e : Event) → mid ≡ x ++ e ∷ y → events_of t s cs ≡ up_to a front x ++ e ∷ (y ++ rest)
  among x y e q =
      E ∙ ap (λ (es : List Event). up_to a front (es ++ rest)) q
      ∙ ap (up_to a front) (append_assoc x (e ∷ y) rest)
      ∙ sym (append_assoc front (event (offer a) admitted ∷ x) (e ∷ (y ++ rest)))

  -- no slot is idle meanwhile
  pub never_idle : Guarantee t s cs → a < t.accs → (x y : List Event) → mid ≡ x ++ event slot idle ∷ y → ⊥
  never_idle G la x y q =
      omega (
        arith,
        at_some (stands_at x (event slot idle ∷ y) q),
        ap length (G.idle_finds_none (up_to a front x) (y ++ rest) (among x y (event slot idle) q) a la),
      )

  -- whoever is served meanwhile is an accelerator of the tree: no other has anything waiting
  pub served_known : Guarantee t s cs → (x y : List Event) (b : ℕ) → mid ≡ x ++ event slot (served b) ∷ y → b < t.accs
  served_known G x y b q =
      let z = among x y (event slot (served b)) q in
      let P = parts (up_to a front x) _ (subst (λ es. Leads t s es (state_after t s cs)) z (calls_lead t s cs K)) in
      elim (dec_lt b t.accs) [
        | yes l ↦ l
        | no d ↦ absurd (omega (
          arith,
          G.first_is_there (up_to a front x) (y ++ rest) b z,
          queue_length b 0 (starting_queue (waiting_of s b)) P.before (start_length (waiting_of s b)),
          (kept_of t P.state (leads_start P.after)).no_waiting b (omega arith),
        ))
      ]
