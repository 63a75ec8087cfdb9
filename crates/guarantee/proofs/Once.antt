-- A transaction is served once: its ticket is new when it is admitted, later events neither double it nor bring it back, so
-- it is first in its queue before one service alone, and waits up to that.
--
-- Once x q              ticket x is in the queue q at most once
-- Order xs x zs z       of two places in one list, before x after xs and before z after zs: the same, or one after the other
use Prim.Native.Nat.{ℕ, suc, ◌+◌, ◌<◌}
use mathlib.Core.List.{List, [], ◌∷◌, ◌++◌, append_assoc}
use mathlib.Core.Logic.{◌⊎◌, inl, inr}
use mathlib.Core.Path.{◌≡◌, refl, sym, ◌∙◌, ap, ap₂, subst}
use native.Mathlib.Decide.{ℕ_discrete}
use native.Mathlib.Omega.{arith}
use lib.ListN.{length, length-append}
use lib.Dec.{eqb}
use borrow.Author.Tests.{eq-eqb}
use Rattle.folds.proofs.Folds.{picked, clash}
use Rattle.model.specs.declared.State.{State}
use Rattle.model.specs.Tree.{waiting_of}
use Rattle.machine.specs.Machine.{admitted, served}
use Rattle.machine.specs.Calls.{offer, slot}
use Rattle.guarantee.specs.Guarantee.{Event, event, Ticket, waited_at_start, admitted_by, without_first, moved, queue_from, starting_queue, queue_after, up_to, ServedWithin, Holds, here, there, StillWaits}
use Rattle.guarantee.proofs.Queue.{queue_append, Absent, absent_nil, absent_append, after_event, gone, not_yet, not_at_start, queue_up_to}

data Once (x : Ticket) : List Ticket → Type 0 where
  none : Once x []
  this : {q : List Ticket} → Absent x q → Once x (x ∷ q)
  other : {y : Ticket} {q : List Ticket} → (y ≡ x → ⊥) → Once x q → Once x (y ∷ q)

absent_behind : {x : Ticket} {r : List Ticket} (q : List Ticket) → Once x r → r ≡ x ∷ q → Absent x q
absent_behind q none e = clash cc
absent_behind {x} q (this {q = p} f) e = let s : p ≡ q = cc e in subst (Absent x) s f
absent_behind {x} q (other {y = y} d o) e = let s : y ≡ x = cc e in absurd (d s)

absent_after : {x : Ticket} {q : List Ticket} → Once x (x ∷ q) → Absent x q
absent_after {q = q} o = absent_behind q o refl

absent_once : (x : Ticket) (q : List Ticket) → Absent x q → Once x q
absent_once x [] f = none
absent_once x (y ∷ q) f = other (λ e. f (subst (λ z. Holds x (z ∷ q)) (sym e) here)) (absent_once x q (λ h. f (there h)))

once_put : (x : Ticket) (q : List Ticket) → Absent x q → Once x (q ++ x ∷ [])
once_put x [] f = this (absent_nil x)
once_put x (y ∷ q) f = other (λ e. f (subst (λ z. Holds x (z ∷ q)) (sym e) here)) (once_put x q (λ h. f (there h)))

once_append : (j n : ℕ) → (j ≡ n → ⊥) → {q : List Ticket} → Once (admitted_by j) q → Once (admitted_by j) (q ++ admitted_by n ∷ [])
once_append j n d none = other {y = admitted_by n} (λ e. d (cc e)) none
once_append j n d (this {q = q} f) = this (absent_append j n d q f)
once_append j n d (other c o) = other c (once_append j n d o)

once_without : {x : Ticket} {q : List Ticket} → Once x q → Once x (without_first q)
once_without none = none
once_without {x} (this {q = q} f) = absent_once x q f
once_without (other d o) = o

once_later : (a j n : ℕ) → j < n → (q : List Ticket) (es : List Event) → Once (admitted_by j) q
    → Once (admitted_by j) (queue_from a n q es)
unfolding queue_from
once_later a j n l q [] o = o
once_later a j n l q (e ∷ es) o =
    once_later a j (suc n) (omega arith) (moved a n q e) es
    (after_event (Once (admitted_by j)) a n q e o (once_append j n (λ z. omega arith) o) (once_without o))

absent_other : (x y : Ticket) (q : List Ticket) → (x ≡ y → ⊥) → Absent x q → Absent x (y ∷ q)
absent_other x y q d f here = d refl
absent_other x y q d f (there h) = f h

holds_or_absent : (j : ℕ) (q : List Ticket) → Holds (admitted_by j) q ⊎ Absent (admitted_by j) q
holds_or_absent j [] = inr (absent_nil (admitted_by j))
holds_or_absent j (y ∷ q) = go y (holds_or_absent j q)
  where
    go : (y : Ticket) → Holds (admitted_by j) q ⊎ Absent (admitted_by j) q
        → Holds (admitted_by j) (y ∷ q) ⊎ Absent (admitted_by j) (y ∷ q)
    go y (inl h) = inl (there h)
    go (waited_at_start i) (inr f) = inr (absent_other (admitted_by j) (waited_at_start i) q (λ e. clash cc) f)
    go (admitted_by i) (inr f) = elim (ℕ_discrete j i) [
      | yes e ↦ inl (subst (λ n. Holds (admitted_by j) (admitted_by n ∷ q)) e here)
      | no d ↦ inr (absent_other (admitted_by j) (admitted_by i) q (λ e. d (cc e)) f)
    ]

data Order {A : Type 0} (xs : List A) (x : A) (zs : List A) (z : A) : Type 0 where
  same : xs ≡ zs → Order xs x zs z
  sooner : (vs : List A) → zs ≡ xs ++ x ∷ vs → Order xs x zs z
  later : (vs : List A) → xs ≡ zs ++ z ∷ vs → Order xs x zs z

order : {A : Type 0} (xs zs : List A) (x z : A) (ys ws : List A) → xs ++ x ∷ ys ≡ zs ++ z ∷ ws → Order xs x zs z
order [] [] x z ys ws e = same refl
order [] (v ∷ zs) x z ys ws e = sooner zs (ap (λ y. y ∷ zs) (cc e))
order (v ∷ xs) [] x z ys ws e = later xs (ap (λ y. y ∷ xs) (cc e))
order {A} (v ∷ xs) (u ∷ zs) x z ys ws e = go (order xs zs x z ys ws (cc e))
  where
    h : v ≡ u
    h = cc e

    go : Order xs x zs z → Order (v ∷ xs) x (u ∷ zs) z
    go (same f) = same (ap₂ (λ y (l : List A). y ∷ l) h f)
    go (sooner vs f) = sooner vs (ap₂ (λ y (l : List A). y ∷ l) (sym h) f)
    go (later vs f) = later vs (ap₂ (λ y (l : List A). y ∷ l) h f)

module _ (s : State) (a : ℕ) (front : List Event) where
  abbrev ticket : Ticket
  ticket = admitted_by (length front)

  once_waits : (mid : List Event) → Once ticket (queue_after s a (up_to a front mid))
  once_waits mid =
      let q = queue_after s a front in
      let new = not_yet a (length front) 0 (starting_queue (waiting_of s a)) front (omega arith) (not_at_start _ _) in
      subst (Once ticket) (sym (queue_up_to s a front mid))
      (once_later a (length front) (suc (length front)) (omega arith) (q ++ ticket ∷ []) mid (once_put ticket q new))

  -- the queue after further events
  queue_further : (mid es : List Event) → queue_after s a (up_to a front (mid ++ es))
      ≡ queue_from a (length (up_to a front mid) + 0) (queue_after s a (up_to a front mid)) es
  queue_further mid es =
      ap (queue_after s a) (sym (append_assoc front (event (offer a) admitted ∷ mid) es))
      ∙ queue_append a 0 (starting_queue (waiting_of s a)) (up_to a front mid) es

  past_front : (mid : List Event) → length front < length (up_to a front mid)
  past_front mid = omega (arith, length-append front (event (offer a) admitted ∷ mid))

  -- once the ticket, first in the queue, has been served, it is first no more
  not_again : (mid vs : List Event) (others left : List Ticket) → queue_after s a (up_to a front mid) ≡ ticket ∷ others
      → queue_after s a (up_to a front (mid ++ event slot (served a) ∷ vs)) ≡ ticket ∷ left → ⊥
  unfolding queue_from
  not_again mid vs others left e f =
      let n = length (up_to a front mid) + 0 in
      let g : queue_after s a (up_to a front (mid ++ event slot (served a) ∷ vs)) ≡ queue_from a (suc n) others vs =
      queue_further mid (event slot (served a) ∷ vs)
      ∙ ap (λ q. queue_from a n q (event slot (served a) ∷ vs)) e
      ∙ ap (λ q. queue_from a (suc n) q vs) (picked (eqb a a) others (ticket ∷ others) (eq-eqb a a refl))
      in
      gone a (length front) (suc n) (omega (arith, past_front mid)) others vs
      (absent_after (subst (Once ticket) e (once_waits mid)))
      (subst (Holds ticket) (sym f ∙ g) here)

  -- the ticket waits from its admission up to its service
  pub waits_until : (back : List Event) (n : ℕ) (u : ServedWithin s a front back n) (xs ys : List Event) → u.mid ≡ xs ++ ys
      → StillWaits s a front xs
  waits_until back n u xs ys e = go (holds_or_absent (length front) (queue_after s a (up_to a front xs)))
    where
      first : queue_from a (length (up_to a front xs) + 0) (queue_after s a (up_to a front xs)) ys ≡ ticket ∷ u.others
      first = sym (queue_further xs ys) ∙ ap (λ es. queue_after s a (up_to a front es)) (sym e) ∙ u.first

      go : Holds ticket (queue_after s a (up_to a front xs)) ⊎ Absent ticket (queue_after s a (up_to a front xs))
          → StillWaits s a front xs
      go (inl h) = h
      go (inr f) =
          absurd (gone a (length front) (length (up_to a front xs) + 0) (omega (arith, past_front xs)) _ ys f
          (subst (Holds ticket) (sym first) here))

  pub served_once : (back : List Event) (n m : ℕ) (u : ServedWithin s a front back n) (v : ServedWithin s a front back m)
      → u.mid ≡ v.mid
  served_once back n m u v = go (order u.mid v.mid _ _ u.rest v.rest (sym u.ending ∙ v.ending))
    where
      go : Order u.mid (event slot (served a)) v.mid (event slot (served a)) → u.mid ≡ v.mid
      go (same e) = e
      go (sooner vs e) =
          absurd (not_again u.mid vs u.others v.others u.first
          (subst (λ es. queue_after s a (up_to a front es) ≡ ticket ∷ v.others) e v.first))
      go (later vs e) =
          absurd (not_again v.mid vs v.others u.others v.first
          (subst (λ es. queue_after s a (up_to a front es) ≡ ticket ∷ u.others) e u.first))
