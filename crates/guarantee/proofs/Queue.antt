-- Queues and tickets. A queue is as long as its accelerator's waiting count, and a ticket moves up only: each call leaves it
-- its place, or serves the first, or serves it.
--
-- Stands x k q          ticket x is in the queue q behind k others, and not once more behind itself
-- Goes                  what a call means to a ticket that stands behind k others: it is served now, or it waits on behind l
--                       others, with the wait lowered by the slot and by the service of another
use Prim.Native.Nat.{ℕ, zero, suc, ◌+◌, ◌≤◌, ◌<◌}
use mathlib.Core.Bool.{Bool, true, false}
use mathlib.Core.List.{List, [], ◌∷◌, ◌++◌}
use mathlib.Core.Path.{◌≡◌, refl, sym, ◌∙◌, ap, ap₂, subst}
use native.Mathlib.Decide.{ℕ_discrete}
use native.Mathlib.Omega.{arith}
use lib.ListN.{length, length-append}
use lib.Dec.{eqb}
use borrow.Author.Tests.{eq-eqb, ne_eqb}
use Rattle.model.specs.declared.Tree.{Tree}
use Rattle.model.specs.declared.State.{State}
use Rattle.model.specs.declared.Channel.{Channel}
use Rattle.folds.specs.Fold.{pick}
use Rattle.model.specs.Tree.{path, limit_of, waiting_of}
use Rattle.rules.specs.Rules.{keeps}
use Rattle.folds.proofs.Folds.{picked, passed, clash}
use Rattle.rules.proofs.Sound.{sound_of, kept_of}
use Rattle.machine.specs.Machine.{Answer, admitted, served, idle, refused}
use Rattle.machine.specs.Calls.{Call, offer, slot}
use Rattle.guarantee.specs.Guarantee.{Event, event, Ticket, waited_at_start, admitted_by, without_first, call_moves, moved, queue_from, starting_queue, queue_after, up_to, slot_counts, slots_in, serves_other, others_in, Holds, here, there}
use Rattle.guarantee.proofs.Ahead.{WaitsWithin}
use Rattle.guarantee.proofs.Path.{wait_of, wait_least, wait_same, wait_other, wait_own}
use Rattle.guarantee.proofs.Leads.{Admission, Service, Does, admits, declines, serves, idles, halts, does_channel, Leads, stay, go, leads_start}

pub start_length : (n : ℕ) → length (starting_queue n) ≡ n
unfolding starting_queue
start_length zero = refl
start_length (suc n) = length-append (starting_queue n) _ ∙ omega (arith, start_length n)

pub queue_append : (a n : ℕ) (q : List Ticket) (xs ys : List Event)
    → queue_from a n q (xs ++ ys) ≡ queue_from a (length xs + n) (queue_from a n q xs) ys
unfolding queue_from
queue_append a n q [] ys = ap (λ m. queue_from a m q ys) {x = n} {y = 0 + n} (omega arith)
queue_append a n q (e ∷ xs) ys =
    queue_append a (suc n) (moved a n q e) xs ys
    ∙ ap (λ m. queue_from a m (queue_from a (suc n) (moved a n q e) xs) ys)
    {x = length xs + suc n} {y = suc (length xs) + n} (omega arith)

-- one more last, where the test holds; the first less, where it holds
longer : (c : Bool) (q : List Ticket) (x : Ticket) → length (pick c (q ++ x ∷ []) q) ≡ length q + pick c 1 0
longer true q x = length-append q (x ∷ [])
longer false q x = omega arith

shorter : (c : Bool) (q : List Ticket) (n : ℕ) → length q ≡ n + pick c 1 0 → length (pick c (without_first q) q) ≡ n
shorter true [] n e = absurd (omega arith)
shorter true (x ∷ q) n e = omega arith
shorter false q n e = omega arith

length_step : (t : Tree) (s m : State) (a n : ℕ) (q : List Ticket) (c : Call) (x : Answer) → Does t s c x m
    → length q ≡ waiting_of s a → length (call_moves a n q x c) ≡ waiting_of m a
length_step t s m a n q c x (admits {b = b} A) e = omega (arith, longer (eqb a b) q (admitted_by n), A.waiting a)
length_step t s m a n q c x (declines w) e = e
length_step t s m a n q c x (serves {b = b} v) e = shorter (eqb a b) q (waiting_of m a) (e ∙ v.waiting a)
length_step t s m a n q c x (idles i) e = e ∙ sym (i.waiting a)
length_step t s m a n q c x (halts f) e = e

pub queue_length : {t : Tree} {s r : State} {es : List Event} (a n : ℕ) (q : List Ticket) → Leads t s es r
    → length q ≡ waiting_of s a → length (queue_from a n q es) ≡ waiting_of r a
unfolding queue_from
queue_length a n q (stay k) e = e
queue_length {t} {s} a n q (go {m = m} {e = v} k d w) e =
    queue_length a (suc n) (moved a n q v) w (length_step t s m a n q v.call v.answer d e)

abbrev pub Absent : Ticket → List Ticket → Type 0
Absent x q = Holds x q → ⊥

pub data Stands (x : Ticket) : ℕ → List Ticket → Type 0 where
  first : {q : List Ticket} → (Holds x q → ⊥) → Stands x 0 (x ∷ q)
  behind : {y : Ticket} {q : List Ticket} {k : ℕ} → Stands x k q → Stands x (suc k) (y ∷ q)

no_ticket : (x : Ticket) (q : List Ticket) → length q ≡ 0 → Absent x q
no_ticket x q e here = omega arith
no_ticket x q e (there h) = omega arith

pub absent_nil : (x : Ticket) → Absent x []
absent_nil x = no_ticket x [] refl

pub stands_last : (x : Ticket) (q : List Ticket) → Stands x (length q) (q ++ x ∷ [])
stands_last x [] = first (absent_nil x)
stands_last x (y ∷ q) = behind (stands_last x q)

stands_length : {x : Ticket} {k : ℕ} {q : List Ticket} → Stands x k q → k < length q
stands_length (first f) = omega arith
stands_length (behind h) = omega (arith, stands_length h)

-- another ticket is put last
absent_put : (x y : Ticket) → (x ≡ y → ⊥) → (q : List Ticket) → Absent x q → Absent x (q ++ y ∷ [])
absent_put x y d [] f here = d refl
absent_put x y d [] f (there h) = absent_nil x h
absent_put x y d (z ∷ q) f here = f here
absent_put x y d (z ∷ q) f (there h) = absent_put x y d q (λ g. f (there g)) h

pub absent_append : (j n : ℕ) → (j ≡ n → ⊥) → (q : List Ticket) → Absent (admitted_by j) q
    → Absent (admitted_by j) (q ++ admitted_by n ∷ [])
absent_append j n d q f = absent_put (admitted_by j) (admitted_by n) (λ e. d (cc e)) q f

stands_append : (j n : ℕ) → j < n → {k : ℕ} {q : List Ticket} → Stands (admitted_by j) k q
    → Stands (admitted_by j) k (q ++ admitted_by n ∷ [])
stands_append j n l (first {q = q} f) = first (absent_append j n (λ e. omega arith) q f)
stands_append j n l (behind h) = behind (stands_append j n l h)

absent_without : (x : Ticket) (q : List Ticket) → Absent x q → Absent x (without_first q)
absent_without x [] f h = f h
absent_without x (y ∷ q) f h = f (there h)

-- where the test holds
test : {A : Type 0} (P : A → Type 0) (c : Bool) {x y : A} → P x → P y → P (pick c x y)
test P true f g = f
test P false f g = g

-- what holds of a queue, of the queue with the newcomer last and of the queue without its first holds after any event
pub after_event : (P : List Ticket → Type 0) (a n : ℕ) (q : List Ticket) (e : Event) → P q → P (q ++ admitted_by n ∷ [])
    → P (without_first q) → P (moved a n q e)
after_event P a n q e f g h = go e.answer e.call
  where
    go : (x : Answer) (c : Call) → P (call_moves a n q x c)
    go admitted (offer b) = test P (eqb a b) g f
    go (served c) (offer b) = f
    go idle (offer b) = f
    go (refused k) (offer b) = f
    go admitted slot = f
    go (served b) slot = test P (eqb a b) h f
    go idle slot = f
    go (refused k) slot = f

absent_step : (a j n : ℕ) → (j ≡ n → ⊥) → (q : List Ticket) (e : Event) → Absent (admitted_by j) q
    → Absent (admitted_by j) (moved a n q e)
absent_step a j n d q e f =
    after_event (Absent (admitted_by j)) a n q e f (absent_append j n d q f) (absent_without (admitted_by j) q f)

-- a ticket that has been served does not come back
pub gone : (a j n : ℕ) → j < n → (q : List Ticket) (es : List Event) → Absent (admitted_by j) q
    → Absent (admitted_by j) (queue_from a n q es)
unfolding queue_from
gone a j n l q [] f = f
gone a j n l q (e ∷ es) f =
    gone a j (suc n) (omega arith) (moved a n q e) es (absent_step a j n (λ z. omega arith) q e f)

-- a ticket is not there before its admission
pub not_yet : (a j n : ℕ) (q : List Ticket) (es : List Event) → n + length es ≤ j → Absent (admitted_by j) q
    → Absent (admitted_by j) (queue_from a n q es)
unfolding queue_from
not_yet a j n q [] l f = f
not_yet a j n q (e ∷ es) l f =
    not_yet a j (suc n) (moved a n q e) es (omega arith) (absent_step a j n (λ z. omega arith) q e f)

pub not_at_start : (j n : ℕ) → Absent (admitted_by j) (starting_queue n)
unfolding starting_queue
not_at_start j zero = absent_nil (admitted_by j)
not_at_start j (suc n) =
    absent_put (admitted_by j) (waited_at_start n) (λ e. clash cc) (starting_queue n) (not_at_start j n)

-- the queue after an admission of the accelerator and the events that follow
pub queue_up_to : (s : State) (a : ℕ) (front mid : List Event) → queue_after s a (up_to a front mid)
    ≡ queue_from a (suc (length front)) (queue_after s a front ++ admitted_by (length front) ∷ []) mid
unfolding queue_from
queue_up_to s a front mid =
    let q = queue_after s a front in
    let put : ℕ → List Ticket = λ n. pick (eqb a a) (q ++ admitted_by n ∷ []) q in
    queue_append a 0 (starting_queue (waiting_of s a)) front (event (offer a) admitted ∷ mid)
    ∙ ap (λ n. queue_from a (suc n) (put n) mid) {x = length front + 0} {y = length front} (omega arith)
    ∙ ap (λ r. queue_from a (suc (length front)) r mid)
    (picked (eqb a a) (q ++ admitted_by (length front) ∷ []) q (eq-eqb a a refl))

-- no state on the way has more waiting than φ allows
abbrev pub AllWithin : {t : Tree} {s r : State} {es : List Event} (φ : ℕ → ℕ) → Leads t s es r → Type 0
AllWithin {t} {s} φ (stay K) = WaitsWithin t φ s
AllWithin {t} {s} φ (go K d w) = WaitsWithin t φ s × AllWithin φ w

within_start : {t : Tree} {s r : State} {es : List Event} (φ : ℕ → ℕ) (w : Leads t s es r) → AllWithin φ w → WaitsWithin t φ s
within_start φ (stay K) F = F
within_start φ (go K d w) F = F.0

-- a state that keeps its rules has no more waiting than the outstanding limits of its channel allow
pub waits_within : (t : Tree) (c : Channel) (s : State) → keeps t s ≡ true → s.channel ≡ c → WaitsWithin t (limit_of t c) s
waits_within t c s K e = subst (λ k. WaitsWithin t (limit_of t k) s) e (kept_of t s K).waiting

pub limits_hold : {t : Tree} (c : Channel) {s r : State} {es : List Event} (w : Leads t s es r) → s.channel ≡ c
    → AllWithin (limit_of t c) w
limits_hold {t} c {s} (stay K) e = waits_within t c s K e
limits_hold {t} c {s} (go K d w) e = (waits_within t c s K e, limits_hold c w (does_channel d ∙ e))

-- the call c, which answers x, goes from state s and queue q to state m and queue r
data Goes (t : Tree) (φ : ℕ → ℕ) (s m : State) (a j k : ℕ) (q : List Ticket) (c : Call) (x : Answer) (r : List Ticket) : Type 0 where
  served_now : c ≡ slot → x ≡ served a → (others : List Ticket) → q ≡ admitted_by j ∷ others → Absent (admitted_by j) r
      → Goes t φ s m a j k q c x r
  waits_on : (l : ℕ) → Stands (admitted_by j) l r → slot_counts x c + wait_of t φ m a (suc l) ≤ wait_of t φ s a (suc k)
      → serves_other a x + k + wait_of t φ m a (suc l) ≤ wait_of t φ s a (suc k) + l → Goes t φ s m a j k q c x r

module _ (t : Tree) (φ : ℕ → ℕ) (s : State) (K : keeps t s ≡ true) (F : WaitsWithin t φ s) (a j : ℕ) (la : a < t.accs) where
  -- an admission: turns stay, and so does the wait
  admission : (m : State) (b n k : ℕ) → j < n → (q : List Ticket) → Admission t s b m → Stands (admitted_by j) k q
      → Goes t φ s m a j k q (offer b) admitted (pick (eqb a b) (q ++ admitted_by n ∷ []) q)
  admission m b n k l q A h =
      waits_on k (test (Stands (admitted_by j) k) (eqb a b) (stands_append j n l h) h) (omega (arith, same))
      (omega (arith, same))
    where
      same : wait_of t φ m a (suc k) ≡ wait_of t φ s a (suc k)
      same = wait_same t φ s m A.turns (path t a) (suc k)

  module _ (m : State) (L : keeps t m ≡ true) (G : WaitsWithin t φ m) where
    -- a service of its own accelerator: the first's, be it this ticket or not
    own : (k : ℕ) (q : List Ticket) → Stands (admitted_by j) k q → Service t s a m
        → Goes t φ s m a j k q slot (served a) (without_first q)
    own k q (first {q = others} f) v = served_now refl refl others refl f
    own k q (behind {k = l} h) v =
        waits_on l h (omega (arith, lower)) (omega (arith, lower, picked {A = ℕ} (eqb a a) 0 1 (eq-eqb a a refl)))
      where
        lower : wait_of t φ m a (suc l) + 1 ≤ wait_of t φ s a (suc (suc l))
        lower = wait_own t φ (sound_of t s K) s m (kept_of t s K) (kept_of t m L) F G a la v.on v.off (suc l)

    -- a service of another
    other : (b k : ℕ) (q : List Ticket) → (b ≡ a → ⊥) → 0 < waiting_of s a → Stands (admitted_by j) k q → Service t s b m
        → Goes t φ s m a j k q slot (served b) q
    other b k q d w h v =
        waits_on k h (omega (arith, lower))
        (omega (arith, lower, passed {A = ℕ} (eqb a b) 0 1 (ne_eqb a b (λ e. d (sym e)))))
      where
        lower : wait_of t φ m a (suc k) + 1 ≤ wait_of t φ s a (suc k)
        lower = wait_other t φ (sound_of t s K) s m (kept_of t s K) (kept_of t m L) F G b v.acc v.on v.off a la w d
            (suc k) (omega arith)

    service : (b k : ℕ) (q : List Ticket) → 0 < waiting_of s a → Stands (admitted_by j) k q → Service t s b m
        → Goes t φ s m a j k q slot (served b) (pick (eqb a b) (without_first q) q)
    service b k q w h v = elim (ℕ_discrete a b) [
      | yes e ↦ subst (Goes t φ s m a j k q slot (served b)) (sym (picked _ _ _ (eq-eqb a b e)))
          (subst (λ x. Service t s x m → Goes t φ s m a j k q slot (served x) (without_first q)) e (own k q h) v)
      | no d ↦ subst (Goes t φ s m a j k q slot (served b)) (sym (passed _ _ _ (ne_eqb a b d)))
          (other b k q (λ e. d (sym e)) w h v)
    ]

  goes : (m : State) → keeps t m ≡ true → WaitsWithin t φ m → (n k : ℕ) → j < n → (q : List Ticket) (c : Call) (x : Answer)
      → Does t s c x m → Stands (admitted_by j) k q → length q ≡ waiting_of s a → Goes t φ s m a j k q c x (call_moves a n q x c)
  goes m L G n k l q c x (admits {b = b} A) h e = admission m b n k l q A h
  goes m L G n k l q c x (declines w) h e = waits_on k h (omega arith) (omega arith)
  goes m L G n k l q c x (serves {b = b} v) h e = service m L G b k q (omega (arith, stands_length h)) h v
  goes m L G n k l q c x (idles i) h e = absurd (omega (arith, i.none a, stands_length h))
  goes m L G n k l q c x (halts f) h e = waits_on k h (omega arith) (omega arith)

-- the ticket is served within w slots of the events es that are not refused
pub record Timely (a j n : ℕ) (q : List Ticket) (es : List Event) (w : ℕ) : Type 0 where
  pub mid : List Event
  pub rest : List Event
  pub ending : es ≡ mid ++ event slot (served a) ∷ rest
  pub others : List Ticket
  pub first : queue_from a n q mid ≡ admitted_by j ∷ others
  pub within : slots_in mid + 1 ≤ w

pub timely : {t : Tree} (φ : ℕ → ℕ) {s r : State} {es : List Event} (a j n k : ℕ) → a < t.accs → j < n → (q : List Ticket)
    → (w : Leads t s es r) → AllWithin φ w → Stands (admitted_by j) k q → length q ≡ waiting_of s a → wait_of t φ s a (suc k) ≤ slots_in es
    → Timely a j n q es (wait_of t φ s a (suc k))
unfolding queue_from slots_in
timely {t} φ {s} a j n k la l q (stay K) F h e b = absurd (omega (arith, wait_least t φ s (path t a) (suc k)))
timely {t} φ {s} a j n k la l q (go {m = m} {e = v} {es = es} K d w) F h e b =
    next (goes t φ s K F.0 a j la m (leads_start w) (within_start φ w F.1) n k l q v.call v.answer d h e)
    (λ i g f. timely φ a j (suc n) i la (omega arith) (moved a n q v) w F.1 g
    (length_step t s m a n q v.call v.answer d e) f)
  where
    next : Goes t φ s m a j k q v.call v.answer (moved a n q v)
        → ((i : ℕ) → Stands (admitted_by j) i (moved a n q v) → wait_of t φ m a (suc i) ≤ slots_in es
        → Timely a j (suc n) (moved a n q v) es (wait_of t φ m a (suc i)))
        → Timely a j n q (v ∷ es) (wait_of t φ s a (suc k))
    next (served_now f g others p z) later = record {
      mid = [];
      rest = es;
      ending = ap₂ (λ c x. event c x ∷ es) f g;
      others = others;
      first = p;
      within = omega (arith, wait_least t φ s (path t a) (suc k));
    }
    next (waits_on i g f z) later =
        let u = later i g (omega arith) in
        record {
          mid = v ∷ u.mid;
          rest = u.rest;
          ending = ap (λ l. v ∷ l) u.ending;
          others = u.others;
          first = u.first;
          within = omega (arith, u.within);
        }

-- up to its service few others are served: each lowers the wait, and so does each of its own before it
pub few : {t : Tree} (φ : ℕ → ℕ) {s r : State} {es : List Event} (a j n k : ℕ) → a < t.accs → j < n → (q : List Ticket)
    → (w : Leads t s es r) → AllWithin φ w → Stands (admitted_by j) k q → length q ≡ waiting_of s a
    → Holds (admitted_by j) (queue_from a n q es)
    → others_in a es + suc k ≤ wait_of t φ s a (suc k)
unfolding queue_from others_in
few {t} φ {s} a j n k la l q (stay K) F h e b = omega (arith, wait_least t φ s (path t a) (suc k))
few {t} φ {s} a j n k la l q (go {m = m} {e = v} {es = es} K d w) F h e b =
    next (goes t φ s K F.0 a j la m (leads_start w) (within_start φ w F.1) n k l q v.call v.answer d h e)
    (λ i g. few φ a j (suc n) i la (omega arith) (moved a n q v) w F.1 g
    (length_step t s m a n q v.call v.answer d e) b)
    (λ f. gone a j (suc n) (omega arith) (moved a n q v) es f b)
  where
    next : Goes t φ s m a j k q v.call v.answer (moved a n q v)
        → ((i : ℕ) → Stands (admitted_by j) i (moved a n q v) → others_in a es + suc i ≤ wait_of t φ m a (suc i))
        → (Absent (admitted_by j) (moved a n q v) → ⊥)
        → serves_other a v.answer + others_in a es + suc k ≤ wait_of t φ s a (suc k)
    next (served_now f g others p z) later never = absurd (never z)
    next (waits_on i g f z) later never = omega (arith, later i g)
