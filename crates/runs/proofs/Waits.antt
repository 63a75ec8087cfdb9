-- The list of item 1 is the true one. A run's events up to the offers of a slot are those of the slots before it and the offers;
-- the k-th admission of an accelerator is among the offers of the first slot by which k are admitted, and its k-th service is the slot
-- that `service_slot` names.
use Prim.Native.Nat.{ℕ, zero, suc, ◌+◌, ◌-◌, ◌≤◌, ◌<◌}
use mathlib.Core.Bool.{Bool, true, false}
use mathlib.Core.List.{List, [], ◌∷◌, ◌++◌, append_assoc, append-nil}
use mathlib.Core.Path.{◌≡◌, refl, sym, ◌∙◌, ap, ap₂, subst}
use native.Mathlib.Decide.{dec_lt, ℕ_discrete}
use native.Mathlib.Omega.{arith}
use lib.Dec.{eqb, leb, ltb}
use lib.ListN.{length, take, drop, length-append}
use lib.Seq.{take_at, drop_at}
use borrow.Author.Tests.{eq-eqb, ne_eqb, leb-true, leb-false, lt-ltb, le-ltb}
use Rattle.model.specs.declared.Tree.{Tree}
use Rattle.model.specs.declared.State.{State}
use Rattle.model.specs.declared.Channel.{Channel}
use Rattle.folds.specs.Fold.{pick}
use Rattle.model.specs.Tree.{waiting_of}
use Rattle.rules.specs.Rules.{tree_keeps}
use Rattle.folds.proofs.Folds.{picked, passed}
use Rattle.rules.proofs.Sound.{sound}
use Rattle.trace.specs.declared.Request.{Request}
use Rattle.machine.specs.Machine.{Answer, admitted, served, idle, refused, last_slot, fresh_state, slotted}
use Rattle.machine.specs.Calls.{Call, offer, slot, state_after}
use Rattle.machine.proofs.Keeps.{zeros}
use Rattle.machine.proofs.Laws.{fresh_keeps}
use Rattle.guarantee.specs.Guarantee.{Event, event, events_of, slots_in, admits_one, up_to}
use Rattle.guarantee.proofs.Leads.{Leads, calls_lead}
use Rattle.guarantee.proofs.Theorem.{guarantee}
use Rattle.runner.specs.Run.{Run, with_due, before_slot, byte_of, last_byte, start}
use Rattle.runner.specs.Slots.{standing, bytes_before}
use Rattle.runner.proofs.Laws.{bytes_length}
use Rattle.meeting.proofs.Deepest.{meeting_deepest}
use Rattle.runner.proofs.Telling.{count_append, count_one}
use Rattle.runner.specs.Wait.{count_in, first, taken_by, admission_slot, service_slot}
use Rattle.waits.specs.Why.{entries, wait_bytes}
use Rattle.guarantee.specs.Windows.{admissions_by}
use Rattle.runs.specs.Calls.{offers_each, calls_before, byte_in, bytes_in}
use Rattle.runs.specs.Waits.{serves_one, services_of, Waited}
use Rattle.guarantee.proofs.Events.{state_append, events_append, slots_append}
use Rattle.runs.proofs.Events.{bytes_append, admissions_append}
use Rattle.runs.proofs.Offers.{makes_each}
use Rattle.runs.proofs.Theorem.{called}
use Rattle.runs.proofs.Tickets.{balance, at_found, stands_at, in_time, never_idle, served_known}

-- the least number
by : {A : Type 0} (b : Bool) → (b ≡ true → A) → (b ≡ false → A) → A
by true f g = f refl
by false f g = g refl

first_step : (n : ℕ) (f : ℕ → Bool) → first (suc n) f ≡ pick (ltb (first n f) n) (first n f) (pick (f n) n (suc n))
unfolding first
first_step n f = refl

-- it is found, or none is
data Found (n : ℕ) (f : ℕ → Bool) (m : ℕ) : Type 0 where
  found : m < n → f m ≡ true → Found n f m
  missed : m ≡ n → Found n f m

record First (n : ℕ) (f : ℕ → Bool) (m : ℕ) : Type 0 where
  is : Found n f m
  least : (i : ℕ) → i < m → f i ≡ false

firsts : (n : ℕ) (f : ℕ → Bool) → First n f (first n f)
unfolding first
firsts zero f = record { is = missed refl; least = λ i l. absurd (omega arith) }
firsts (suc n) f = go (firsts n f).is (firsts n f).least
  where
    go : Found n f (first n f) → ((i : ℕ) → i < first n f → f i ≡ false) → First (suc n) f (pick (ltb (first n f) n) (first n f) (pick (f n) n (suc n)))
    go (found l e) h = subst (First (suc n) f) (sym (picked _ _ _ (lt-ltb (first n f) n l))) (record { is = found (omega arith) e; least = h })
    go (missed e) h = subst (First (suc n) f) (sym (passed _ _ _ (le-ltb (first n f) n (omega arith)))) (by (f n)
        (λ q. subst (First (suc n) f) (sym (picked _ _ _ q)) (record { is = found (omega arith) q; least = λ i l. h i (omega arith) }))
        (λ q. subst (First (suc n) f) (sym (passed _ _ _ q)) (record {
          is = missed refl;
          least = λ i l. elim (ℕ_discrete i n) [
            | yes z ↦ subst (λ j. f j ≡ false) (sym z) q
            | no d ↦ h i (omega arith)
          ];
        })))

-- a byte is a service
services_bytes : (a : ℕ) → (a ≡ 255 → ⊥) → (es : List Event) → services_of a es ≡ count_in a (bytes_in es)
unfolding services_of bytes_in count_in
services_bytes a d [] = refl
services_bytes a d (e ∷ es) = omega (arith, services_bytes a d es, count_append a (byte_in e.call e.answer) (bytes_in es), one e.call e.answer)
  where
    no : ◌≡◌ {A = ℕ} (pick (eqb a 255) 1 0) 0
    no = passed _ _ _ (ne_eqb a 255 d)

    one : (c : Call) (x : Answer) → serves_one a x c ≡ count_in a (byte_in c x)
    one (offer b) x = refl
    one slot admitted = omega (arith, no)
    one slot (served b) = omega arith
    one slot idle = omega (arith, no)
    one slot (refused n) = omega (arith, no)

-- the admission after j others
record Split (a j : ℕ) (es : List Event) : Type 0 where
  front : List Event
  back : List Event
  events : es ≡ up_to a front back
  before : admissions_by a front ≡ j

split : (a j : ℕ) (es : List Event) → j < admissions_by a es → Split a j es
unfolding admissions_by
split a j [] l = absurd (omega arith)
split a j (e ∷ es) l = go e.call e.answer l (λ i h. split a i es h)
  where
    later : (c : Call) (x : Answer) → (i : ℕ) → admits_one a x c + i ≡ j → Split a i es → Split a j (event c x ∷ es)
    later c x i q s = record {
      front = event c x ∷ s.front;
      back = s.back;
      events = ap (λ (l : List Event). event c x ∷ l) s.events;
      before = omega (arith, s.before);
    }

    go : (c : Call) (x : Answer) → j < admits_one a x c + admissions_by a es → ((i : ℕ) → i < admissions_by a es → Split a i es) → Split a j (event c x ∷ es)
    go (offer b) admitted h f = elim (ℕ_discrete a b) [
      | yes q ↦ elim (dec_lt 0 j) [
        | yes z ↦ later (offer b) admitted (j - 1) (omega (arith, picked {A = ℕ} (eqb a b) 1 0 (eq-eqb a b q))) (f (j - 1) (omega (arith, picked {A = ℕ} (eqb a b) 1 0 (eq-eqb a b q))))
        | no z ↦ record { front = []; back = es; events = ap (λ i. event (offer i) admitted ∷ es) (sym q); before = omega arith }
      ]
      | no d ↦ later (offer b) admitted j (omega (arith, passed {A = ℕ} (eqb a b) 1 0 (ne_eqb a b d))) (f j (omega (arith, passed {A = ℕ} (eqb a b) 1 0 (ne_eqb a b d))))
    ]
    go slot admitted h f = later slot admitted j (omega arith) (f j (omega arith))
    go (offer b) (served i) h f = later (offer b) (served i) j (omega arith) (f j (omega arith))
    go slot (served i) h f = later slot (served i) j (omega arith) (f j (omega arith))
    go (offer b) idle h f = later (offer b) idle j (omega arith) (f j (omega arith))
    go slot idle h f = later slot idle j (omega arith) (f j (omega arith))
    go (offer b) (refused i) h f = later (offer b) (refused i) j (omega arith) (f j (omega arith))
    go slot (refused i) h f = later slot (refused i) j (omega arith) (f j (omega arith))

module _ (t : Tree) (k : tree_keeps t ≡ true) (c : Channel) (rs : List Request) where
  abbrev at : ℕ → Run
  at n = standing n t (start t c rs)

  abbrev offers_in : ℕ → List Call
  offers_in n = offers_each t.accs t (with_due (at n))

  abbrev E : ℕ → List Event
  E n = events_of t (fresh_state t c) (calls_before n t (start t c rs))

  abbrev O : ℕ → List Event
  O n = events_of t (at n).state (offers_in n)

  abbrev S : ℕ → Event
  S n = event slot (slotted t (before_slot t (at n)).state).answer

  -- the events before slot n and its offers
  module _ (n : ℕ) (l : n ≤ last_slot) where
    up_to_offers : events_of t (fresh_state t c) (calls_before n t (start t c rs) ++ offers_in n) ≡ E n ++ O n
    up_to_offers = events_append t (fresh_state t c) (calls_before n t (start t c rs)) (offers_in n)
        ∙ ap (λ (s : State). E n ++ events_of t s (offers_in n)) (called t c rs k n l).state

    state_there : state_after t (fresh_state t c) (calls_before n t (start t c rs) ++ offers_in n) ≡ (before_slot t (at n)).state
    state_there = state_append t (fresh_state t c) (calls_before n t (start t c rs)) (offers_in n)
        ∙ ap (λ (s : State). state_after t s (offers_in n)) (called t c rs k n l).state ∙ (makes_each t.accs t (with_due (at n))).state

    pub one_more : E (suc n) ≡ (E n ++ O n) ++ S n ∷ []
    unfolding calls_before events_of
    one_more =
        ap (events_of t (fresh_state t c)) (sym (append_assoc (calls_before n t (start t c rs)) (offers_in n) (slot ∷ [])))
        ∙ events_append t (fresh_state t c) (calls_before n t (start t c rs) ++ offers_in n) (slot ∷ [])
        ∙ ap₂ (λ (es : List Event) (s : State). es ++ event slot (slotted t s).answer ∷ []) up_to_offers state_there

    bytes_there : bytes_in (E n ++ O n) ≡ bytes_before n t (start t c rs)
    bytes_there = bytes_append (E n) (O n) ∙ ap₂ (λ (x y : List ℕ). x ++ y) (called t c rs k n l).bytes (makes_each t.accs t (with_due (at n))).bytes ∙ append-nil _

    slots_there : slots_in (E n) ≡ n
    slots_there = (called t c rs k n l).slots

    -- what is admitted by then
    pub taken_there : (a : ℕ) → (a ≡ 255 → ⊥) → admissions_by a (E n ++ O n) ≡ taken_by t (start t c rs) a n
    taken_there a d =
        let w : Leads t (fresh_state t c) (E n ++ O n) (before_slot t (at n)).state =
        subst (λ (es : List Event). Leads t (fresh_state t c) es (before_slot t (at n)).state) up_to_offers
        (subst (Leads t (fresh_state t c) _) state_there (calls_lead t (fresh_state t c) (calls_before n t (start t c rs) ++ offers_in n) (fresh_keeps t c k))) in
        omega (arith, balance a w, zeros 32 a, services_bytes a d (E n ++ O n), ap (count_in a) bytes_there)

  -- from one slot's offers to a later one's
  record Between (i j : ℕ) : Type 0 where
    between : List Event
    events : E j ++ O j ≡ (E i ++ O i) ++ between

  go_on : (i d : ℕ) → i + d ≤ last_slot → Between i (i + d)
  go_on i zero l = record { between = []; events = ap (λ n. E n ++ O n) {x = i + 0} {y = i} (omega arith) ∙ sym (append-nil (E i ++ O i)) }
  go_on i (suc d) l =
      let b = go_on i d (omega arith) in
      let n = i + d in
      record {
        between = b.between ++ S n ∷ O (suc n);
        events = ap (λ n. E n ++ O n) {x = i + suc d} {y = suc n} (omega arith)
            ∙ ap (λ (es : List Event). es ++ O (suc n)) (one_more n (omega arith))
            ∙ append_assoc (E n ++ O n) (S n ∷ []) (O (suc n))
            ∙ ap (λ (es : List Event). es ++ S n ∷ O (suc n)) b.events
            ∙ append_assoc (E i ++ O i) b.between (S n ∷ O (suc n));
      }

  record After (i m : ℕ) : Type 0 where
    rest : List Event
    events : E m ≡ (E i ++ O i) ++ S i ∷ rest

  ends : (i d : ℕ) → i + d < last_slot → After i (suc (i + d))
  ends i zero l = record { rest = []; events = ap E {x = suc (i + 0)} {y = suc i} (omega arith) ∙ one_more i (omega arith) }
  ends i (suc d) l =
      let b = ends i d (omega arith) in
      let n = suc (i + d) in
      record {
        rest = b.rest ++ (O n ++ S n ∷ []);
        events = ap E {x = suc (i + suc d)} {y = suc n} (omega arith) ∙ one_more n (omega arith)
            ∙ append_assoc (E n) (O n) (S n ∷ [])
            ∙ ap (λ (es : List Event). es ++ (O n ++ S n ∷ [])) b.events
            ∙ append_assoc (E i ++ O i) (S i ∷ b.rest) (O n ++ S n ∷ []);
      }

  abbrev bytes : ℕ → List ℕ
  bytes n = bytes_before n t (start t c rs)

  module _ (a : ℕ) (la : a < t.accs) (j m : ℕ) (lj : 0 < j) (lm : m ≤ last_slot) (enough : j ≤ count_in a (bytes m)) where
    small : a ≡ 255 → ⊥
    small e = omega (arith, (sound t k).most_accs)

    abbrev in_slot : ℕ
    in_slot = admission_slot t (start t c rs) m a j

    abbrev out_slot : ℕ
    out_slot = service_slot t (start t c rs) m a j

    -- one slot more
    count_more : (n : ℕ) → count_in a (bytes (suc n)) ≡ count_in a (bytes n) + pick (eqb a (last_byte t (at n))) 1 0
    unfolding bytes_before
    count_more n = count_append a (bytes n) (last_byte t (at n) ∷ []) ∙ ap (λ i. count_in a (bytes n) + i) (count_one a (last_byte t (at n)))

    count_none : count_in a (bytes 0) ≡ 0
    unfolding bytes_before count_in
    count_none = refl

    admitted_none : admissions_by a (E 0) ≡ 0
    unfolding calls_before events_of admissions_by
    admitted_none = refl

    admitted_more : (n : ℕ) → n ≤ last_slot → admissions_by a (E (suc n)) ≡ taken_by t (start t c rs) a n
    unfolding admissions_by
    admitted_more n l = omega (arith, ap (admissions_by a) (one_more n l), admissions_append a (E n ++ O n) (S n ∷ []), taken_there n l a small, none (S n).answer)
      where
        none : (x : Answer) → admits_one a x slot ≡ 0
        none admitted = refl
        none (served b) = refl
        none idle = refl
        none (refused i) = refl

    -- no more are served than were admitted
    served_less : (n : ℕ) → n ≤ last_slot → count_in a (bytes n) ≤ admissions_by a (E n)
    served_less n l = omega (arith, balance a (calls_lead t (fresh_state t c) (calls_before n t (start t c rs)) (fresh_keeps t c k)), zeros 32 a, services_bytes a small (E n), ap (count_in a) (called t c rs k n l).bytes)

    before_out : (n : ℕ) → ((i : ℕ) → i < n → leb j (count_in a (bytes (suc i))) ≡ false) → count_in a (bytes n) < j
    before_out zero h = omega (arith, count_none)
    before_out (suc n) h = omega (arith, leb-false j (count_in a (bytes (suc n))) (h n (omega arith)))

    before_in : (n : ℕ) → n ≤ last_slot → ((i : ℕ) → i < n → leb j (taken_by t (start t c rs) a i) ≡ false) → admissions_by a (E n) < j
    before_in zero l h = omega (arith, admitted_none)
    before_in (suc n) l h = omega (arith, admitted_more n (omega arith), leb-false j (taken_by t (start t c rs) a n) (h n (omega arith)))

    out : First m (λ n. leb j (count_in a (bytes (suc n)))) out_slot
    out = firsts m (λ n. leb j (count_in a (bytes (suc n))))

    out_there : (out_slot < m) × (j ≤ count_in a (bytes (suc out_slot)))
    out_there = go out.is
      where
        go : Found m (λ n. leb j (count_in a (bytes (suc n)))) out_slot → (out_slot < m) × (j ≤ count_in a (bytes (suc out_slot)))
        go (found l e) = (l, leb-true j (count_in a (bytes (suc out_slot))) e)
        go (missed e) = absurd (omega (arith, before_out out_slot out.least, ap (λ n. count_in a (bytes n)) e))

    last_less : count_in a (bytes out_slot) < j
    last_less = before_out out_slot out.least

    -- the slot that serves it
    serves_it : (last_byte t (at out_slot) ≡ a) × (count_in a (bytes out_slot) + 1 ≡ j)
    serves_it = elim (ℕ_discrete a (last_byte t (at out_slot))) [
      | yes e ↦ (sym e, omega (arith, last_less, out_there.1, count_more out_slot, picked {A = ℕ} (eqb a (last_byte t (at out_slot))) 1 0 (eq-eqb a _ e)))
      | no d ↦ absurd (omega (arith, last_less, out_there.1, count_more out_slot, passed {A = ℕ} (eqb a (last_byte t (at out_slot))) 1 0 (ne_eqb a _ d)))
    ]

    answers_it : (x : Answer) → byte_of x ≡ a → x ≡ served a
    answers_it admitted e = absurd (small (sym e))
    answers_it (served b) e = ap served e
    answers_it idle e = absurd (small (sym e))
    answers_it (refused i) e = absurd (small (sym e))

    last_event_lem : S out_slot ≡ event slot (served a)
    last_event_lem = ap (event slot) (answers_it _ serves_it.0)

    enough_taken : j ≤ taken_by t (start t c rs) a out_slot
    enough_taken = omega (arith, out_there, served_less (suc out_slot) (omega (arith, out_there)), admitted_more out_slot (omega (arith, out_there)))

    into : First m (λ n. leb j (taken_by t (start t c rs) a n)) in_slot
    into = firsts m (λ n. leb j (taken_by t (start t c rs) a n))

    in_early : in_slot ≤ out_slot
    in_early = elim (dec_lt out_slot in_slot) [
      | yes l ↦ absurd (omega (arith, enough_taken, leb-false j (taken_by t (start t c rs) a out_slot) (into.least out_slot l)))
      | no d ↦ omega arith
    ]

    in_there : j ≤ taken_by t (start t c rs) a in_slot
    in_there = go into.is
      where
        go : Found m (λ n. leb j (taken_by t (start t c rs) a n)) in_slot → j ≤ taken_by t (start t c rs) a in_slot
        go (found l e) = leb-true j (taken_by t (start t c rs) a in_slot) e
        go (missed e) = absurd (omega (arith, in_early, out_there))

    in_last : in_slot ≤ last_slot
    in_last = omega (arith, in_early, out_there)

    out_last : out_slot ≤ last_slot
    out_last = omega (arith, out_there)

    X : Split a (j - 1 - admissions_by a (E in_slot)) (O in_slot)
    X = split a (j - 1 - admissions_by a (E in_slot)) (O in_slot)
        (omega (arith, before_in in_slot in_last into.least, in_there, taken_there in_slot in_last a small, admissions_append a (E in_slot) (O in_slot)))

    Y : Between in_slot out_slot
    Y = subst (Between in_slot) {x = in_slot + (out_slot - in_slot)} {y = out_slot} (omega (arith, in_early)) (go_on in_slot (out_slot - in_slot) (omega (arith, in_early, out_last)))

    Z : After out_slot m
    Z = subst (After out_slot) {x = suc (out_slot + (m - suc out_slot))} {y = m} (omega (arith, out_there)) (ends out_slot (m - suc out_slot) (omega (arith, out_there)))

    abbrev fore : List Event
    fore = E in_slot ++ X.front

    abbrev while : List Event
    while = X.back ++ Y.between

    up : E out_slot ++ O out_slot ≡ up_to a fore while
    up = Y.events ∙ ap (λ (es : List Event). (E in_slot ++ es) ++ Y.between) X.events
        ∙ ap (λ (es : List Event). es ++ Y.between) (sym (append_assoc (E in_slot) X.front (event (offer a) admitted ∷ X.back)))
        ∙ append_assoc fore (event (offer a) admitted ∷ X.back) Y.between

    abbrev ending : List Event
    ending = event slot (served a) ∷ Z.rest

    whole : E m ≡ up_to a fore (while ++ ending)
    whole = Z.events ∙ ap₂ (λ (es : List Event) (e : Event). es ++ e ∷ Z.rest) up last_event_lem
        ∙ append_assoc fore (event (offer a) admitted ∷ while) (event slot (served a) ∷ Z.rest)

    number_is : services_of a (up_to a fore while) + 1 ≡ j
    number_is = omega (arith, ap (services_of a) up, services_bytes a small (E out_slot ++ O out_slot), ap (count_in a) (bytes_there out_slot out_last), serves_it)

    same_count : waiting_of (fresh_state t c) a + admissions_by a fore ≡ services_of a (up_to a fore while)
    same_count = omega (arith, zeros 32 a, number_is, admissions_append a (E in_slot) X.front, X.before, before_in in_slot in_last into.least)

    since_is : slots_in fore ≡ in_slot
    since_is = omega (
      arith,
      slots_append (E in_slot) X.front,
      slots_there in_slot in_last,
      (makes_each t.accs t (with_due (at in_slot))).slots,
      ap slots_in X.events,
      slots_append X.front (event (offer a) admitted ∷ X.back),
    )

    nothing : (xs ys : List ℕ) → xs ++ ys ≡ [] → ys ≡ []
    nothing [] ys e = e
    nothing (x ∷ xs) ys e = absurd (omega (arith, ap length e))

    offers_silent : bytes_in X.back ≡ []
    unfolding bytes_in
    offers_silent = nothing (bytes_in X.front) (bytes_in X.back)
        (sym (bytes_append X.front (event (offer a) admitted ∷ X.back)) ∙ sym (ap bytes_in X.events) ∙ (makes_each t.accs t (with_due (at in_slot))).bytes)

    bytes_out : bytes out_slot ≡ bytes in_slot ++ bytes_in while
    bytes_out = sym (bytes_there out_slot out_last) ∙ ap bytes_in Y.events ∙ bytes_append (E in_slot ++ O in_slot) Y.between
        ∙ ap₂ (λ (x y : List ℕ). x ++ y) (bytes_there in_slot in_last) (ap (λ (x : List ℕ). x ++ bytes_in Y.between) (sym offers_silent) ∙ sym (bytes_append X.back Y.between))

    unrefused_is : slots_in while ≡ length (bytes_in while)
    unfolding slots_in
    unrefused_is = omega (
      arith,
      since_is,
      ap slots_in up,
      slots_append (E out_slot) (O out_slot),
      slots_there out_slot out_last,
      (makes_each t.accs t (with_due (at out_slot))).slots,
      slots_append fore (event (offer a) admitted ∷ while),
      ap length bytes_out,
      length-append (bytes in_slot) (bytes_in while),
      bytes_length in_slot t (start t c rs),
      bytes_length out_slot t (start t c rs),
    )

    bytes_all : bytes m ≡ bytes out_slot ++ bytes_in (S out_slot ∷ Z.rest)
    bytes_all = sym (called t c rs k m lm).bytes ∙ ap bytes_in Z.events ∙ bytes_append (E out_slot ++ O out_slot) (S out_slot ∷ Z.rest)
        ∙ ap (λ (x : List ℕ). x ++ bytes_in (S out_slot ∷ Z.rest)) (bytes_there out_slot out_last)

    bytes_are : wait_bytes t (start t c rs) m a j ≡ bytes_in while
    bytes_are =
        ap (λ (x : List ℕ). drop in_slot (take out_slot x)) bytes_all
        ∙ ap (drop in_slot) (take_at (bytes out_slot) (bytes_in (S out_slot ∷ Z.rest)) out_slot (bytes_length out_slot t (start t c rs)) ∙ bytes_out)
        ∙ drop_at (bytes in_slot) (bytes_in while) in_slot (bytes_length in_slot t (start t c rs))

    none_left : services_of a [] ≡ 0
    unfolding services_of
    none_left = refl

    pub waited : Waited t (fresh_state t c) (E m) a j in_slot (entries t a (wait_bytes t (start t c rs) m a j))
    waited =
        let cs = calls_before m t (start t c rs) in
        let K = fresh_keeps t c k in
        let G = guarantee t (fresh_state t c) cs K in
        let stands = stands_at t (fresh_state t c) cs K a fore while ending whole same_count while [] (sym (append-nil while)) in
        let f = at_found (services_of a []) none_left stands in
        let known = served_known t (fresh_state t c) cs K a fore while ending whole same_count G in
        record {
          front = fore;
          mid = while;
          rest = Z.rest;
          events = whole;
          others = f.0;
          first = f.1;
          number = number_is;
          since = since_is;
          list = ap (entries t a) bytes_are;
          unrefused = unrefused_is;
          in_time = in_time t (fresh_state t c) cs K a fore while ending whole same_count G f.0 f.1 Z.rest refl;
          no_idle = never_idle t (fresh_state t c) cs K a fore while ending whole same_count G la;
          meets = λ x y b e. meeting_deepest t k a b la (known x y b e);
        }
