-- The loop of a run turn by turn: what it has told of one transaction after n slots.
use Prim.Native.Nat.{ℕ, suc, ◌+◌, ◌≤◌, ◌<◌}
use mathlib.Core.Bool.{Bool, true, false}
use mathlib.Core.List.{List, [], ◌∷◌, ◌++◌}
use mathlib.Core.Path.{◌≡◌, refl, sym, ◌∙◌, ap, ap₂}
use native.Mathlib.Decide.{dec_lt, ℕ_discrete}
use native.Mathlib.Numerals.{add-one}
use native.Mathlib.Omega.{arith}
use lib.Dec.{eqb, leb, ltb}
use lib.ListN.{length, set}
use Rattle.model.specs.declared.Tree.{Tree}
use Rattle.folds.specs.Fold.{pick}
use borrow.Author.Tests.{le-ltb, eq-eqb, ne_eqb}
use Rattle.folds.proofs.Folds.{picked, passed}
use Rattle.model.specs.declared.State.{State}
use Rattle.model.specs.Tree.{waiting_of}
use Rattle.machine.specs.Machine.{Outcome, chosen, tick, slotted}
use Rattle.machine.proofs.Cases.{Slotted, stops, idles, serves, slot_cases}
use Rattle.machine.proofs.Laws.{slot_serves}
use Rattle.runner.specs.Run.{Run, Trail, before_slot, byte_of, last_byte, next, is_done, trail, end_after, end_of, over}
use Rattle.runner.specs.Slots.{standing, bytes_before}
use Rattle.runner.specs.Wait.{count_in, first, taken_by, admission_slot, service_slot, Waits, waits, no_wait, waits_after, least_of, served_in, tell_on, asked_of}
use Rattle.runner.proofs.Slots.{Running, running_start, running_turn, running_ended}
use Rattle.runner.proofs.Laws.{ending_done, ending_stopped, bytes_length}

pub count_append : (a : ℕ) (xs ys : List ℕ) → count_in a (xs ++ ys) ≡ count_in a xs + count_in a ys
unfolding count_in
count_append a [] ys = omega arith
count_append a (x ∷ xs) ys = omega (arith, count_append a xs ys)

pub count_one : (a b : ℕ) → count_in a (b ∷ []) ≡ pick (eqb a b) 1 0
unfolding count_in
count_one a b = omega arith

pub count_few : (a : ℕ) (bs : List ℕ) → count_in a bs ≤ length bs
unfolding count_in
count_few a [] = omega arith
count_few a (b ∷ bs) = go (eqb a b) (count_few a bs)
  where
    go : (c : Bool) → count_in a bs ≤ length bs → pick c 1 0 + count_in a bs ≤ suc (length bs)
    go true h = omega arith
    go false h = omega arith

first_next : (n : ℕ) (f : ℕ → Bool) → least_of (first n f) n (f n) ≡ first (n + 1) f
unfolding first
first_next n f = ap (λ (m : ℕ). pick (ltb (first n f) n) (first n f) (pick (f n) n m)) (add-one n) ∙ ap (λ (m : ℕ). first m f) (sym (add-one n))

-- the three numbers that the code works out
pub told_as : (w : Waits) (k a n m b i o c : ℕ) → (k ≡ 0 → ⊥) → i ≡ least_of w.admission n (leb k (c + m)) → c ≡ served_in w a b
    → o ≡ least_of w.service n (leb k c) → waits i o c ≡ tell_on w k a n m b
told_as w k a n m b i o c z I C O =
    ap₂ (λ (x y : ℕ). waits x y c) I O
    ∙ ap (λ (x : ℕ). waits (least_of w.admission n (leb k (x + m))) (least_of w.service n (leb k x)) x) C
    ∙ sym (passed _ _ _ (ne_eqb k 0 z))

-- a slot takes one off the waiting count of the accelerator that it serves, and off no other
byte_waiting : (t : Tree) (s : State) (a : ℕ) → (a ≡ 255 → ⊥) → (o : Outcome) → o ≡ slotted t s → Slotted t s o
    → waiting_of s a ≡ pick (eqb a (byte_of o.answer)) 1 0 + waiting_of o.state a
unfolding tick
byte_waiting t s a d o e (stops x) = omega (arith, passed {A = ℕ} (eqb a 255) 1 0 (ne_eqb a 255 d))
byte_waiting t s a d o e (idles k h z) = omega (arith, passed {A = ℕ} (eqb a 255) 1 0 (ne_eqb a 255 d))
byte_waiting t s a d o e (serves k h z) =
    let b = chosen t s in
    let S = slot_serves t s k b (ap (λ (x : Outcome). x.answer) (sym e)) in
    let same = ap (λ (x : Outcome). waiting_of x.state a) e in
    elim (ℕ_discrete a b) [
      | yes q ↦ omega (arith, picked {A = ℕ} (eqb a b) 1 0 (eq-eqb a b q), S.own, ap (waiting_of s) q, ap (waiting_of (slotted t s).state) q, same)
      | no f ↦ omega (arith, passed {A = ℕ} (eqb a b) 1 0 (ne_eqb a b f), S.others a f, same)
    ]

pub slot_waiting : (t : Tree) (s : State) (a : ℕ) → (a ≡ 255 → ⊥)
    → waiting_of s a ≡ pick (eqb a (byte_of (slotted t s).answer)) 1 0 + waiting_of (slotted t s).state a
slot_waiting t s a d = byte_waiting t s a d (slotted t s) refl (slot_cases t s)

-- what is told after one slot more
module _ (t : Tree) (r : Run) (a k n : ℕ) where
  abbrev there : Run
  there = standing n t r

  -- of a number from 1 on
  abbrev full : ℕ → Waits
  full m = waits (admission_slot t r m a k) (service_slot t r m a k) (count_in a (bytes_before m t r))

  pub told_full : (k ≡ 0 → ⊥) → (m : ℕ) → waits_after t r m a k ≡ full m
  told_full z m = passed (eqb k 0) no_wait (full m) (ne_eqb k 0 z)

  count_next : pick (eqb a (last_byte t there)) 1 0 + count_in a (bytes_before n t r) ≡ count_in a (bytes_before (suc n) t r)
  unfolding standing bytes_before
  count_next = omega (arith, count_append a (bytes_before n t r) (last_byte t there ∷ []), count_one a (last_byte t there))

  -- those admitted by then are served with this slot, or wait after it
  taken_next : (a ≡ 255 → ⊥) → served_in (full n) a (last_byte t there) + waiting_of (next t there).state a ≡ taken_by t r a n
  unfolding next
  taken_next d = omega (arith, slot_waiting t (before_slot t there).state a d)

  tell_full : (k ≡ 0 → ⊥) → (a ≡ 255 → ⊥) → tell_on (full n) k a n (waiting_of (next t there).state a) (last_byte t there) ≡ full (n + 1)
  tell_full z d =
      passed _ _ _ (ne_eqb k 0 z)
      ∙ ap (λ (x : ℕ). waits (least_of (admission_slot t r n a k) n (leb k x)) (least_of (service_slot t r n a k) n (leb k (served_in (full n) a (last_byte t there)))) (served_in (full n) a (last_byte t there))) (taken_next d)
      ∙ ap₂ (λ (x y : ℕ). waits x (least_of (service_slot t r n a k) n (leb k y)) y) (first_next n (λ m. leb k (taken_by t r a m))) count_next
      ∙ ap₂ (λ (x m : ℕ). waits (admission_slot t r (n + 1) a k) x (count_in a (bytes_before m t r)))
      (first_next n (λ m. leb k (count_in a (bytes_before (suc m) t r)))) (sym (add-one n))

  -- b was served, and m of it wait then, which matters only where a number is asked
  tell_next : (m b : ℕ) → ((k ≡ 0 → ⊥) → a ≡ 255 → ⊥) → ((k ≡ 0 → ⊥) → m ≡ waiting_of (next t there).state a) → b ≡ last_byte t there
      → tell_on (waits_after t r n a k) k a n m b ≡ waits_after t r (n + 1) a k
  tell_next m b A M q = elim (ℕ_discrete k 0) [
    | yes z ↦ picked _ _ _ (eq-eqb k 0 z) ∙ picked (eqb k 0) no_wait (full n) (eq-eqb k 0 z) ∙ sym (picked (eqb k 0) no_wait (full (n + 1)) (eq-eqb k 0 z))
    | no d ↦
        ap (λ (x : Waits). tell_on x k a n m b) (told_full d n)
        ∙ ap₂ (tell_on (full n) k a n) (M d) q ∙ tell_full d (A d) ∙ sym (told_full d (n + 1))
  ]

-- a number is asked of an accelerator of the tree alone
pub asked_known : (t : Tree) (a k m : ℕ) → m ≡ asked_of t a k → (m ≡ 0 → ⊥) → a < t.accs
asked_known t a k m e z = elim (dec_lt a t.accs) [ yes l ↦ l | no d ↦ absurd (z (e ∙ passed _ _ _ (le-ltb a t.accs (omega arith)))) ]

-- after n slots the run from r₀ stands at r, and so much has been told
pub record Telling (t : Tree) (r₀ : Run) (a k : ℕ) (d₀ d : List ℕ) (w : Waits) (n : ℕ) (r : Run) : Type 0 where
  pub running : Running t (trail (length d₀) t r₀) d₀ d n r
  pub stands : r ≡ standing n t r₀
  pub tells : w ≡ waits_after t r₀ n a k

pub telling_start : (t : Tree) (r : Run) (a k : ℕ) (d : List ℕ) → Telling t r a k d d (waits 0 0 0) 0 r
unfolding standing bytes_before count_in first
telling_start t r a k d = record { running = running_start t d r; stands = refl; tells = none (eqb k 0) }
  where
    none : (b : Bool) → no_wait ≡ pick b no_wait no_wait
    none true = refl
    none false = refl

module _ (t : Tree) (r₀ : Run) (a k : ℕ) (d₀ d : List ℕ) (w : Waits) (n : ℕ) (r : Run) (T : Telling t r₀ a k d₀ d w n r) where
  -- a slot of a run over at most 65,536 bytes
  pub telling_slot : n < length d → length d₀ ≤ 65536 → n < 65536
  telling_slot l h = omega (arith, T.running.long)

  pub telling_few : w.count ≤ n
  telling_few = omega (arith, ap (λ (x : Waits). x.count) T.tells, few (eqb k 0))
    where
      few : (b : Bool) → (pick b no_wait (waits (admission_slot t r₀ n a k) (service_slot t r₀ n a k) (count_in a (bytes_before n t r₀)))).count ≤ n
      few true = omega arith
      few false = omega (arith, count_few a (bytes_before n t r₀), bytes_length n t r₀)

  pub telling_turn : n < length d → is_done r ≡ false → ((k ≡ 0 → ⊥) → a ≡ 255 → ⊥) → (m : ℕ) → ((k ≡ 0 → ⊥) → m ≡ waiting_of (next t r).state a)
      → (b : ℕ) (w' : Waits) → w' ≡ tell_on w k a n m b → b ≡ last_byte t r → Telling t r₀ a k d₀ (set d n b) w' (n + 1) (next t r)
  unfolding standing
  telling_turn l e A m M b w' W q =
      record {
        running = running_turn t _ d₀ d n r T.running l e b q;
        stands = ap (next t) T.stands ∙ ap (λ (i : ℕ). standing i t r₀) (sym (add-one n));
        tells =
            W ∙ ap (λ (x : Waits). tell_on x k a n m b) T.tells
            ∙ tell_next t r₀ a k n m b A (λ z. M z ∙ ap (λ (x : Run). waiting_of (next t x).state a) T.stands) (q ∙ ap (last_byte t) T.stands);
      }

  all_used : (b : Bool) (x : Trail) → end_after b n ≡ end_of x → n ≡ length x.bytes
  all_used true x e = sym (ending_done x n (sym e)).1
  all_used false x e = sym (ending_stopped x n (sym e)).1

  pub telling_ended : (b : Bool) → (b ≡ false → length d ≤ n) → is_done r ≡ b
      → (end_after b n ≡ end_of (trail (length d₀) t r₀)) × (d ≡ over (trail (length d₀) t r₀) d₀)
      × (w ≡ waits_after t r₀ (length (trail (length d₀) t r₀).bytes) a k)
  telling_ended b f e =
      let R = running_ended t _ d₀ d n r T.running b f e in
      (R.0, R.1, T.tells ∙ ap (λ (m : ℕ). waits_after t r₀ m a k) (all_used b (trail (length d₀) t r₀) R.0))
