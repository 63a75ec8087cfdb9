-- The run on a channel is computed once, and what waits before its first slot; all that is answered follows from its bytes, as every wait begins in slot 0.
use Prim.Native.Nat.{ℕ, zero, suc, ◌+◌, ◌≤◌, ◌<◌}
use mathlib.Core.Bool.{Bool, true, ◌||◌}
use mathlib.Core.List.{List, [], ◌∷◌}
use mathlib.Core.Path.{◌≡◌, refl, sym, ◌∙◌, ap, ap₂}
use native.Mathlib.Decide.{dec_lt}
use native.Mathlib.Nat.{zero-add}
use native.Mathlib.Omega.{arith}
use lib.Count.{ones}
use lib.Dec.{eqb, leb, ltb}
use lib.ListN.{get_or, length, replicate, take, drop}
use borrow.Author.Tests.{lt-ltb}
use lib.Seq.{take_all, take-append-le}
use Rattle.folds.specs.Fold.{pick, sum, all}
use Rattle.folds.proofs.Folds.{picked}
use Rattle.model.specs.declared.Tree.{Tree}
use Rattle.model.specs.declared.Channel.{Channel}
use Rattle.model.specs.declared.Channel.TheVariants.{Read, Write}
use Rattle.model.specs.Tree.{above}
use Rattle.model.specs.Trees.{chain}
use Rattle.model.specs.Beneath.{inside}
use Rattle.rules.specs.Rules.{tree_keeps, state_keeps, sized, record_keeps, turn_keeps, bus_keeps, carries, root_placed, child_placed, used_interconnect, unused_interconnect, used_accelerator, unused_accelerator}
use Rattle.turns.specs.Turns.{who, after, turn_port, turn_allowance, seek, bits_below}
use Rattle.machine.specs.Machine.{offered, slotted, tick}
use Rattle.runner.specs.Offers.{offer_held, offer_each}
use Rattle.runner.specs.Run.{Run, held_with, left_after, last_byte, before_slot, next, trail, start, run_for}
use Rattle.runner.specs.Slots.{standing, bytes_before}
use Rattle.runner.proofs.Laws.{ran, bytes_length}
use Rattle.meeting.specs.Meeting.{crosses, meeting}
use Rattle.runner.specs.Wait.{count_in, first, used_by, taken_by, admission_slot, service_slot}
use Rattle.waits.specs.Why.{entries, denied, waited, fewer, list_of, why_from}
use Rattle.runs.specs.Figures.{asked, Figures}

first_here : (n : ℕ) (f : ℕ → Bool) → f 0 ≡ true → first (suc n) f ≡ 0
unfolding first
first_here zero f e = picked (f 0) 0 1 e
first_here (suc n) f e = ap (λ (i : ℕ). pick (ltb i (suc n)) i (pick (f (suc n)) (suc n) (suc (suc n)))) (first_here n f e)
    ∙ picked _ 0 _ (lt-ltb 0 (suc n) (omega arith))

first_same : (n : ℕ) (f g : ℕ → Bool) → ((i : ℕ) → i < n → f i ≡ g i) → first n f ≡ first n g
unfolding first
first_same zero f g h = refl
first_same (suc n) f g h =
    ap₂ (λ (i : ℕ) (b : Bool). pick (ltb i n) i (pick b n (suc n))) (first_same n f g (λ i l. h i (omega arith))) (h n (omega arith))

-- fewer slots write fewer of the same bytes
bytes_sooner : (t : Tree) (r : Run) (n m : ℕ) → n ≤ m → bytes_before n t r ≡ take n (bytes_before m t r)
unfolding bytes_before
bytes_sooner t r zero zero h = refl
bytes_sooner t r (suc n) zero h = absurd (omega arith)
bytes_sooner t r n (suc m) h = elim (dec_lt m n) [
  | no d ↦
      bytes_sooner t r n m (omega arith)
      ∙ sym (take-append-le n (bytes_before m t r) (last_byte t (standing m t r) ∷ []) (omega (arith, bytes_length m t r)))
  | yes l ↦
      let e : n ≡ suc m = omega arith in
      ap (λ (i : ℕ). bytes_before i t r) e ∙ sym (take_all n (bytes_before (suc m) t r) (omega (arith, bytes_length (suc m) t r)))
]

abbrev whole : List ℕ
whole = 0 ∷ 1 ∷ 0 ∷ 2 ∷ 0 ∷ 1 ∷ 0 ∷ 3 ∷ []

abbrev run : Channel → Run
run c = start chain c asked

abbrev offered_first : List ℕ
offered_first = 4 ∷ 2 ∷ 1 ∷ 1 ∷ replicate 28 0

run_bytes : (c : Channel) → (run_for chain c asked 65536).bytes ≡ whole
unfolding offer_held offer_each held_with left_after next offered slotted tick who after turn_port turn_allowance seek bits_below tree_keeps state_keeps sized record_keeps turn_keeps bus_keeps carries root_placed child_placed used_interconnect unused_interconnect used_accelerator unused_accelerator inside above sum all ones trail
run_bytes Read = refl
run_bytes Write = refl

first_waits : (c : Channel) → (before_slot chain (run c)).state.waiting ≡ offered_first
unfolding offer_held offer_each held_with offered tree_keeps state_keeps sized record_keeps turn_keeps bus_keeps carries root_placed child_placed used_interconnect unused_interconnect used_accelerator unused_accelerator inside above sum all ones
first_waits Read = refl
first_waits Write = refl

used : (c : Channel) → used_by chain c asked 65536 ≡ 8
used c = ap length (run_bytes c)

bytes : (c : Channel) → bytes_before 8 chain (run c) ≡ whole
bytes c = ap (λ (n : ℕ). bytes_before n chain (run c)) (sym (used c)) ∙ sym (ran 65536 chain (run c)).bytes ∙ run_bytes c

module _ (c : Channel) (a k : ℕ) where
  abbrev serves : ℕ
  serves = first 8 (λ n. leb k (count_in a (take (suc n) whole)))

  few : fewer chain c asked a k ≡ (eqb k 0 || ltb (count_in a whole) k)
  few = ap (λ (bs : List ℕ). eqb k 0 || ltb (count_in a bs) k) (ap (λ (n : ℕ). bytes_before n chain (run c)) (used c) ∙ bytes c)

  service : service_slot chain (run c) 8 a k ≡ serves
  service = first_same 8 _ _ (λ n l. ap (λ (bs : List ℕ). leb k (count_in a bs)) (bytes_sooner chain (run c) (suc n) 8 (omega arith) ∙ ap (take (suc n)) (bytes c)))

  module _ (h : leb k (get_or offered_first a 0) ≡ true) where
    admission : admission_slot chain (run c) 8 a k ≡ 0
    unfolding count_in bytes_before standing
    admission = first_here 7 (λ n. leb k (taken_by chain (run c) a n)) (ap (λ (w : List ℕ). leb k (0 + get_or w a 0)) (first_waits c) ∙ ap (leb k) (zero-add (get_or offered_first a 0)) ∙ h)

    list : list_of chain c asked a k ≡ take serves whole
    list =
        ap (λ (m : ℕ). drop (admission_slot chain (run c) m a k) (take (service_slot chain (run c) m a k) (bytes_before m chain (run c)))) (used c)
        ∙ ap (λ (i : ℕ). drop i (take (service_slot chain (run c) 8 a k) (bytes_before 8 chain (run c)))) admission
        ∙ ap₂ (λ (o : ℕ) (bs : List ℕ). take o bs) service (bytes c)

    answer : why_from chain c asked a k
        ≡ pick (leb 4 a) (denied 7) (pick (eqb k 0 || ltb (count_in a whole) k) (denied 12) (waited (length (take serves whole)) 0))
    unfolding why_from
    answer =
        ap (λ (b : Bool). pick (leb 4 a) (denied 7) (pick b (denied 12) (waited (length (list_of chain c asked a k)) (admission_slot chain (run c) (used_by chain c asked 65536) a k)))) few
        ∙ ap₂ (λ (l : List ℕ) (i : ℕ). pick (leb 4 a) (denied 7) (pick (eqb k 0 || ltb (count_in a whole) k) (denied 12) (waited (length l) i)))
        list (ap (λ (m : ℕ). admission_slot chain (run c) m a k) (used c) ∙ admission)

pub figures : (c : Channel) → Figures c
unfolding entries count_in first crosses meeting above sum why_from
figures c = record {
  last = answer c 3 1 refl;
  last_list = ap (entries chain 3) (list c 3 1 refl);
  own = answer c 0 2 refl;
  own_list = ap (entries chain 0) (list c 0 2 refl);
  at_once = answer c 0 1 refl;
  fifth = picked _ (denied 12) _ (few c 0 5);
  none = refl;
  unknown = refl;
}
