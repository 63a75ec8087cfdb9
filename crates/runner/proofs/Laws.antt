-- The laws of a run. It goes on exactly while something is left and the buffer has room, so that the slots used are the slots
-- of the defined run, one byte each; no slot of it is refused. By induction on the slots.
use Prim.Native.Nat.{ℕ, zero, suc, ◌+◌, ◌-◌, ◌≤◌, ◌<◌}
use mathlib.Core.Bool.{Bool, true, false}
use mathlib.Core.List.{List, [], ◌∷◌, ◌++◌}
use mathlib.Core.Logic.{◌↔◌}
use mathlib.Core.Path.{◌≡◌, refl, sym, ◌∙◌, ap, ap₂, subst}
use native.Mathlib.Decide.{dec_lt}
use native.Mathlib.Omega.{arith}
use lib.Dec.{ltb}
use lib.ListN.{length, length-set}
use borrow.Author.Tests.{lt-ltb, le-ltb, le-leb, lt-leb}
use Rattle.model.specs.declared.Tree.{Tree}
use Rattle.model.specs.declared.Channel.{Channel}
use Rattle.model.specs.declared.State.{State}
use Rattle.folds.specs.Fold.{pick}
use Rattle.rules.specs.Rules.{tree_keeps, keeps}
use Rattle.folds.proofs.Folds.{picked, passed, clash}
use Rattle.trace.specs.declared.Request.{Request}
use Rattle.machine.specs.Machine.{refused, offered, last_slot, slotted}
use Rattle.machine.proofs.Laws.{fresh_keeps, offer_others, slot_keeps, slot_only_last, slot_windows}
use Rattle.runner.specs.Offers.{Offering, held_of, release, offering, offer_held, offer_each}
use Rattle.runner.specs.Run.{Run, hold, is_due, held_with, left_after, with_due, before_slot, last_byte, next, is_done, Trail, trail, start, done, stopped, end_of}
use Rattle.runner.specs.Slots.{standing, bytes_before}
use Rattle.runner.proofs.Held.{each_same, either, each_kept}
use Rattle.runner.proofs.Slots.{trail_done, trail_none, trail_slot}

-- one slot first, or last
standing_next : (n : ℕ) (t : Tree) (r : Run) → standing n t (next t r) ≡ standing (suc n) t r
unfolding standing
standing_next zero t r = refl
standing_next (suc n) t r = ap (next t) (standing_next n t r)

bytes_next : (n : ℕ) (t : Tree) (r : Run) → last_byte t r ∷ bytes_before n t (next t r) ≡ bytes_before (suc n) t r
unfolding bytes_before standing
bytes_next zero t r = refl
bytes_next (suc n) t r =
    ap₂ (λ (bs : List ℕ) (x : Run). bs ++ last_byte t x ∷ []) (bytes_next n t r) (standing_next n t r)

pub bytes_length : (n : ℕ) (t : Tree) (r : Run) → length (bytes_before n t r) ≡ n
unfolding bytes_before
bytes_length zero t r = refl
bytes_length (suc n) t r = sym (ap length (bytes_next n t r)) ∙ ap suc (bytes_length n t (next t r))

-- what the trail of a run over at most k slots is
pub record Ran (k : ℕ) (t : Tree) (r : Run) (x : Trail) : Type 0 where
  -- the slots used are at most the buffer's length
  pub slots : length x.bytes ≤ k
  -- one byte a slot
  pub bytes : x.bytes ≡ bytes_before (length x.bytes) t r
  -- "Done is tested before each slot": none of the slots used began done
  pub going : (i : ℕ) → i < length x.bytes → is_done (standing i t r) ≡ false
  -- done is said exactly if it is so after the slots used
  pub ends : x.done ≡ is_done (standing (length x.bytes) t r)
  -- and if it is not so, the buffer is full
  pub full : x.done ≡ false → length x.bytes ≡ k

module _ (k : ℕ) (t : Tree) (r : Run) where
  ran_done : is_done r ≡ true → Ran (suc k) t r (trail (suc k) t r)
  unfolding standing bytes_before
  ran_done e =
      subst (Ran (suc k) t r) (sym (trail_done (suc k) t r e))
      (record {
        slots = omega arith;
        bytes = refl;
        going = λ i h. absurd (omega arith);
        ends = sym e;
        full = λ f. clash cc;
      })

  module _ (e : is_done r ≡ false) (R : Ran k t (next t r) (trail k t (next t r))) where
    going_on : (i : ℕ) → i < suc (length (trail k t (next t r)).bytes) → is_done (standing i t r) ≡ false
    unfolding standing
    going_on zero h = e
    going_on (suc i) h = sym (ap is_done (standing_next i t r)) ∙ R.going i (omega arith)

    ran_slot : Ran (suc k) t r (trail (suc k) t r)
    ran_slot =
        let n = length (trail k t (next t r)).bytes in
        subst (Ran (suc k) t r) (sym (trail_slot k t r e))
        (record {
          slots = omega (arith, R.slots);
          bytes = ap (λ (bs : List ℕ). last_byte t r ∷ bs) R.bytes ∙ bytes_next n t r;
          going = going_on;
          ends = R.ends ∙ ap is_done (standing_next n t r);
          full = λ f. ap suc (R.full f);
        })

pub test : {A : Type 0} (b : Bool) → (b ≡ true → A) → (b ≡ false → A) → A
test true f g = f refl
test false f g = g refl

pub ran : (k : ℕ) (t : Tree) (r : Run) → Ran k t r (trail k t r)
unfolding standing bytes_before
ran zero t r =
    subst (Ran 0 t r) (sym (trail_none t r))
    (record { slots = omega arith; bytes = refl; going = λ i h. absurd (omega arith); ends = refl; full = λ e. refl })
ran (suc k) t r = test (is_done r) (ran_done k t r) (λ e. ran_slot k t r e (ran k t (next t r)))

-- the end of a trail, by whether it is done
pub ending_stopped : (x : Trail) (m : ℕ) → end_of x ≡ stopped m → (x.done ≡ false) × (length x.bytes ≡ m)
ending_stopped x m = go x.done
  where
    go : (b : Bool) → pick b (done (length x.bytes)) (stopped (length x.bytes)) ≡ stopped m → (b ≡ false) × (length x.bytes ≡ m)
    go true e = clash cc
    go false e = (refl, cc)

pub ending_done : (x : Trail) (m : ℕ) → end_of x ≡ done m → (x.done ≡ true) × (length x.bytes ≡ m)
ending_done x m = go x.done
  where
    go : (b : Bool) → pick b (done (length x.bytes)) (stopped (length x.bytes)) ≡ done m → (b ≡ true) × (length x.bytes ≡ m)
    go true e = (refl, cc)
    go false e = clash cc

-- "Stopped is reported exactly if the buffer is full and this is not so"
pub stopped_exactly : (k : ℕ) (t : Tree) (r : Run) (m : ℕ)
    → (end_of (trail k t r) ≡ stopped m) ↔ ((m ≡ k) × (length (trail k t r).bytes ≡ k) × (is_done (standing k t r) ≡ false))
stopped_exactly k t r m = (
  λ e.
      let s = ending_stopped (trail k t r) m e in
      let f = R.full s.0 in
      (sym s.1 ∙ f, f, ap (λ (n : ℕ). is_done (standing n t r)) (sym f) ∙ sym R.ends ∙ s.0),
  λ h.
      passed _ _ _ (R.ends ∙ ap (λ (n : ℕ). is_done (standing n t r)) h.1 ∙ h.2) ∙ ap stopped (h.1 ∙ sym h.0),
)
  where
    R : Ran k t r (trail k t r)
    R = ran k t r

-- done with m slots used: it is so after m slots, and was so before none of them
pub done_exactly : (k : ℕ) (t : Tree) (r : Run) (m : ℕ)
    → (end_of (trail k t r) ≡ done m) ↔ ((length (trail k t r).bytes ≡ m) × (is_done (standing m t r) ≡ true))
done_exactly k t r m = (
  λ e.
      let s = ending_done (trail k t r) m e in
      (s.1, ap (λ (n : ℕ). is_done (standing n t r)) (sym s.1) ∙ sym R.ends ∙ s.0),
  λ h. picked _ _ _ (R.ends ∙ ap (λ (n : ℕ). is_done (standing n t r)) h.0 ∙ h.1) ∙ ap done h.0,
)
  where
    R : Ran k t r (trail k t r)
    R = ran k t r

-- offers leave the slot count, and keep the held counts' number
each_slot : (n : ℕ) (t : Tree) (o : Offering) → (offer_each n t o).state.slot ≡ o.state.slot
each_slot n t = each_same (λ (s : State). s.slot) t (λ s a. (offer_others t s a).slot) n

held_long : (k : ℕ) (t : Tree) (o : Offering) (a : ℕ) → length (offer_held k t o a).held ≡ length o.held
unfolding offer_held
held_long zero t o a = refl
held_long (suc k) t o a =
    either (λ (p : Offering). length p.held ≡ length o.held) (offered t o.state a).answer _ o
    (held_long k t (offering (offered t o.state a).state (release o.held a)) a ∙ length-set o.held a (held_of o.held a - 1)) refl

each_long : (n : ℕ) (t : Tree) (o : Offering) → length (offer_each n t o).held ≡ length o.held
unfolding offer_each
each_long zero t o = refl
each_long (suc n) t o = held_long (held_of (offer_each n t o).held n) t (offer_each n t o) n ∙ each_long n t o

pub due_long : (n : ℕ) (h : List ℕ) (rs : List Request) → length (held_with n h rs) ≡ length h
unfolding held_with
due_long n h [] = refl
due_long n h (r ∷ rs) =
    test (is_due n r)
    (λ e. ap length (picked _ (held_with n (hold h r) rs) h e) ∙ due_long n (hold h r) rs
    ∙ length-set h r.accelerator (held_of h r.accelerator + r.count))
    (λ e. ap length (passed _ (held_with n (hold h r) rs) h e))

-- the lines of rs from the first on that is not due before slot n
unfoldable pub left_from : ℕ → List Request → List Request
left_from n [] = []
left_from n (r ∷ rs) = pick (ltb r.slot n) (left_from n rs) (r ∷ rs)

-- the lines left, slot by slot
left_start : (rs : List Request) → left_from 0 rs ≡ rs
unfolding left_from
left_start [] = refl
left_start (r ∷ rs) = passed _ _ _ (le-ltb r.slot 0 (omega arith))

pub same_due : (n : ℕ) (r : Request) → is_due n r ≡ ltb r.slot (suc n)
same_due n r = elim (dec_lt n r.slot) [
  | yes h ↦ lt-leb r.slot n h ∙ sym (le-ltb r.slot (suc n) (omega arith))
  | no d ↦ le-leb r.slot n (omega arith) ∙ sym (lt-ltb r.slot (suc n) (omega arith))
]

left_once : (n : ℕ) (rs : List Request) → left_after n rs ≡ left_from (suc n) rs
unfolding left_after left_from
left_once n [] = refl
left_once n (r ∷ rs) = ap₂ (λ (b : Bool) (x : List Request). pick b x (r ∷ rs)) (same_due n r) (left_once n rs)

left_more : (n : ℕ) (rs : List Request) → left_after n (left_from n rs) ≡ left_from (suc n) rs
unfolding left_from
left_more n [] = left_once n []
left_more n (r ∷ rs) = elim (dec_lt r.slot n) [
  | yes h ↦
      ap (left_after n) (passed_in h) ∙ left_more n rs ∙ sym (picked _ _ _ (lt-ltb r.slot (suc n) (omega arith)))
  | no d ↦ ap (left_after n) (passed _ _ _ (le-ltb r.slot n (omega arith))) ∙ left_once n (r ∷ rs)
]
  where
    passed_in : r.slot < n → pick (ltb r.slot n) (left_from n rs) (r ∷ rs) ≡ left_from n rs
    passed_in h = picked _ _ _ (lt-ltb _ _ h)

-- where a run stands after n slots
pub record Stood (t : Tree) (rs : List Request) (n : ℕ) (r : Run) : Type 0 where
  pub keeps_rules : keeps t r.state ≡ true
  pub slot : r.state.slot ≡ n
  pub long : length r.held ≡ 32
  pub left : r.left ≡ left_from n rs

module _ (t : Tree) (rs : List Request) (n : ℕ) (r : Run) (S : Stood t rs n r) (l : n < last_slot) where
  kept : keeps t (before_slot t r).state ≡ true
  kept = each_kept t.accs t (with_due r) S.keeps_rules

  -- a slot of a run is never refused
  pub stood_unrefused : (m : ℕ) → (slotted t (before_slot t r).state).answer ≡ refused m → ⊥
  stood_unrefused m e =
      omega (arith, (slot_only_last t (before_slot t r).state kept m e).1, each_slot t.accs t (with_due r), S.slot)

  stood_next : Stood t rs (suc n) (next t r)
  unfolding next
  stood_next = record {
    keeps_rules = slot_keeps t (before_slot t r).state kept;
    slot = (slot_windows t (before_slot t r).state stood_unrefused).slot ∙ omega (arith, each_slot t.accs t (with_due r), S.slot);
    long = each_long t.accs t (with_due r) ∙ due_long r.state.slot r.held r.left ∙ S.long;
    left = ap₂ left_after S.slot S.left ∙ left_more n rs;
  }

pub stood : (t : Tree) (c : Channel) (rs : List Request) → tree_keeps t ≡ true → (n : ℕ) → n ≤ last_slot
    → Stood t rs n (standing n t (start t c rs))
unfolding standing
stood t c rs k zero l = record { keeps_rules = fresh_keeps t c k; slot = refl; long = refl; left = sym (left_start rs) }
stood t c rs k (suc n) l = stood_next t rs n (standing n t (start t c rs)) (stood t c rs k n (omega arith)) (omega arith)
