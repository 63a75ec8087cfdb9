-- The answer by what a run told is that of the definition, and the tests before it are those of the run.
use Prim.Native.Nat.{ℕ, zero, suc, ◌-◌, ◌≤◌, ◌<◌}
use mathlib.Core.Bool.{Bool, true, false, not, ◌||◌}
use mathlib.Core.List.{List}
use mathlib.Core.Path.{◌≡◌, refl, sym, ◌∙◌, ap, subst}
use native.Mathlib.Decide.{dec_lt, ℕ_discrete}
use native.Mathlib.Omega.{arith}
use lib.Dec.{ltb, leb, eqb}
use lib.ListN.{length, take, drop, length-append}
use lib.Seq.{take-append-le, length-slice}
use borrow.Author.Tests.{lt-ltb, le-ltb, le-leb, lt-leb, eq-eqb, ne_eqb}
use Rattle.model.specs.declared.Tree.{Tree}
use Rattle.model.specs.declared.Channel.{Channel}
use Rattle.folds.specs.Fold.{pick}
use Rattle.rules.specs.Rules.{tree_keeps}
use Rattle.folds.proofs.Folds.{picked, passed}
use Rattle.text.specs.Text.{lines}
use Rattle.trace.specs.declared.Request.{Request}
use Rattle.lines.specs.Answer.{FileAnswer, Accepted, Refused, Broken}
use Rattle.trace.specs.TraceFile.{read_trace, requests}
use Rattle.runner.specs.Run as run
use Rattle.runner.specs.Run.{Trail, start, run_for, Ending, end_after, end_of, answered, over, ran_of, buffer_after}
use Rattle.runner.specs.Slots.{bytes_before}
use Rattle.runner.specs.Wait.{count_in, first, admission_slot, service_slot, Waits, waits, no_wait, waits_after, used_by, asked_of, wait_for, told_of}
use Rattle.runner.proofs.Laws.{ran, bytes_length}
use Rattle.runner.proofs.Endings.{ran_by, told_by_lem, buffer_by_lem}
use Rattle.waits.specs.Why.{entries, Why, refused_at, denied, waited, list_of, fewer, why_from, list_over, buffer_from, why_read, buffer_read, why_of, why_buffer}
use Rattle.waits.specs.Told.{answer_by, buffer_by, why_by, left_by}

first_most : (n : ℕ) (f : ℕ → Bool) → first n f ≤ n
unfolding first
first_most zero f = omega arith
first_most (suc n) f = go (ltb (first n f) n) (f n) (first_most n f)
  where
    go : (b c : Bool) → first n f ≤ n → pick b (first n f) (pick c n (suc n)) ≤ suc n
    go true c h = omega arith
    go false true h = omega arith
    go false false h = omega arith

-- what the run over a buffer of 65,536 bytes told, and its bytes
module _ (t : Tree) (ch : Channel) (rs : List Request) (a k : ℕ) (w : Waits) (W : w ≡ wait_for t ch rs a k 65536) where
  abbrev m : ℕ
  m = used_by t ch rs 65536

  abbrev all : List ℕ
  all = bytes_before m t (start t ch rs)

  abbrev full : ℕ → Waits
  full i = waits (admission_slot t (start t ch rs) m a i) (service_slot t (start t ch rs) m a i) (count_in a all)

  known : a < t.accs → (k ≡ 0 → ⊥) → w ≡ full k
  known l z = W ∙ ap (waits_after t (start t ch rs) m a) (picked _ _ _ (lt-ltb a t.accs l)) ∙ passed (eqb k 0) no_wait (full k) (ne_eqb k 0 z)

  service_there : w.service ≤ m
  service_there = subst (λ (x : Waits). x.service ≤ m) (sym W) (go (eqb (asked_of t a k) 0))
    where
      go : (b : Bool) → (pick b no_wait (full (asked_of t a k))).service ≤ m
      go true = omega arith
      go false = first_most m _

  -- how many slots lie between
  between : length (list_of t ch rs a k) ≡ service_slot t (start t ch rs) m a k - admission_slot t (start t ch rs) m a k
  between = length-slice (admission_slot t (start t ch rs) m a k) (service_slot t (start t ch rs) m a k) all
      (omega (arith, first_most m (λ n. leb k (count_in a (bytes_before (suc n) t (start t ch rs)))), bytes_length m t (start t ch rs)))

  pub answer_is : answer_by t a k w ≡ why_from t ch rs a k
  unfolding why_from
  answer_is = elim (dec_lt a t.accs) [
    | no d ↦ let u = le-leb t.accs a (omega arith) in picked _ _ _ u ∙ sym (picked _ _ _ u)
    | yes l ↦ elim (ℕ_discrete k 0) [
      | yes z ↦
          let u = lt-leb t.accs a l in
          let v : (n : ℕ) → (eqb k 0 || ltb n k) ≡ true = λ n. ap (λ b. b || ltb n k) (eq-eqb k 0 z) in
          passed _ _ _ u ∙ picked _ _ _ (v w.count) ∙ sym (passed _ _ _ u ∙ picked _ _ _ (v (count_in a all)))
      | no z ↦
          ap (answer_by t a k) (known l z)
          ∙ ap (λ i. pick (leb t.accs a) (denied 7) (pick (fewer t ch rs a k) (denied 12) (waited i (admission_slot t (start t ch rs) m a k)))) (sym between)
    ]
  ]

  module _ (o : List ℕ) (bs : List ℕ) (B : bs ≡ over (run_for t ch rs 65536) o) where
    pub service_within : w.service ≤ length bs
    service_within = omega (arith, service_there, ap length B, length-append (run_for t ch rs 65536).bytes (drop m o))

    part_there : take w.service bs ≡ take w.service all
    part_there = ap (take w.service) B ∙ take-append-le w.service (run_for t ch rs 65536).bytes _ service_there
        ∙ ap (take w.service) (ran 65536 t (start t ch rs)).bytes

    pub buffer_is : (d : List ℕ) → buffer_by t a k w bs d ≡ buffer_from t ch rs a k d
    unfolding buffer_from
    buffer_is d = elim (dec_lt a t.accs) [
      | no e ↦ let u = le-leb t.accs a (omega arith) in picked _ _ _ u ∙ sym (picked _ _ _ u)
      | yes l ↦ elim (ℕ_discrete k 0) [
        | yes z ↦
            let u = lt-leb t.accs a l in
            let v : (n : ℕ) → (eqb k 0 || ltb n k) ≡ true = λ n. ap (λ b. b || ltb n k) (eq-eqb k 0 z) in
            passed _ _ _ u ∙ picked _ _ _ (v w.count) ∙ sym (passed _ _ _ u ∙ picked _ _ _ (v (count_in a all)))
        | no z ↦
            ap (λ (x : List ℕ). pick (leb t.accs a) d (pick (eqb k 0 || ltb w.count k) d (list_over (entries t a (drop w.admission x)) d))) part_there
            ∙ ap (λ (x : Waits). buffer_by t a k x all d) (known l z)
      ]
    ]

-- the tests before: those of the run over 65,536 bytes, where the lent buffer is in its limit
module _ (t : Tree) (ch : Channel) (s : List ℕ) (a k : ℕ) (d : List ℕ) where
  abbrev rs : List Request
  rs = requests (lines s)

  pub why_long : 65536 < length d → (pick (not (tree_keeps t)) (denied 11) (refused_at 2 0) ≡ why_of t ch s a k (length d)) × (d ≡ why_buffer t ch s a k d)
  unfolding why_of why_buffer
  why_long l = (
    ap (pick (not (tree_keeps t)) (denied 11)) (sym (picked _ _ _ (lt-ltb _ _ l))),
    go (not (tree_keeps t)) ∙ ap (pick (not (tree_keeps t)) d) (sym (picked _ _ _ (lt-ltb _ _ l))),
  )
    where
      go : (b : Bool) → d ≡ pick b d d
      go true = refl
      go false = refl

  module _ (l : length d ≤ 65536) where
    pub why_ran : why_by (ran_of t ch s 65536) (why_from t ch rs a k) ≡ why_of t ch s a k (length d)
    unfolding why_of ran_of
    why_ran = go (tree_keeps t) (read_trace t s) (run_for t ch rs 65536).done
        ∙ ap (λ c. pick (not (tree_keeps t)) (denied 11) (pick c (refused_at 2 0) (why_read (read_trace t s) (why_from t ch rs a k)))) (sym (le-ltb 65536 (length d) l))
      where
        n : ℕ
        n = length (run_for t ch rs 65536).bytes

        go : (b : Bool) (y : FileAnswer) (e : Bool)
            → why_by (pick (not b) (run.broken 11) (pick (ltb 65536 65536) (run.refused_at 2 0) (answered y (record { bytes = (run_for t ch rs 65536).bytes; done = e })))) (why_from t ch rs a k)
            ≡ pick (not b) (denied 11) (pick false (refused_at 2 0) (why_read y (why_from t ch rs a k)))
        go false y e = refl
        go true Accepted true = refl
        go true Accepted false = refl
        go true (Refused r i) e = refl
        go true Broken e = refl

    pub buffer_ran : ran_by (ran_of t ch s 65536) d (buffer_from t ch rs a k d) ≡ why_buffer t ch s a k d
    unfolding why_buffer ran_of
    buffer_ran = go (tree_keeps t) (read_trace t s) (run_for t ch rs 65536).done
        ∙ ap (λ c. pick (not (tree_keeps t)) d (pick c d (buffer_read (read_trace t s) (buffer_from t ch rs a k d) d))) (sym (le-ltb 65536 (length d) l))
      where
        go : (b : Bool) (y : FileAnswer) (e : Bool)
            → ran_by (pick (not b) (run.broken 11) (pick (ltb 65536 65536) (run.refused_at 2 0) (answered y (record { bytes = (run_for t ch rs 65536).bytes; done = e })))) d (buffer_from t ch rs a k d)
            ≡ pick (not b) d (pick false d (buffer_read y (buffer_from t ch rs a k d) d))
        go false y e = refl
        go true Accepted true = refl
        go true Accepted false = refl
        go true (Refused r i) e = refl
        go true Broken e = refl

-- the run over a buffer o of 65,536 bytes ended as x, told w and left bs
module _ (t : Tree) (ch : Channel) (s : List ℕ) (a k : ℕ) (o : List ℕ) (lo : length o ≡ 65536) (x : Ending) (X : x ≡ ran_of t ch s (length o)) (d : List ℕ) (l : length d ≤ 65536) where
  abbrev asked : List Request
  asked = requests (lines s)

  ends : x ≡ ran_of t ch s 65536
  ends = X ∙ ap (ran_of t ch s) lo

  -- refused
  why_refused : (y : Why) → y ≡ why_by x (why_from t ch asked a k) → d ≡ ran_by x d (buffer_from t ch asked a k d)
      → (y ≡ why_of t ch s a k (length d)) × (d ≡ why_buffer t ch s a k d)
  why_refused y Y D = (
    Y ∙ ap (λ (z : Ending). why_by z (why_from t ch asked a k)) ends ∙ why_ran t ch s a k d l,
    D ∙ ap (λ (z : Ending). ran_by z d (buffer_from t ch asked a k d)) ends ∙ buffer_ran t ch s a k d l,
  )

  -- done or stopped
  module _ (is : (A : Type 0) (u v : A) → ran_by x u v ≡ v) (told : (y : Why) → why_by x y ≡ y) (w : Waits) (W : w ≡ told_of t ch s a k (length o))
      (bs : List ℕ) (B : bs ≡ buffer_after t ch s o) where
    ran_wait : w ≡ wait_for t ch asked a k 65536
    ran_wait = W ∙ told_by_lem t ch s a k (length o) ∙ ap (λ (z : Ending). ran_by z no_wait (wait_for t ch asked a k (length o))) (sym X)
        ∙ is Waits no_wait (wait_for t ch asked a k (length o)) ∙ ap (wait_for t ch asked a k) lo

    ran_bytes : bs ≡ over (run_for t ch asked 65536) o
    ran_bytes = B ∙ buffer_by_lem t ch s o ∙ ap (λ (z : Ending). ran_by z o (over (run_for t ch asked (length o)) o)) (sym X)
        ∙ is (List ℕ) o (over (run_for t ch asked (length o)) o) ∙ ap (λ n. over (run_for t ch asked n) o) lo

    why_within : w.service ≤ length bs
    why_within = service_within t ch asked a k w ran_wait o bs ran_bytes

    why_told : (y : Why) → y ≡ answer_by t a k w → (d' : List ℕ) → d' ≡ buffer_by t a k w bs d
        → (y ≡ why_of t ch s a k (length d)) × (d' ≡ why_buffer t ch s a k d)
    why_told y Y d' D = (
      Y ∙ answer_is t ch asked a k w ran_wait ∙ sym (told (why_from t ch asked a k))
          ∙ ap (λ (z : Ending). why_by z (why_from t ch asked a k)) ends ∙ why_ran t ch s a k d l,
      D ∙ buffer_is t ch asked a k w ran_wait o bs ran_bytes d ∙ sym (is (List ℕ) d (buffer_from t ch asked a k d))
          ∙ ap (λ (z : Ending). ran_by z d (buffer_from t ch asked a k d)) ends ∙ buffer_ran t ch s a k d l,
    )

-- however it ended
pub record Tells (t : Tree) (ch : Channel) (s : List ℕ) (a k : ℕ) (d : List ℕ) (x : Ending) (w : Waits) (bs : List ℕ) : Type 0 where
  pub service : w.service ≤ length bs
  pub told : (v : Why) → v ≡ why_by x (answer_by t a k w) → (l : List ℕ) → l ≡ left_by x d (buffer_by t a k w bs d)
      → (v ≡ why_of t ch s a k (length d)) × (l ≡ why_buffer t ch s a k d)

pub tells : (t : Tree) (ch : Channel) (s : List ℕ) (a k : ℕ) (o : List ℕ) → length o ≡ 65536 → (x : Ending) → x ≡ ran_of t ch s (length o)
    → (d : List ℕ) → length d ≤ 65536 → (w : Waits) → w ≡ told_of t ch s a k (length o) → (bs : List ℕ) → bs ≡ buffer_after t ch s o
    → Tells t ch s a k d x w bs
tells t ch s a k o lo x X d l w W bs B = go x X
  where
    untold : (y : Ending) → y ≡ ran_of t ch s (length o) → ran_by y no_wait (wait_for t ch (requests (lines s)) a k (length o)) ≡ no_wait → w.service ≤ length bs
    untold y Y e =
        let n = ap (λ (v : Waits). v.service)
        (W ∙ told_by_lem t ch s a k (length o) ∙ ap (λ (z : Ending). ran_by z no_wait (wait_for t ch (requests (lines s)) a k (length o))) (sym Y) ∙ e) in
        omega (arith, n)

    went : (y : Ending) → y ≡ ran_of t ch s (length o) → (is : (A : Type 0) (u v : A) → ran_by y u v ≡ v) → (told : (z : Why) → why_by y z ≡ z)
        → (left : (v : List ℕ) → left_by y d v ≡ v) → Tells t ch s a k d y w bs
    went y Y is told left =
        let e = why_told t ch s a k o lo y Y d l is told w W bs B (answer_by t a k w) refl (buffer_by t a k w bs d) refl in
        record {
          service = why_within t ch s a k o lo y Y d l is told w W bs B;
          told = λ v i r j. (i ∙ told (answer_by t a k w) ∙ e.0, j ∙ left (buffer_by t a k w bs d) ∙ e.1);
        }

    go : (y : Ending) → y ≡ ran_of t ch s (length o) → Tells t ch s a k d y w bs
    go (run.refused_at n i) Y =
        let e = why_refused t ch s a k o lo (run.refused_at n i) Y d l (refused_at n i) refl refl in
        record { service = untold (run.refused_at n i) Y refl; told = λ v i r j. (i ∙ e.0, j ∙ e.1) }
    go (run.broken n) Y =
        let e = why_refused t ch s a k o lo (run.broken n) Y d l (denied n) refl refl in
        record { service = untold (run.broken n) Y refl; told = λ v i r j. (i ∙ e.0, j ∙ e.1) }
    go (run.done n) Y = went (run.done n) Y (λ A u v. refl) (λ z. refl) (λ v. refl)
    go (run.stopped n) Y = went (run.stopped n) Y (λ A u v. refl) (λ z. refl) (λ v. refl)

-- the answer and the buffer of the case of how the run ended
pub by_end : (t : Tree) (a k : ℕ) (w : Waits) (bs d : List ℕ) (x y : Ending) → y ≡ x → (v : Why) → v ≡ why_by y (answer_by t a k w)
    → (l : List ℕ) → l ≡ left_by y d (buffer_by t a k w bs d) → (v ≡ why_by x (answer_by t a k w)) × (l ≡ left_by x d (buffer_by t a k w bs d))
by_end t a k w bs d x y X v i l j =
    (i ∙ ap (λ (e : Ending). why_by e (answer_by t a k w)) X, j ∙ ap (λ (e : Ending). left_by e d (buffer_by t a k w bs d)) X)
