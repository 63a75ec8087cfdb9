-- How a run ends, by the tests of the definition in order: 11, buffer size, trace.
use Prim.Native.Nat.{ℕ, ◌≤◌, ◌<◌}
use mathlib.Core.Bool.{Bool, true, false, not}
use mathlib.Core.List.{List}
use mathlib.Core.Path.{◌≡◌, refl, sym, ◌∙◌, ap}
use Rattle.std.specs.Prelude.{Result, Ok, Err}
use lib.Dec.{ltb}
use lib.ListN.{length}
use borrow.Author.Tests.{lt-ltb, le-ltb}
use Rattle.model.specs.declared.Tree.{Tree}
use Rattle.model.specs.declared.Channel.{Channel}
use Rattle.model.specs.declared.State.{State}
use Rattle.model.specs.declared.Refusal.{Refusal}
use Rattle.model.specs.Answer.{number_of}
use Rattle.folds.specs.Fold.{pick}
use Rattle.rules.specs.Rules.{tree_keeps}
use Rattle.folds.proofs.Folds.{picked, passed, clash}
use Rattle.text.specs.Text.{lines}
use Rattle.lines.specs.declared.FileError.{FileError}
use Rattle.lines.specs.declared.FileError.TheVariants.{Refused as refused, Broken as broken_rules}
use Rattle.lines.specs.Answer.{FileAnswer, Accepted, Refused, Broken, file_error}
use Rattle.trace.specs.declared.Request.{Request}
use Rattle.trace.specs.TraceFile.{read_trace, requests}
use Rattle.model.specs.Builders.{zero_state}
use Rattle.machine.specs.declared.Reply.{Reply}
use Rattle.machine.specs.Answers.{fresh_means, fresh_outcome}
use Rattle.machine.specs.Machine.{started, not_started, Beginning, beginning, fresh_state, freshened}
use Rattle.runner.specs.Run.{Trail, run_for, Ending, refused_at, broken, done, stopped, end_after, end_of, answered, over, overwritten, ran_of, buffer_after}
use Rattle.runner.specs.Answers.{run_means}
use Rattle.runner.specs.Wait.{Waits, no_wait, wait_for, told_read, told_of}

-- what the start's answer says of the configuration
module _ (t : Tree) (ch : Channel) where
  begun_by : (b : Bool) (s : State) → beginning started s ≡ pick b (beginning started (fresh_state t ch)) (beginning (not_started 11) (zero_state ch))
      → (b ≡ true) × (s ≡ fresh_state t ch)
  begun_by true s e = (refl, ap (λ (x : Beginning). x.state) e)
  begun_by false s e =
      let h = ap (λ (x : Beginning). x.answer) e in
      clash cc

  unbegun_by : (b : Bool) (n : ℕ) (s : State)
      → beginning (not_started n) s ≡ pick b (beginning started (fresh_state t ch)) (beginning (not_started 11) (zero_state ch)) → b ≡ false
  unbegun_by true n s e =
      let h = ap (λ (x : Beginning). x.answer) e in
      clash cc
  unbegun_by false n s e = refl

  module _ (r : Reply (Unit {0})) (e : fresh_outcome r ≡ freshened t ch) where
    by_answer : (a : Result (Unit {0}) Refusal) → r.answer ≡ a → beginning (fresh_means a) r.state ≡ freshened t ch
    by_answer a f = ap (λ (x : Result (Unit {0}) Refusal). beginning (fresh_means x) r.state) (sym f) ∙ e

    pub begun : (u : Unit {0}) → r.answer ≡ Ok u → (tree_keeps t ≡ true) × (r.state ≡ fresh_state t ch)
    unfolding freshened
    begun u f = begun_by (tree_keeps t) r.state (by_answer (Ok u) f)

    pub unbegun : (x : Refusal) → r.answer ≡ Err x → tree_keeps t ≡ false
    unfolding freshened
    unbegun x f = unbegun_by (tree_keeps t) (number_of x) r.state (by_answer (Err x) f)

module _ (t : Tree) (ch : Channel) (s d : List ℕ) where
  pub ran_broken : tree_keeps t ≡ false → (broken 11 ≡ ran_of t ch s (length d)) × (d ≡ buffer_after t ch s d)
  unfolding ran_of buffer_after
  ran_broken k = (sym (picked _ _ _ (ap not k)), sym (picked _ _ _ (ap not k)))

  module _ (k : tree_keeps t ≡ true) where
    pub ran_size : 65536 < length d → (refused_at 2 0 ≡ ran_of t ch s (length d)) × (d ≡ buffer_after t ch s d)
    unfolding ran_of buffer_after
    ran_size l = (
      sym (passed _ _ _ (ap not k) ∙ picked _ _ _ (lt-ltb _ _ l)),
      sym (passed _ _ _ (ap not k) ∙ picked _ _ _ (lt-ltb _ _ l)),
    )

    pub ran_read : length d ≤ 65536 → (x : FileAnswer) → read_trace t s ≡ x
        → (answered x (run_for t ch (requests (lines s)) (length d)) ≡ ran_of t ch s (length d))
        × (overwritten x (run_for t ch (requests (lines s)) (length d)) d ≡ buffer_after t ch s d)
    unfolding ran_of buffer_after
    ran_read l x e = (
      ap (λ (y : FileAnswer). answered y (run_for t ch (requests (lines s)) (length d))) (sym e)
          ∙ sym (passed _ _ _ (ap not k) ∙ passed _ _ _ (le-ltb _ _ l)),
      ap (λ (y : FileAnswer). overwritten y (run_for t ch (requests (lines s)) (length d)) d) (sym e)
          ∙ sym (passed _ _ _ (ap not k) ∙ passed _ _ _ (le-ltb _ _ l)),
    )

-- a trace that is refused, as the runner answers it
pub refused_read : (e : FileError) (z : Trail) (d : List ℕ) (w : Waits)
    → (run_means (Err e) ≡ answered (file_error e) z) × (d ≡ overwritten (file_error e) z d) × (no_wait ≡ told_read (file_error e) w)
refused_read (refused r n) z d w = (refl, refl, refl)
refused_read broken_rules z d w = (refl, refl, refl)

-- and what it tells of a transaction
module _ (t : Tree) (ch : Channel) (s : List ℕ) (a k n : ℕ) where
  pub told_broken : tree_keeps t ≡ false → no_wait ≡ told_of t ch s a k n
  unfolding told_of
  told_broken e = sym (picked _ _ _ (ap not e))

  module _ (e : tree_keeps t ≡ true) where
    pub told_size : 65536 < n → no_wait ≡ told_of t ch s a k n
    unfolding told_of
    told_size l = sym (passed _ _ _ (ap not e) ∙ picked _ _ _ (lt-ltb _ _ l))

    pub told_read_lem : n ≤ 65536 → (x : FileAnswer) → read_trace t s ≡ x → told_read x (wait_for t ch (requests (lines s)) a k n) ≡ told_of t ch s a k n
    unfolding told_of
    told_read_lem l x f =
        ap (λ (y : FileAnswer). told_read y (wait_for t ch (requests (lines s)) a k n)) (sym f)
        ∙ sym (passed _ _ _ (ap not e) ∙ passed _ _ _ (le-ltb _ _ l))

-- x where a run is refused, y where it is not
abbrev pub ran_by : {A : Type 0} → Ending → A → A → A
ran_by (refused_at n l) x y = x
ran_by (broken n) x y = x
ran_by (done n) x y = y
ran_by (stopped n) x y = y

pub ran_by_end : {A : Type 0} (z : Trail) (x y : A) → ran_by (end_of z) x y ≡ y
ran_by_end z x y = go z.done
  where
    go : (b : Bool) → ran_by (end_after b (length z.bytes)) x y ≡ y
    go true = refl
    go false = refl

module _ (t : Tree) (ch : Channel) (s : List ℕ) where
  abbrev lines_of : List Request
  lines_of = requests (lines s)

  pub told_by_lem : (a k n : ℕ) → told_of t ch s a k n ≡ ran_by (ran_of t ch s n) no_wait (wait_for t ch lines_of a k n)
  unfolding told_of ran_of
  told_by_lem a k n = go (tree_keeps t) (ltb 65536 n) (read_trace t s)
    where
      go : (b c : Bool) (y : FileAnswer) → pick (not b) no_wait (pick c no_wait (told_read y (wait_for t ch lines_of a k n)))
          ≡ ran_by (pick (not b) (broken 11) (pick c (refused_at 2 0) (answered y (run_for t ch lines_of n)))) no_wait (wait_for t ch lines_of a k n)
      go false c y = refl
      go true true y = refl
      go true false Accepted = sym (ran_by_end (run_for t ch lines_of n) no_wait (wait_for t ch lines_of a k n))
      go true false (Refused r l) = refl
      go true false Broken = refl

  pub buffer_by_lem : (d : List ℕ) → buffer_after t ch s d ≡ ran_by (ran_of t ch s (length d)) d (over (run_for t ch lines_of (length d)) d)
  unfolding buffer_after ran_of
  buffer_by_lem d = go (tree_keeps t) (ltb 65536 (length d)) (read_trace t s) (run_for t ch lines_of (length d))
    where
      go : (b c : Bool) (y : FileAnswer) (x : Trail) → pick (not b) d (pick c d (overwritten y x d))
          ≡ ran_by (pick (not b) (broken 11) (pick c (refused_at 2 0) (answered y x))) d (over x d)
      go false c y x = refl
      go true true y x = refl
      go true false Accepted x = sym (ran_by_end x d (over x d))
      go true false (Refused r l) x = refl
      go true false Broken x = refl
