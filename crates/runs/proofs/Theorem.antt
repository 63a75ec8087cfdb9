-- A run that is not refused is a list of calls. Slot by slot its calls come to the state of the defined run and answer its
-- bytes, and what lines ask is held or admitted; by induction on the slots, and for the reported slots by the laws of a run.
use Prim.Native.Nat.{ℕ, zero, suc, ◌+◌, ◌≤◌, ◌<◌}
use mathlib.Core.Bool.{Bool, true, false, not}
use mathlib.Core.List.{List, [], ◌∷◌, ◌++◌}
use mathlib.Core.Logic.{⊎_elim}
use mathlib.Core.Path.{◌≡◌, refl, sym, ◌∙◌, ap, ap₂}
use native.Mathlib.Omega.{arith}
use lib.Dec.{ltb}
use lib.ListN.{length, take, drop}
use lib.Seq.{take_at}
use borrow.Author.Tests.{not-false, ltb-false, eqb-true}
use Rattle.model.specs.declared.Tree.{Tree}
use Rattle.model.specs.declared.State.{State}
use Rattle.model.specs.declared.Channel.{Channel}
use Rattle.model.specs.Tree.{job_of, limit_of, waiting_of}
use Rattle.folds.specs.Fold.{pick}
use Rattle.rules.specs.Rules.{tree_keeps, keeps}
use Rattle.folds.proofs.Folds.{passed, clash, both, all_at}
use Rattle.rules.proofs.Sound.{sound, kept_of, limit_none}
use Rattle.text.specs.Text.{lines}
use Rattle.trace.specs.declared.Request.{Request}
use Rattle.lines.specs.Answer.{FileAnswer, Accepted, Refused, Broken}
use Rattle.trace.specs.TraceFile.{read_trace, requests, total_for}
use Rattle.machine.specs.Machine.{Answer, admitted, served, idle, refused, last_slot, fresh_state, none_waits, slotted}
use Rattle.machine.specs.Calls.{Call, slot, state_after}
use Rattle.machine.proofs.Keeps.{zeros}
use Rattle.machine.proofs.Laws.{fresh_keeps}
use Rattle.guarantee.specs.Guarantee.{Event, event, events_of, unrefused, slots_in, admits_one}
use Rattle.guarantee.proofs.Leads.{Does, admits, declines, serves, idles, halts, does_channel, Leads, stay, go, calls_lead, leads_start}
use Rattle.guarantee.proofs.Theorem.{guarantee}
use Rattle.runner.specs.Offers.{held_of}
use Rattle.runner.specs.Run.{Run, Trail, with_due, before_slot, last_byte, next, none_held, is_done, start, run_for, Ending, refused_at, broken, end_of, answered, over, overwritten, ran_of, buffer_after}
use Rattle.runner.specs.Slots.{standing, bytes_before, due_before}
use Rattle.runner.proofs.Laws.{ran, ending_done, ending_stopped, left_from, Stood, stood, stood_unrefused, due_long}
use Rattle.runner.proofs.Asked.{held_asked, asked_more, asked_start}
use Rattle.guarantee.specs.Windows.{admissions_by}
use Rattle.runs.specs.Calls.{offers_each, slot_calls, calls_before, bytes_in, Reports, RunIsCalls}
use Rattle.guarantee.proofs.Events.{state_append, events_append, slots_append}
use Rattle.runs.proofs.Events.{bytes_append, admissions_append}
use Rattle.runs.proofs.Offers.{makes_each}

-- a slot that is not refused counts
counts : (t : Tree) (s : State) → ((m : ℕ) → (slotted t s).answer ≡ refused m → ⊥) → unrefused (slotted t s).answer ≡ 1
counts t s = go (slotted t s).answer
  where
    go : (x : Answer) → ((m : ℕ) → x ≡ refused m → ⊥) → unrefused x ≡ 1
    go admitted f = refl
    go (served a) f = refl
    go idle f = refl
    go (refused m) f = absurd (f m refl)

-- the calls of one slot
record Slot (t : Tree) (r : Run) : Type 0 where
  state : state_after t r.state (slot_calls t r) ≡ (next t r).state
  bytes : bytes_in (events_of t r.state (slot_calls t r)) ≡ last_byte t r ∷ []
  slots : slots_in (events_of t r.state (slot_calls t r)) ≡ 1
  held : (a : ℕ) → a < length r.held
      → held_of (next t r).held a + admissions_by a (events_of t r.state (slot_calls t r)) ≡ held_of (with_due r).held a

one_slot : (t : Tree) (r : Run) → ((m : ℕ) → (slotted t (before_slot t r).state).answer ≡ refused m → ⊥) → Slot t r
unfolding next state_after events_of bytes_in slots_in admissions_by
one_slot t r f =
    let cs = offers_each t.accs t (with_due r) in
    let s = (before_slot t r).state in
    let M = makes_each t.accs t (with_due r) in
    let e : events_of t r.state (slot_calls t r) ≡ events_of t r.state cs ++ event slot (slotted t s).answer ∷ [] =
    events_append t r.state cs (slot ∷ [])
    ∙ ap (λ (x : State). events_of t r.state cs ++ event slot (slotted t x).answer ∷ []) M.state in
    record {
      state = state_append t r.state cs (slot ∷ []) ∙ ap (λ (x : State). (slotted t x).state) M.state;
      bytes = ap bytes_in e ∙ bytes_append (events_of t r.state cs) (event slot (slotted t s).answer ∷ [])
          ∙ ap (λ (bs : List ℕ). bs ++ last_byte t r ∷ []) M.bytes;
      slots = ap slots_in e
          ∙ omega (arith, slots_append (events_of t r.state cs) (event slot (slotted t s).answer ∷ []), M.slots, counts t s f);
      held = λ a l. omega (
        arith,
        ap (admissions_by a) e,
        admissions_append a (events_of t r.state cs) (event slot (slotted t s).answer ∷ []),
        no_admission a (slotted t s).answer,
        M.held a (omega (arith, due_long r.state.slot r.held r.left)),
      );
    }
  where
    no_admission : (a : ℕ) (x : Answer) → admissions_by a (event slot x ∷ []) ≡ 0
    no_admission a admitted = refl
    no_admission a (served b) = refl
    no_admission a idle = refl
    no_admission a (refused n) = refl

-- the calls of the first n slots, for every n that a run can use
pub record Called (t : Tree) (c : Channel) (rs : List Request) (n : ℕ) : Type 0 where
  pub state : state_after t (fresh_state t c) (calls_before n t (start t c rs)) ≡ (standing n t (start t c rs)).state
  pub bytes : bytes_in (events_of t (fresh_state t c) (calls_before n t (start t c rs))) ≡ bytes_before n t (start t c rs)
  pub slots : slots_in (events_of t (fresh_state t c) (calls_before n t (start t c rs))) ≡ n
  pub asked : (a : ℕ) → a < 32
      → held_of (standing n t (start t c rs)).held a + admissions_by a (events_of t (fresh_state t c) (calls_before n t (start t c rs)))
      ≡ total_for a (due_before n rs)

module _ (t : Tree) (c : Channel) (rs : List Request) (n : ℕ) (S : Stood t rs n (standing n t (start t c rs))) (l : n < last_slot) (C : Called t c rs n) where
  called_more : Called t c rs (suc n)
  unfolding standing calls_before bytes_before
  called_more =
      let r = standing n t (start t c rs) in
      let cs = calls_before n t (start t c rs) in
      let q = one_slot t r (stood_unrefused t rs n r S l) in
      let es = events_of t (fresh_state t c) cs in
      let fs = events_of t r.state (slot_calls t r) in
      let e : events_of t (fresh_state t c) (cs ++ slot_calls t r) ≡ es ++ fs =
      events_append t (fresh_state t c) cs (slot_calls t r) ∙ ap (λ (x : State). es ++ events_of t x (slot_calls t r)) C.state in
      record {
        state = state_append t (fresh_state t c) cs (slot_calls t r) ∙ ap (λ (x : State). state_after t x (slot_calls t r)) C.state ∙ q.state;
        bytes = ap bytes_in e ∙ bytes_append es fs ∙ ap₂ (λ (x y : List ℕ). x ++ y) C.bytes q.bytes;
        slots = ap slots_in e ∙ omega (arith, slots_append es fs, C.slots, q.slots);
        asked = λ a m.
            let k : held_of (with_due r).held a ≡ held_of r.held a + total_for a (due_before (suc n) (left_from n rs)) =
            held_asked r.state.slot r.held r.left a (omega (arith, S.long))
            ∙ ap₂ (λ (i : ℕ) (x : List Request). held_of r.held a + total_for a (due_before (suc i) x)) S.slot S.left in
            omega (
              arith,
              ap (admissions_by a) e,
              admissions_append a es fs,
              C.asked a m,
              q.held a (omega (arith, S.long)),
              asked_more n rs a,
            );
      }

pub called : (t : Tree) (c : Channel) (rs : List Request) → tree_keeps t ≡ true → (n : ℕ) → n ≤ last_slot → Called t c rs n
unfolding standing calls_before bytes_before state_after events_of bytes_in slots_in admissions_by
called t c rs k zero l = record {
  state = refl;
  bytes = refl;
  slots = refl;
  asked = λ a m. omega (arith, zeros 32 a, asked_start rs a);
}
called t c rs k (suc n) l = called_more t c rs n (stood t c rs k n (omega arith)) (omega arith) (called t c rs k n (omega arith))

-- a run that reports is not refused
not_refused : (a b m : ℕ) → Reports (refused_at a b) m → ⊥
not_refused a b m = ⊎_elim (λ e. clash cc) (λ e. clash cc)

not_broken : (a m : ℕ) → Reports (broken a) m → ⊥
not_broken a m = ⊎_elim (λ e. clash cc) (λ e. clash cc)

test_passed : (c : Bool) (x y : Ending) (m : ℕ) → (Reports x m → ⊥) → Reports (pick c x y) m → (c ≡ false) × Reports y m
test_passed true x y m f h = absurd (f h)
test_passed false x y m f h = (refl, h)

-- its trace is accepted, and it is the defined run over the buffer
record Unrefused (t : Tree) (c : Channel) (s d : List ℕ) (m : ℕ) : Type 0 where
  tree : tree_keeps t ≡ true
  size : length d ≤ 65536
  ends : Reports (end_of (run_for t c (requests (lines s)) (length d))) m
  buffer : buffer_after t c s d ≡ over (run_for t c (requests (lines s)) (length d)) d
  ending : ran_of t c s (length d) ≡ end_of (run_for t c (requests (lines s)) (length d))

unrefused_run : (t : Tree) (c : Channel) (s d : List ℕ) (m : ℕ) → Reports (ran_of t c s (length d)) m → Unrefused t c s d m
unfolding ran_of buffer_after
unrefused_run t c s d m h =
    let x = run_for t c (requests (lines s)) (length d) in
    let a = test_passed (not (tree_keeps t)) _ _ m (not_broken 11 m) h in
    let b = test_passed (ltb 65536 (length d)) _ _ m (not_refused 2 0 m) a.1 in
    let y = accepted (read_trace t s) x b.1 in
    record {
      tree = not-false _ a.0;
      size = ltb-false _ _ b.0;
      ends = y.0;
      buffer = passed _ _ _ a.0 ∙ passed _ _ _ b.0 ∙ y.1;
      ending = passed _ _ _ a.0 ∙ passed _ _ _ b.0 ∙ y.2;
    }
  where
    accepted : (y : FileAnswer) (x : Trail) → Reports (answered y x) m
        → Reports (end_of x) m × (overwritten y x d ≡ over x d) × (answered y x ≡ end_of x)
    accepted Accepted x r = (r, refl, refl)
    accepted (Refused w n) x r = absurd (not_refused _ n m r)
    accepted Broken x r = absurd (not_broken 11 m r)

-- the slots it reports are those whose bytes it wrote
reported : (x : Trail) (m : ℕ) → Reports (end_of x) m → length x.bytes ≡ m
reported x m = ⊎_elim (λ e. (ending_done x m e).1) (λ e. (ending_stopped x m e).1)

-- so its tree keeps its rules, and its slots are no more than the greatest buffer has bytes
pub reports_within : (t : Tree) (c : Channel) (s d : List ℕ) (m : ℕ) → Reports (ran_of t c s (length d)) m
    → (tree_keeps t ≡ true) × (m ≤ 65536)
reports_within t c s d m h =
    let U = unrefused_run t c s d m h in
    let x = run_for t c (requests (lines s)) (length d) in
    (U.tree, omega (arith, reported x m U.ends, (ran (length d) t (start t c (requests (lines s)))).slots, U.size))

-- an accelerator whose job has 0 transactions on the channel
module _ (t : Tree) (c : Channel) (a : ℕ) (la : a < t.accs) (z : job_of t c a ≡ 0) where
  -- none of it waits in a state that keeps its rules
  none_waits_lem : (s : State) → keeps t s ≡ true → s.channel ≡ c → waiting_of s a ≡ 0
  none_waits_lem s K e =
      omega (arith, (kept_of t s K).waiting a la, ap (λ (k : Channel). limit_of t k a) e, limit_none t c a z)

  -- so none of it is admitted
  admits_none : (s m : State) (k : Call) (x : Answer) → Does t s k x m → waiting_of m a ≡ 0 → admits_one a x k ≡ 0
  admits_none s m k x (admits A) w = omega (arith, A.waiting a)
  admits_none s m k x (declines v) w = refl
  admits_none s m k x (serves v) w = refl
  admits_none s m k x (idles i) w = refl
  admits_none s m k x (halts f) w = refl

  none_admitted : {s r : State} {es : List Event} → Leads t s es r → s.channel ≡ c → admissions_by a es ≡ 0
  unfolding admissions_by
  none_admitted (stay K) e = refl
  none_admitted {s} (go {m = m} {e = v} K d w) e =
      let f = does_channel d ∙ e in
      omega (arith, none_admitted w f, admits_none s m v.call v.answer d (none_waits_lem m (leads_start w) f))

-- what the lines ask is asked by those due before slot n or by those left then
asked_in_all : (n : ℕ) (rs : List Request) (a : ℕ) → total_for a rs ≡ total_for a (due_before n rs) + total_for a (left_from n rs)
unfolding total_for due_before left_from
asked_in_all n [] a = omega arith
asked_in_all n (r ∷ rs) a = by_test (ltb r.slot n) (asked_in_all n rs a)
  where
    by_test : (b : Bool) → total_for a rs ≡ total_for a (due_before n rs) + total_for a (left_from n rs)
        → total_for a (r ∷ rs) ≡ total_for a (pick b (r ∷ due_before n rs) []) + total_for a (pick b (left_from n rs) (r ∷ rs))
    by_test true e = omega arith
    by_test false e = omega arith

nothing_asked : (a : ℕ) → total_for a [] ≡ 0
unfolding total_for
nothing_asked a = refl

no_lines : (rs : List Request) → length rs ≡ 0 → rs ≡ []
no_lines [] e = refl
no_lines (r ∷ rs) e = absurd (omega arith)

-- where a run is done nothing is held and no line is left
done_none : (r : Run) → is_done r ≡ true → (r.left ≡ []) × ((a : ℕ) → a < 32 → held_of r.held a ≡ 0)
done_none r e =
    let x = (both _ (none_waits r.state) e).0 in
    let y = both _ (none_held r.held) x in
    (no_lines r.left (eqb-true _ _ y.0), λ a l. eqb-true _ _ (all_at 32 _ y.1 a l))

pub run_is_calls : (t : Tree) (c : Channel) (s d : List ℕ) (m : ℕ) → Reports (ran_of t c s (length d)) m → RunIsCalls t c s d m
run_is_calls t c s d m h =
    let U = unrefused_run t c s d m h in
    let rs = requests (lines s) in
    let x = run_for t c rs (length d) in
    let R = ran (length d) t (start t c rs) in
    let l = reported x m U.ends in
    let C = called t c rs U.tree m (omega (arith, R.slots, U.size)) in
    record {
      demand = guarantee t (fresh_state t c) (calls_before m t (start t c rs)) (fresh_keeps t c U.tree);
      bytes = C.bytes ∙ ap (λ (n : ℕ). bytes_before n t (start t c rs)) (sym l) ∙ sym R.bytes
          ∙ sym (take_at x.bytes (drop (length x.bytes) d) m l) ∙ ap (take m) (sym U.buffer);
      slots = C.slots;
      room = omega (arith, R.slots);
      state = C.state;
      asked = λ a la. C.asked a (fits a la U.tree);
      stays_held = λ a la z.
          let n = none a la z U.tree in (n, omega (arith, n, C.asked a (fits a la U.tree)));
      stopped_then = λ a la z p. ⊎_elim
          (λ e.
          let y = ending_done x m (sym U.ending ∙ e) in
          let D = done_none (standing m t (start t c rs)) (sym (sym y.0 ∙ R.ends ∙ ap (λ (n : ℕ). is_done (standing n t (start t c rs))) y.1)) in
          absurd (omega (
            arith,
            p,
            none a la z U.tree,
            C.asked a (fits a la U.tree),
            D.1 a (fits a la U.tree),
            asked_in_all m rs a,
            ap (total_for a) (sym (stood t c rs U.tree m (omega (arith, R.slots, U.size))).left ∙ D.0) ∙ nothing_asked a,
          )))
          (λ e. e) h;
    }
  where
    fits : (a : ℕ) → a < t.accs → tree_keeps t ≡ true → a < 32
    fits a la k = omega (arith, (sound t k).most_accs)

    none : (a : ℕ) → a < t.accs → job_of t c a ≡ 0 → tree_keeps t ≡ true
        → admissions_by a (events_of t (fresh_state t c) (calls_before m t (start t c (requests (lines s))))) ≡ 0
    none a la z k =
        none_admitted t c a la z (calls_lead t (fresh_state t c) (calls_before m t (start t c (requests (lines s)))) (fresh_keeps t c k)) refl
