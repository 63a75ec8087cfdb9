-- Holds as a run's two figures follow from its trail, computed once, and without the tests of the rules that its calls never fail:
-- the tree is tested at the start, the fresh state keeps its rules, and so does every state after it.
--
-- quick_held, quick_each  offer_held and offer_each without these tests
-- quick_trail             trail without these tests, with the offers and the slot of each step computed once
-- answers_within          answers_of without these tests
-- quick_answers t s cs    answers_of, with the rules of the tree t and the state s tested once
-- ones_of d n             ones n, its d lowest digits one by one, where `ones` takes n steps
-- quick_record, quick_keeps  record_keeps and keeps with returns counted so
-- Left, left e bs         how a run ends and the bytes that it leaves
-- quick_ran t c s n       those of a run of trace s on channel c over n bytes of 7
-- quickly f               what the figure f claims, by these
-- every_quickly fs        that of each of the figures fs
use Prim.Native.Nat.{ℕ, zero, suc, ◌+◌, ◌-◌, ◌/◌, ◌%◌}
use mathlib.Core.Bool.{Bool, true, false, not, ◌&&◌}
use mathlib.Core.List.{List, [], ◌∷◌, ◌++◌}
use mathlib.Core.Path.{◌≡◌, refl, sym, ◌∙◌, ap, ap₂}
use lib.Dec.{ltb, leb, eqb}
use lib.Count.{ones, ones_step}
use lib.ListN.{length, replicate, length-replicate}
use Rattle.model.specs.declared.Tree.{Tree}
use Rattle.model.specs.declared.State.{State}
use Rattle.model.specs.declared.Channel.{Channel}
use Rattle.folds.specs.Fold.{pick, all}
use Rattle.model.specs.Answer.{number_of}
use Rattle.model.specs.Tree.{delay_of, limit_of, budget_of, waiting_of, admitted_of, returns_of}
use Rattle.rules.specs.Rules.{tree_keeps, sized, on_the_way, record_keeps, turn_keeps, state_keeps, keeps}
use Rattle.lines.specs.Answer.{FileAnswer, Accepted, Refused, Broken}
use Rattle.text.specs.Text.{lines}
use Rattle.trace.specs.TraceFile.{read_trace, requests}
use Rattle.machine.specs.Machine.{Answer, Outcome, fresh_state, on_admitted, offered_within, offered, slotted_within}
use Rattle.machine.specs.Calls.{Call, step, answers_of}
use Rattle.machine.proofs.Laws.{fresh_keeps, offer_keeps, slot_keeps}
use Rattle.machine.proofs.Steps.{offer_passed, slot_passed}
use Rattle.machine.proofs.Within.{step_within, step_within_lem, step_keeps}
use Rattle.runner.specs.Offers.{Offering, held_of, release, offering, offer_held, offer_each}
use Rattle.runner.specs.Run.{Run, left_after, with_due, before_slot, byte_of, last_byte, next, is_done, Trail, ended, written, trail, start, Ending, refused_at, broken, end_of, answered, over, overwritten, run_for, ran_of, buffer_after}
use Rattle.runner.proofs.Held.{each_kept}
use Rattle.cases.specs.Figures.{Figure, answers, answers_from, keeping, starting, ran, ends, numbers, bounded, printed, told, holds, every}

abbrev pub offers_on : (Offering → Offering) → Offering → ℕ → Outcome → Offering
offers_on f o a x = on_admitted x.answer (f (offering x.state (release o.held a))) o

unfoldable pub quick_held : ℕ → Tree → Offering → ℕ → Offering
quick_held zero t o a = o
quick_held (suc k) t o a = offers_on (λ p. quick_held k t p a) o a (offered_within t o.state a)

abbrev pub quick_all : Tree → Offering → ℕ → Offering
quick_all t o a = quick_held (held_of o.held a) t o a

unfoldable pub quick_each : ℕ → Tree → Offering → Offering
quick_each zero t o = o
quick_each (suc n) t o = quick_all t (quick_each n t o) n

abbrev pub run_on : (Run → Trail) → Run → Offering → Outcome → Trail
run_on f r o x =
    written (byte_of x.answer) (f (record { state = x.state; held = o.held; left = left_after r.state.slot r.left }))

abbrev pub slot_on : (Run → Trail) → Tree → Run → Offering → Trail
slot_on f t r o = run_on f r o (slotted_within t o.state)

unfoldable pub quick_trail : ℕ → Tree → Run → Trail
quick_trail zero t r = ended (is_done r)
quick_trail (suc k) t r = pick (is_done r) (ended true) (slot_on (quick_trail k t) t r (quick_each t.accs t (with_due r)))

held_quick : (k : ℕ) (t : Tree) (o : Offering) (a : ℕ) → keeps t o.state ≡ true → offer_held k t o a ≡ quick_held k t o a
unfolding offer_held quick_held
held_quick zero t o a e = refl
held_quick (suc k) t o a e =
    let x = offered t o.state a in
    ap (λ (p : Offering). on_admitted x.answer p o)
    (held_quick k t (offering x.state (release o.held a)) a (offer_keeps t o.state a e))
    ∙ ap (offers_on (λ p. quick_held k t p a) o a) (sym (offer_passed t o.state a e))

each_quick : (n : ℕ) (t : Tree) (o : Offering) → keeps t o.state ≡ true → offer_each n t o ≡ quick_each n t o
unfolding offer_each quick_each
each_quick zero t o e = refl
each_quick (suc n) t o e =
    held_quick (held_of (offer_each n t o).held n) t (offer_each n t o) n (each_kept n t o e)
    ∙ ap (λ (p : Offering). quick_all t p n) (each_quick n t o e)

trail_quick : (k : ℕ) (t : Tree) (r : Run) → keeps t r.state ≡ true → trail k t r ≡ quick_trail k t r
unfolding trail quick_trail next
trail_quick zero t r e = refl
trail_quick (suc k) t r e =
    let o = before_slot t r in
    let kept : keeps t o.state ≡ true = each_kept t.accs t (with_due r) e in
    ap (λ (x : Trail). pick (is_done r) (ended true) (written (last_byte t r) x)) (trail_quick k t (next t r) (slot_keeps t o.state kept))
    ∙ ap (λ (x : Outcome). pick (is_done r) (ended true) (run_on (quick_trail k t) r o x)) (sym (slot_passed t o.state kept))
    ∙ ap (λ (p : Offering). pick (is_done r) (ended true) (slot_on (quick_trail k t) t r p)) (each_quick t.accs t (with_due r) e)

abbrev pub answer_on : (State → List Answer) → Outcome → List Answer
answer_on f x = x.answer ∷ f x.state

unfoldable pub answers_within : Tree → State → List Call → List Answer
answers_within t s [] = []
answers_within t s (c ∷ cs) = answer_on (λ q. answers_within t q cs) (step_within t s c)

abbrev pub quick_answers : Tree → State → List Call → List Answer
quick_answers t s cs = pick (keeps t s) (answers_within t s cs) (answers_of t s cs)

answers_within_lem : (t : Tree) (s : State) (cs : List Call) → keeps t s ≡ true → answers_of t s cs ≡ answers_within t s cs
unfolding answers_of answers_within
answers_within_lem t s [] e = refl
answers_within_lem t s (c ∷ cs) e =
    ap (λ (xs : List Answer). (step t s c).answer ∷ xs) (answers_within_lem t (step t s c).state cs (step_keeps t s c e))
    ∙ ap (answer_on (λ q. answers_within t q cs)) (step_within_lem t s c e)

answers_quick : (t : Tree) (s : State) (cs : List Call) → answers_of t s cs ≡ quick_answers t s cs
answers_quick t s cs = go (keeps t s) refl
  where
    go : (b : Bool) → keeps t s ≡ b → answers_of t s cs ≡ pick b (answers_within t s cs) (answers_of t s cs)
    go true e = answers_within_lem t s cs e
    go false e = refl

unfoldable pub ones_of : ℕ → ℕ → ℕ
ones_of zero n = ones n
ones_of (suc d) n = n % 2 + ones_of d (n / 2)

ones_quick : (d n : ℕ) → ones n ≡ ones_of d n
unfolding ones_of
ones_quick zero n = refl
ones_quick (suc d) n = ones_step n ∙ ap (λ (m : ℕ). n % 2 + m) (ones_quick d (n / 2))

abbrev pub record_by : Tree → State → ℕ → ℕ → Bool
record_by t s a m =
    pick (ltb a t.accs)
    (leb (waiting_of s a + m) (limit_of t s.channel a) && leb (admitted_of s a) (budget_of t a) && on_the_way (delay_of t) (returns_of s a))
    (eqb (waiting_of s a) 0 && eqb (admitted_of s a) 0 && eqb (returns_of s a) 0)

abbrev pub quick_record : Tree → State → ℕ → Bool
quick_record t s a = record_by t s a (ones_of 17 (returns_of s a))

abbrev pub quick_keeps : Tree → State → Bool
quick_keeps t s = tree_keeps t && (sized s && all 32 (quick_record t s) && all 15 (turn_keeps t s))

record_quick : (t : Tree) (s : State) (a : ℕ) → record_keeps t s a ≡ quick_record t s a
unfolding record_keeps
record_quick t s a = ap (record_by t s a) (ones_quick 17 (returns_of s a))

all_same : (n : ℕ) (f g : ℕ → Bool) → ((i : ℕ) → f i ≡ g i) → all n f ≡ all n g
unfolding all
all_same zero f g h = refl
all_same (suc n) f g h = ap₂ ◌&&◌ (all_same n f g h) (h n)

keeps_quick : (t : Tree) (s : State) → keeps t s ≡ quick_keeps t s
unfolding state_keeps
keeps_quick t s =
    ap (λ (b : Bool). tree_keeps t && (sized s && b && all 15 (turn_keeps t s))) (all_same 32 (record_keeps t s) (quick_record t s) (record_quick t s))

pub record Left : Type 0 where
  pub ending : Ending
  pub bytes : List ℕ

abbrev pub left : Ending → List ℕ → Left
left e bs = record { ending = e; bytes = bs }

abbrev pub left_read : FileAnswer → Trail → List ℕ → Left
left_read Accepted x d = left (end_of x) (over x d)
left_read (Refused r n) x d = left (refused_at (number_of r) n) d
left_read Broken x d = left (broken 11) d

unfoldable pub quick_ran : Tree → Channel → List ℕ → ℕ → Left
quick_ran t c s n =
    pick (not (tree_keeps t)) (left (broken 11) (replicate n 7))
    (pick (ltb 65536 n) (left (refused_at 2 0) (replicate n 7))
    (left_read (read_trace t s) (quick_trail n t (start t c (requests (lines s)))) (replicate n 7)))

module _ (t : Tree) (c : Channel) (s : List ℕ) (n : ℕ) where
  abbrev x : Trail
  x = run_for t c (requests (lines s)) n

  abbrev d : List ℕ
  d = replicate n 7

  run_quick : quick_ran t c s n
      ≡ left (ran_of t c s n) (pick (not (tree_keeps t)) d (pick (ltb 65536 n) d (overwritten (read_trace t s) x d)))
  unfolding quick_ran ran_of
  run_quick = go (tree_keeps t) refl (ltb 65536 n) (read_trace t s)
    where
      go : (b : Bool) → tree_keeps t ≡ b → (over-size : Bool) (r : FileAnswer)
          → pick (not b) (left (broken 11) d) (pick over-size (left (refused_at 2 0) d) (left_read r (quick_trail n t (start t c (requests (lines s)))) d))
          ≡ left (pick (not b) (broken 11) (pick over-size (refused_at 2 0) (answered r x))) (pick (not b) d (pick over-size d (overwritten r x d)))
      go false e w r = refl
      go true e true r = refl
      go true e false Accepted =
          ap (λ (y : Trail). left (end_of y) (over y d)) (sym (trail_quick n t (start t c (requests (lines s))) (fresh_keeps t c e)))
      go true e false (Refused r m) = refl
      go true e false Broken = refl

  buffer_quick : (quick_ran t c s n).bytes ≡ buffer_after t c s d
  unfolding buffer_after
  buffer_quick =
      ap (λ (y : Left). y.bytes) run_quick
      ∙ ap (λ (m : ℕ). pick (not (tree_keeps t)) d (pick (ltb 65536 m) d (overwritten (read_trace t s) (run_for t c (requests (lines s)) m) d)))
      (sym (length-replicate n 7))

abbrev pub quickly : Figure → Type 0
quickly (answers t c cs xs) = quick_answers t (fresh_state t c) cs ≡ xs
quickly (answers_from t s cs xs) = quick_answers t s cs ≡ xs
quickly (keeping t s b) = quick_keeps t s ≡ b
quickly (starting t c x) = holds (starting t c x)
quickly (ran t c s n e bs) = quick_ran t c s n ≡ left e (bs ++ replicate (n - length bs) 7)
quickly (ends t c s n e) = (quick_ran t c s n).ending ≡ e
quickly (numbers xs ys) = holds (numbers xs ys)
quickly (bounded t a x) = holds (bounded t a x)
quickly (printed t ls) = holds (printed t ls)
quickly (told xs ls) = holds (told xs ls)

quick_holds : (f : Figure) → quickly f → holds f
quick_holds (answers t c cs xs) h = answers_quick t (fresh_state t c) cs ∙ h
quick_holds (answers_from t s cs xs) h = answers_quick t s cs ∙ h
quick_holds (keeping t s b) h = keeps_quick t s ∙ h
quick_holds (starting t c x) h = h
quick_holds (ran t c s n e bs) h =
    (ap (λ (y : Left). y.ending) (sym (run_quick t c s n) ∙ h), sym (buffer_quick t c s n) ∙ ap (λ (y : Left). y.bytes) h)
quick_holds (ends t c s n e) h = ap (λ (y : Left). y.ending) (sym (run_quick t c s n)) ∙ h
quick_holds (numbers xs ys) h = h
quick_holds (bounded t a x) h = h
quick_holds (printed t ls) h = h
quick_holds (told xs ls) h = h

abbrev pub every_quickly : List Figure → Type 0
every_quickly [] = Unit {0}
every_quickly (f ∷ fs) = quickly f × every_quickly fs

pub every_quick : (fs : List Figure) → every_quickly fs → every fs
every_quick [] h = tt
every_quick (f ∷ fs) (h, hs) = (quick_holds f h, every_quick fs hs)
