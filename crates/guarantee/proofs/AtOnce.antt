-- With return delay 0 nothing ever returns: what was served 0 slots ago is home one slot later. So each test reads what document 01's
-- reads, with the limits of the state's channel for phi, and each call gives what document 01's gives; the list by induction. Where each
-- accelerator has a job on the channel those limits are phi itself.
use Prim.Native.Nat.{ℕ, zero, suc, ◌+◌, ◌^◌, ◌<◌}
use mathlib.Core.Bool.{Bool, true, false, not, ◌&&◌}
use mathlib.Core.List.{List, [], ◌∷◌, map}
use mathlib.Core.Path.{◌≡◌, refl, sym, ◌∙◌, ap, ap₂, subst, fun_ext}
use native.Mathlib.Decide.{dec_lt, ℕ_discrete}
use native.Mathlib.Omega.{arith}
use lib.Dec.{leb, ltb, eqb}
use borrow.Author.Tests.{eq-eqb, ne_eqb, le-leb, lt-leb, le-ltb}
use lib.ListN.{get_or, length, replicate, length-set}
use Rattle.model.specs.declared.Tree.{Tree}
use Rattle.model.specs.declared.State.{State}
use Rattle.model.specs.declared.Channel.{Channel}
use Rattle.folds.specs.Fold.{pick, all}
use Rattle.model.specs.Tree.{phi_of, job_of, limit_of, budget_of, delay_of, waiting_of, returns_of, outstanding_of, admitted_of}
use Rattle.model.specs.Builders.{at_slot}
use Rattle.rules.specs.Rules.{tree_keeps, turn_keeps, sized, on_the_way, record_keeps, state_keeps, keeps}
use Rattle.folds.proofs.Folds.{picked, passed, clash}
use Rattle.rules.proofs.Sound.{sound, limit_none, limit_phi, kept_of, way_of}
use Rattle.turns.specs.Turns.{after}
use Rattle.turns.proofs.Steps.{choice_same}
use Rattle.machine.specs.Machine.{Answer, Outcome, outcome, admitted, served, idle, refused, admit, on_admitted, limits_answer, verdict_of, offered}
use Rattle.machine.specs.Machine.{none_waits, opens, older, tick, last_slot, chosen, take_one, slotted}
use Rattle.machine.specs.Calls.{Call, offer, slot, step, answers_of, state_after}
use Rattle.machine.proofs.Keeps.{zeros}
use Rattle.machine.proofs.Returns.{no_ones}
use Rattle.machine.proofs.Laws.{step_channel}
use Rattle.guarantee.proofs.Homecoming.{not_by_limits}
use Rattle.guarantee.specs.AtOnce.{sized_at_once, record_keeps_at_once, state_keeps_at_once, keeps_at_once, verdict_at_once, offered_at_once, tick_at_once}
use Rattle.guarantee.specs.AtOnce.{take_one_at_once, serve_at_once, slotted_at_once, step_at_once, answers_at_once, state_at_once, AtOnce, DocumentOne, Never14}

abbrev none : List ℕ
none = replicate 32 0

and_true : (a b : Bool) → b ≡ true → (a && b) ≡ a
and_true true b e = e
and_true false b e = refl

-- with delay 0 whatever returns is home one slot later
all_home : (l : List ℕ) → map (older 0) l ≡ replicate (length l) 0
all_home [] = refl
all_home (x ∷ l) = ap₂ (λ (y : ℕ) (m : List ℕ). y ∷ m) (omega arith) (all_home l)

-- a list of zeros
zeros_only : (n : ℕ) (l : List ℕ) → length l ≡ n → ((i : ℕ) → get_or l i 0 ≡ 0) → l ≡ replicate n 0
zeros_only zero [] e h = refl
zeros_only zero (x ∷ l) e h = absurd (omega arith)
zeros_only (suc n) [] e h = absurd (omega arith)
zeros_only (suc n) (x ∷ l) e h = ap₂ (λ (y : ℕ) (m : List ℕ). y ∷ m) (h 0) (zeros_only n l (omega arith) (λ i. h (suc i)))

by_test : (c : Bool) (x y : Outcome) → x.state.returning ≡ none → y.state.returning ≡ none → (pick c x y).state.returning ≡ none
by_test true x y e f = e
by_test false x y e f = f

on_admission : (v : Answer) (x y : State) → x.returning ≡ none → y.returning ≡ none → (on_admitted v x y).returning ≡ none
on_admission admitted x y e f = e
on_admission (served a) x y e f = f
on_admission idle x y e f = f
on_admission (refused n) x y e f = f

both_true : (a b : Bool) → (a && b) ≡ true → a ≡ true
both_true true b e = refl
both_true false b e = e

not-false : (a : Bool) → not a ≡ false → a ≡ true
not-false true e = refl
not-false false e = clash cc

-- an outcome is made of one answer or of another that is equal where the rules are kept
if_kept : (c : Bool) (o : Outcome) (f : Answer → Outcome) (x y : Answer) → (c ≡ true → x ≡ y)
    → pick (not c) o (f x) ≡ pick (not c) o (f y)
if_kept true o f x y h = ap f (h refl)
if_kept false o f x y h = refl

by_answer : (c : Bool) (x y : Outcome) → (x.answer ≡ refused 14 → ⊥) → (c ≡ false → y.answer ≡ refused 14 → ⊥)
    → (pick c x y).answer ≡ refused 14 → ⊥
by_answer true x y f g = f
by_answer false x y f g = g refl

other_number : (n : ℕ) → (n ≡ 14 → ⊥) → refused n ≡ refused 14 → ⊥
other_number n d e = d cc

module _ (t : Tree) (z : delay_of t ≡ 0) where
  module _ (s : State) (e : s.returning ≡ none) where
    no_returns : (a : ℕ) → returns_of s a ≡ 0
    no_returns a = ap (λ l. get_or l a 0) e ∙ zeros 32 a

    all_waiting : (a : ℕ) → outstanding_of s a ≡ waiting_of s a
    all_waiting a = omega (arith, no_ones (returns_of s a) (no_returns a))

    same_sized : sized s ≡ sized_at_once s
    unfolding sized sized_at_once
    same_sized = and_true _ _ (ap (λ l. eqb (length l) 32) e)

    on_way : (a : ℕ) → on_the_way (delay_of t) (returns_of s a) ≡ true
    on_way a = ap₂ on_the_way z (no_returns a)

    -- with the limits of the state's channel
    abbrev φ : ℕ → ℕ
    φ = limit_of t s.channel

    same_record_lem : (a : ℕ) → record_keeps t s a ≡ record_keeps_at_once φ t s a
    unfolding record_keeps record_keeps_at_once
    same_record_lem a =
        ap₂ (λ x y. pick (ltb a t.accs) x y)
        (and_true _ _ (on_way a) ∙ ap (λ n. leb n (φ a) && leb (admitted_of s a) (budget_of t a)) (all_waiting a))
        (and_true _ _ (ap (λ x. eqb x 0) (no_returns a)))

    same_rules : keeps t s ≡ keeps_at_once φ t s
    unfolding state_keeps state_keeps_at_once
    same_rules =
        ap₂ (λ (b : Bool) (f : ℕ → Bool). tree_keeps t && (b && all 32 f && all 15 (turn_keeps t s))) same_sized (fun_ext same_record_lem)

    -- in a configuration that keeps its rules phi is not 0: so none may be outstanding exactly if the job has 0 transactions
    same_test : tree_keeps t ≡ true → (a : ℕ) → a < t.accs → eqb (job_of t s.channel a) 0 ≡ eqb (φ a) 0
    same_test k a la = elim (ℕ_discrete (job_of t s.channel a) 0) [
      | yes j ↦ eq-eqb _ _ j ∙ sym (eq-eqb _ _ (limit_none t s.channel a j))
      | no d ↦
          ne_eqb _ _ d ∙ sym (ne_eqb (φ a) 0 (λ w. omega (arith, limit_phi t s.channel a d, (sound t k).phi a la)))
    ]

    same_verdict : tree_keeps t ≡ true → (a : ℕ) → verdict_of t s a ≡ verdict_at_once φ t s a
    same_verdict k a = elim (dec_lt a t.accs) [
      | yes l ↦
          ap₂ (λ (b : Bool) n. pick (leb t.accs a) (refused 7)
          (pick b (refused 14) (limits_answer (φ a) n (budget_of t a) (admitted_of s a)))) (same_test k a l) (all_waiting a)
      | no d ↦ picked _ _ _ (le-leb t.accs a (omega arith)) ∙ sym (picked _ _ _ (le-leb t.accs a (omega arith)))
    ]

    same_offer : (a : ℕ) → offered t s a ≡ offered_at_once φ t s a
    unfolding offered offered_at_once
    same_offer a =
        ap (λ (b : Bool). pick (not b) (outcome (refused 11) s) (outcome (verdict_of t s a) (on_admitted (verdict_of t s a) (admit s a) s)))
        same_rules
        ∙ if_kept (keeps_at_once φ t s) _ (λ (v : Answer). outcome v (on_admitted v (admit s a) s)) _ _
        (λ k. same_verdict (both_true (tree_keeps t) _ k) a)

    same_idle : tick t s ≡ tick_at_once t s
    unfolding tick
    same_idle =
        ap (λ (l : List ℕ). at_slot s l (pick (opens t s.slot) none s.admitted) (s.slot + 1))
        (ap₂ (λ (r : ℕ) (l : List ℕ). map (older r) l) z e ∙ all_home none ∙ sym e)

    turned_none : (after 4 t s 0).returning ≡ none
    turned_none = choice_same (λ x. x.returning) (λ x j p o. refl) 4 t s 0 ∙ e

  module _ (s : State) (e : s.returning ≡ none) where
    same_served : (a : ℕ) → tick t (take_one s a) ≡ tick_at_once t (take_one_at_once s a)
    unfolding tick
    same_served a =
        ap (λ (l : List ℕ). at_slot (take_one_at_once s a) l (pick (opens t s.slot) none s.admitted) (s.slot + 1))
        (ap (λ (r : ℕ). map (older r) (take_one s a).returning) z ∙ all_home (take_one s a).returning
        ∙ ap (λ n. replicate n 0) (length-set s.returning _ _ ∙ ap length e) ∙ sym e)

  module _ (s : State) (e : s.returning ≡ none) where
    same_slot : slotted t s ≡ slotted_at_once (limit_of t s.channel) t s
    unfolding slotted slotted_at_once
    same_slot =
        ap₂ (λ (b : Bool) (o : Outcome). pick (not b) (outcome (refused 11) s) (pick (eqb s.slot last_slot) (outcome (refused 10) s) o))
        (same_rules s e)
        (ap₂ (λ (x y : State). pick (none_waits s) (outcome idle x) (outcome (served (chosen t s)) y))
        (same_idle s e) (same_served (after 4 t s 0) (turned_none s e) (chosen t s)))

    same_step : (c : Call) → step t s c ≡ step_at_once (limit_of t s.channel) t s c
    same_step (offer a) = same_offer s e a
    same_step slot = same_slot

    -- no call of document 01's machine changes what returns
    leaves : (φ : ℕ → ℕ) (c : Call) → (step_at_once φ t s c).state.returning ≡ none
    unfolding offered_at_once slotted_at_once
    leaves φ (offer a) = by_test (not (keeps_at_once φ t s)) _ _ e (on_admission (verdict_at_once φ t s a) (admit s a) s e e)
    leaves φ slot =
        by_test (not (keeps_at_once φ t s)) _ _ e (by_test (eqb s.slot last_slot) _ _ e
        (by_test (none_waits s) _ _ e (turned_none s e)))

-- with any φ that is the limits of the channel as far as the tree has accelerators
module _ (t : Tree) (φ ψ : ℕ → ℕ) (g : (a : ℕ) → a < t.accs → φ a ≡ ψ a) (s : State) where
  other_record : (a : ℕ) → record_keeps_at_once φ t s a ≡ record_keeps_at_once ψ t s a
  unfolding record_keeps_at_once
  other_record a = elim (dec_lt a t.accs) [
    | yes l ↦
        ap (λ n. pick (ltb a t.accs) (leb (waiting_of s a) n && leb (admitted_of s a) (budget_of t a)) (eqb (waiting_of s a) 0 && eqb (admitted_of s a) 0)) (g a l)
    | no d ↦ let b = le-ltb a t.accs (omega arith) in passed _ _ _ b ∙ sym (passed _ _ _ b)
  ]

  other_rules : keeps_at_once φ t s ≡ keeps_at_once ψ t s
  unfolding state_keeps_at_once
  other_rules =
      ap (λ (f : ℕ → Bool). tree_keeps t && (sized_at_once s && all 32 f && all 15 (turn_keeps t s))) (fun_ext other_record)

  other_verdict : (a : ℕ) → verdict_at_once φ t s a ≡ verdict_at_once ψ t s a
  other_verdict a = elim (dec_lt a t.accs) [
    | yes l ↦
        ap (λ n. pick (leb t.accs a) (refused 7)
        (pick (eqb n 0) (refused 14) (limits_answer n (waiting_of s a) (budget_of t a) (admitted_of s a)))) (g a l)
    | no d ↦ let b = le-leb t.accs a (omega arith) in picked _ _ _ b ∙ sym (picked _ _ _ b)
  ]

  other_step : (c : Call) → step_at_once φ t s c ≡ step_at_once ψ t s c
  unfolding offered_at_once slotted_at_once
  other_step (offer a) =
      ap₂ (λ (b : Bool) (v : Answer). pick (not b) (outcome (refused 11) s) (outcome v (on_admitted v (admit s a) s)))
      other_rules (other_verdict a)
  other_step slot =
      ap (λ (b : Bool). pick (not b) (outcome (refused 11) s)
      (pick (eqb s.slot last_slot) (outcome (refused 10) s)
      (pick (none_waits s) (outcome idle (tick_at_once t s))
      (outcome (served (chosen t s)) (tick_at_once t (serve_at_once t s)))))) other_rules

-- the calls, on channel d
with_limits : (t : Tree) → delay_of t ≡ 0 → (d : Channel) (φ : ℕ → ℕ) → ((a : ℕ) → a < t.accs → limit_of t d a ≡ φ a)
    → (s : State) → s.channel ≡ d → s.returning ≡ replicate 32 0 → (cs : List Call) → AtOnce φ t s cs
unfolding answers_of state_after answers_at_once state_at_once
with_limits t z d φ g s i e [] = record {
  answers = refl;
  state = refl;
  rules = same_rules t z s e ∙ other_rules t (limit_of t s.channel) φ (λ a l. ap (λ c. limit_of t c a) i ∙ g a l) s;
  none_returning = e;
}
with_limits t z d φ g s i e (c ∷ cs) =
    let q = same_step t z s e c ∙ other_step t (limit_of t s.channel) φ (λ a l. ap (λ k. limit_of t k a) i ∙ g a l) s c in
    let j = ap (λ (o : Outcome). o.state.channel) (sym q) ∙ step_channel t s c ∙ i in
    let h = with_limits t z d φ g (step_at_once φ t s c).state j (leaves t z s e φ c) cs in
    record {
      answers = ap (λ (o : Outcome). o.answer ∷ answers_of t o.state cs) q
          ∙ ap (λ (l : List Answer). (step_at_once φ t s c).answer ∷ l) h.answers;
      state = ap (λ (o : Outcome). state_after t o.state cs) q ∙ h.state;
      rules = ap (λ (o : Outcome). keeps t (state_after t o.state cs)) q ∙ h.rules;
      none_returning = ap (λ (o : Outcome). (state_after t o.state cs).returning) q ∙ h.none_returning;
    }

pub at_once : (t : Tree) → delay_of t ≡ 0 → (s : State) → s.returning ≡ replicate 32 0 → (cs : List Call)
    → AtOnce (limit_of t s.channel) t s cs
at_once t z s e cs = with_limits t z s.channel (limit_of t s.channel) (λ a l. refl) s refl e cs

-- where each accelerator has a job on the channel it is document 01's own machine
pub document_one : (t : Tree) → delay_of t ≡ 0 → (s : State) → s.returning ≡ replicate 32 0 → (cs : List Call) → DocumentOne t s cs
document_one t z s e cs j =
    with_limits t z s.channel (phi_of t) (λ a l. limit_phi t s.channel a (λ w. omega (arith, j a l))) s refl e cs

-- which answers no 14
pub never_14 : (t : Tree) → Never14 t
unfolding offered_at_once slotted_at_once
never_14 t s (offer a) = by_answer (not (keeps_at_once (phi_of t) t s)) _ _ (λ e. other_number 11 (λ z. omega arith) e) (λ k.
    by_verdict (both_true (tree_keeps t) _ (not-false _ k)))
  where
    by_verdict : tree_keeps t ≡ true → verdict_at_once (phi_of t) t s a ≡ refused 14 → ⊥
    by_verdict k = elim (dec_lt a t.accs) [
      | yes l ↦ λ e. not_by_limits (phi_of t a) (waiting_of s a) (budget_of t a) (admitted_of s a)
          (sym (passed _ _ _ (lt-leb t.accs a l) ∙ passed _ _ _ (ne_eqb (phi_of t a) 0 (λ z. omega (arith, (sound t k).phi a l)))) ∙ e)
      | no d ↦ λ e. other_number 7 (λ z. omega arith) (sym (picked _ _ _ (le-leb t.accs a (omega arith))) ∙ e)
    ]
never_14 t s slot =
    by_answer (not (keeps_at_once (phi_of t) t s)) _ _ (λ e. other_number 11 (λ z. omega arith) e) (λ _.
    by_answer (eqb s.slot last_slot) _ _ (λ e. other_number 10 (λ z. omega arith) e) (λ _.
    by_answer (none_waits s) _ _ (λ e. clash cc) (λ _ e. clash cc)))

-- so it is from every state that keeps its rules
pub none_returning : (t : Tree) (s : State) → delay_of t ≡ 0 → keeps t s ≡ true → s.returning ≡ replicate 32 0
none_returning t s z k = zeros_only 32 s.returning (kept_of t s k).returning_size each
  where
    each : (a : ℕ) → returns_of s a ≡ 0
    each a = elim (dec_lt a t.accs) [
      | yes l ↦
          let b : returns_of s a < 2 ^ (0 + 1) = subst (λ r. returns_of s a < 2 ^ (r + 1)) z ((way_of t s k).recent a l) in
          omega (arith, (way_of t s k).even a l)
      | no d ↦ (kept_of t s k).no_returns a (omega arith)
    ]

pub at_once_kept : (t : Tree) (s : State) (cs : List Call) → delay_of t ≡ 0 → keeps t s ≡ true
    → AtOnce (limit_of t s.channel) t s cs
at_once_kept t s cs z k = at_once t z s (none_returning t s z k) cs

pub document_one_kept : (t : Tree) (s : State) (cs : List Call) → delay_of t ≡ 0 → keeps t s ≡ true → DocumentOne t s cs
document_one_kept t s cs z k = document_one t z s (none_returning t s z k) cs
