-- What the lines due ask of an accelerator: the held counts grow by it, and it adds up from slot to slot. By induction on the
-- lines.
use Prim.Native.Nat.{ℕ, suc, ◌+◌, ◌≤◌, ◌<◌}
use mathlib.Core.List.{List, [], ◌∷◌}
use mathlib.Core.Path.{◌≡◌, refl, sym, ◌∙◌, ap, ap₂, subst}
use native.Mathlib.Decide.{dec_lt, ℕ_discrete}
use native.Mathlib.Omega.{arith}
use lib.Dec.{eqb}
use lib.ListN.{length, length-set}
use lib.Seq.{get_or-set_same, get_or-set_other}
use borrow.Author.Tests.{lt-ltb, le-ltb, eq-eqb, ne_eqb}
use Rattle.folds.specs.Fold.{pick}
use Rattle.folds.proofs.Folds.{picked, passed}
use Rattle.trace.specs.declared.Request.{Request}
use Rattle.trace.specs.TraceFile.{total_for}
use Rattle.runner.specs.Offers.{held_of}
use Rattle.runner.specs.Run.{hold, is_due, held_with}
use Rattle.runner.specs.Slots.{due_before}
use Rattle.runner.proofs.Laws.{test, same_due, left_from}

hold_count : (h : List ℕ) (r : Request) (a : ℕ) → a < length h → held_of (hold h r) a ≡ held_of h a + pick (eqb a r.accelerator) r.count 0
hold_count h r a l = elim (ℕ_discrete a r.accelerator) [
  | yes e ↦
      let m : r.accelerator < length h = subst (λ (x : ℕ). x < length h) e l in
      subst (λ (x : ℕ). held_of (hold h r) x ≡ held_of h x + pick (eqb x r.accelerator) r.count 0) (sym e)
      (get_or-set_same h r.accelerator _ 0 m
      ∙ ap (λ (x : ℕ). held_of h r.accelerator + x) (sym (picked _ _ _ (eq-eqb r.accelerator r.accelerator refl))))
  | no d ↦ get_or-set_other h r.accelerator a _ 0 d ∙ omega (arith, passed (eqb a r.accelerator) r.count 0 (ne_eqb _ _ d))
]

-- the held counts grow by what the lines due ask
pub held_asked : (n : ℕ) (h : List ℕ) (rs : List Request) (a : ℕ) → a < length h
    → held_of (held_with n h rs) a ≡ held_of h a + total_for a (due_before (suc n) rs)
unfolding held_with due_before total_for
held_asked n h [] a l = omega arith
held_asked n h (r ∷ rs) a l =
    test (is_due n r)
    (λ e.
    let m : a < length (hold h r) = omega (arith, length-set h r.accelerator (held_of h r.accelerator + r.count)) in
    ap (λ (x : List ℕ). held_of x a) (picked _ (held_with n (hold h r) rs) h e)
    ∙ held_asked n (hold h r) rs a m
    ∙ omega (arith, hold_count h r a l)
    ∙ ap (λ (x : List Request). held_of h a + total_for a x) (sym (picked _ (r ∷ due_before (suc n) rs) [] (sym (same_due n r) ∙ e))))
    (λ e.
    ap (λ (x : List ℕ). held_of x a) (passed _ (held_with n (hold h r) rs) h e)
    ∙ omega (arith, ap (total_for a) (passed _ (r ∷ due_before (suc n) rs) [] (sym (same_due n r) ∙ e))))

-- what is due by the next slot is what was due, and what of the lines left is due now
pub asked_more : (n : ℕ) (rs : List Request) (a : ℕ)
    → total_for a (due_before (suc n) rs) ≡ total_for a (due_before n rs) + total_for a (due_before (suc n) (left_from n rs))
unfolding due_before total_for left_from
asked_more n [] a = omega arith
asked_more n (r ∷ rs) a = elim (dec_lt r.slot n) [
  | yes h ↦
      let c = pick (eqb a r.accelerator) r.count 0 in
      ap (total_for a) (picked _ (r ∷ due_before (suc n) rs) [] (lt-ltb r.slot (suc n) (omega arith)))
      ∙ omega (arith, asked_more n rs a)
      ∙ ap₂ (λ (x y : List Request). total_for a x + total_for a (due_before (suc n) y))
      (sym (picked _ (r ∷ due_before n rs) [] (lt-ltb r.slot n h))) (sym (picked _ (left_from n rs) (r ∷ rs) (lt-ltb r.slot n h)))
  | no d ↦
      let l : n ≤ r.slot = omega arith in
      omega arith
      ∙ ap₂ (λ (x y : List Request). total_for a x + total_for a (due_before (suc n) y))
      (sym (passed _ (r ∷ due_before n rs) [] (le-ltb r.slot n l))) (sym (passed _ (left_from n rs) (r ∷ rs) (le-ltb r.slot n l)))
]

pub asked_start : (rs : List Request) (a : ℕ) → total_for a (due_before 0 rs) ≡ 0
unfolding due_before total_for
asked_start [] a = refl
asked_start (r ∷ rs) a = ap (total_for a) (passed _ (r ∷ due_before 0 rs) [] (le-ltb r.slot 0 (omega arith)))
