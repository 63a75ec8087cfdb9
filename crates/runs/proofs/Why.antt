-- What `why` answers is so: by the tests of its definition, and by the law of the wait.
use Prim.Native.Nat.{ℕ, ◌*◌, ◌<◌}
use mathlib.Core.Bool.{Bool, true, false, not, ◌||◌}
use mathlib.Core.List.{List}
use mathlib.Core.Logic.{inl, inr}
use mathlib.Core.Path.{◌≡◌, refl, sym, ◌∙◌, ap, subst}
use native.Mathlib.Omega.{arith}
use lib.Dec.{eqb, ltb, leb}
use lib.ListN.{length}
use borrow.Author.Tests.{not-false, leb-false, ltb-false, eqb-false, le-ltb}
use Rattle.model.specs.declared.Tree.{Tree}
use Rattle.model.specs.declared.Channel.{Channel}
use Rattle.folds.specs.Fold.{pick}
use Rattle.rules.specs.Rules.{tree_keeps}
use Rattle.folds.proofs.Folds.{passed}
use Rattle.text.specs.Text.{lines}
use Rattle.lines.specs.Answer.{FileAnswer, Accepted, Refused, Broken}
use Rattle.trace.specs.TraceFile.{read_trace, requests}
use Rattle.machine.specs.Machine.{fresh_state}
use Rattle.runner.specs.Run.{start, run_for, end_of, answered, ran_of}
use Rattle.runner.specs.Run.{done, stopped, Trail}
use Rattle.runner.specs.Run as run
use Rattle.runner.proofs.Laws.{ran}
use Rattle.runner.specs.Wait.{used_by}
use Rattle.waits.specs.Why.{entries, list_of, Why, refused_at, denied, waited, fewer, why_from, buffer_from, why_read, buffer_read, why_of, why_buffer}
use Rattle.waits.proofs.Pairs.{entries_length}
use Rattle.runs.specs.Calls.{Reports, events_of_run, bytes_in}
use Rattle.runs.specs.Waits.{Waited, WhyIsTrue}
use Rattle.runs.proofs.Waits as waits

neither : (x y : Bool) → (x || y) ≡ false → (x ≡ false) × (y ≡ false)
neither false false e = (refl, refl)
neither true y e = let i : ◌≡◌ {A = ℕ} 0 1 = cc in absurd (omega arith)
neither false true e = let i : ◌≡◌ {A = ℕ} 0 1 = cc in absurd (omega arith)

module _ (w i : ℕ) where
  not_denied : (n : ℕ) → denied n ≡ waited w i → ⊥
  not_denied n e = let z : ◌≡◌ {A = ℕ} 0 1 = cc in omega arith

  not_refused : (n m : ℕ) → refused_at n m ≡ waited w i → ⊥
  not_refused n m e = let z : ◌≡◌ {A = ℕ} 0 1 = cc in omega arith

  goes_by : (b : Bool) (x y : Why) → (x ≡ waited w i → ⊥) → pick b x y ≡ waited w i → (b ≡ false) × (y ≡ waited w i)
  goes_by true x y f e = absurd (f e)
  goes_by false x y f e = (refl, e)

  accepted : (y : FileAnswer) (x : Why) → why_read y x ≡ waited w i → (y ≡ Accepted) × (x ≡ waited w i)
  accepted Accepted x e = (refl, e)
  accepted (Refused r n) x e = absurd (not_refused _ n e)
  accepted Broken x e = absurd (not_denied 11 e)

  abbrev count_of : Why → ℕ
  count_of (waited n m) = n
  count_of (denied n) = 0
  count_of (refused_at n m) = 0

  abbrev slot_of : Why → ℕ
  slot_of (waited n m) = m
  slot_of (denied n) = 0
  slot_of (refused_at n m) = 0

  reports : (x : Trail) → Reports (end_of x) (length x.bytes)
  reports x = go x.done
    where
      go : (b : Bool) → Reports (pick b (done (length x.bytes)) (stopped (length x.bytes))) (length x.bytes)
      go true = inl refl
      go false = inr refl

  pub why_is_true : (t : Tree) (c : Channel) (s : List ℕ) (a k : ℕ) (d : List ℕ) → why_of t c s a k (length d) ≡ waited w i
      → WhyIsTrue t c s a k d w i
  unfolding why_of why_from why_buffer buffer_from ran_of
  why_is_true t c s a k d e =
      let rs = requests (lines s) in
      let m = used_by t c rs 65536 in
      let tree = goes_by (not (tree_keeps t)) _ _ (not_denied 11) e in
      let size = goes_by (ltb 65536 (length d)) _ _ (not_refused 2 0) tree.1 in
      let read = accepted (read_trace t s) _ size.1 in
      let known = goes_by (leb t.accs a) _ _ (not_denied 7) read.1 in
      let enough = goes_by (fewer t c rs a k) _ _ (not_denied 12) known.1 in
      let few = neither (eqb k 0) _ enough.0 in
      let z : 0 < k = omega (arith, eqb-false k 0 few.0) in
      let R = ran 65536 t (start t c rs) in
      let W : Waited t (fresh_state t c) (events_of_run t c s m) a k i (entries t a (list_of t c rs a k)) =
      subst (λ j. Waited t (fresh_state t c) (events_of_run t c s m) a k j (entries t a (list_of t c rs a k))) (ap slot_of enough.1)
      (waits.waited t (not-false _ tree.0) c rs a (leb-false _ _ known.0) k m z (omega (arith, R.slots)) (ltb-false _ _ few.1)) in
      let size_is = entries_length t a (list_of t c rs a k) ∙ ap (λ n. n * 2) (ap count_of enough.1) in
      record {
        used = m;
        ran = subst (λ x. Reports x m) (sym (passed _ (run.broken 11) _ tree.0 ∙ passed _ (run.refused_at 2 0) _ (le-ltb 65536 65536 (omega arith)) ∙ ap (λ y. answered y (run_for t c rs 65536)) read.0)) (reports (run_for t c rs 65536));
        list = entries t a (list_of t c rs a k);
        waits = W;
        count = size_is;
        slots = omega (arith, W.unrefused, ap length W.list, entries_length t a (bytes_in W.mid), size_is);
        buffer = passed _ _ _ tree.0 ∙ passed _ _ _ size.0 ∙ ap (λ y. buffer_read y (buffer_from t c rs a k d) d) read.0 ∙ passed _ _ _ known.0 ∙ passed _ _ _ enough.0;
      }
