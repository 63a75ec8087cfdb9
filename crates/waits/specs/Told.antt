-- The answer put together from what a run told of the transaction, and its bytes (inner: that this is the answer of item 1 is a law).
--
-- answer_by t a k w      the answer by what was told, w: 7, then 12, else the slots between admission and service
-- buffer_by t a k w bs d the buffer d then: the entries of the bytes bs between the two
-- why_by e x             the answer where the run ended as e: its refusal, else x
-- left_by e d x          the buffer d then: as it was where the run was refused, else x
use Rattle.std.specs.Prelude.{ℕ, ◌-◌, ◌||◌, List, leb, ltb, eqb, take, drop}
use Rattle.model.specs.declared.Tree.{Tree}
use Rattle.folds.specs.Fold.{pick}
use Rattle.runner.specs.Run as run
use Rattle.runner.specs.Run.{Ending}
use Rattle.runner.specs.Wait.{Waits}
use Rattle.waits.specs.Why.{entries, Why, refused_at, denied, waited, list_over}

abbrev pub answer_by : Tree → ℕ → ℕ → Waits → Why
answer_by t a k w =
    pick (leb t.accs a) (denied 7)
    (pick (eqb k 0 || ltb w.count k) (denied 12)
    (waited (w.service - w.admission) w.admission))

abbrev pub buffer_by : Tree → ℕ → ℕ → Waits → List ℕ → List ℕ → List ℕ
buffer_by t a k w bs d =
    pick (leb t.accs a) d
    (pick (eqb k 0 || ltb w.count k) d
    (list_over (entries t a (drop w.admission (take w.service bs))) d))

abbrev pub why_by : Ending → Why → Why
why_by (run.refused_at n l) x = refused_at n l
why_by (run.broken n) x = denied n
why_by (run.done n) x = x
why_by (run.stopped n) x = x

abbrev pub left_by : Ending → List ℕ → List ℕ → List ℕ
left_by (run.refused_at n l) d x = d
left_by (run.broken n) d x = d
left_by (run.done n) d x = x
left_by (run.stopped n) d x = x
