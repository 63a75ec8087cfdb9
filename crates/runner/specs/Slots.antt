-- A run slot by slot, for the laws of the runner and for the list of its calls.
--
-- standing n t r        where the run from r stands after n slots
-- bytes_before n t r    the bytes of these n slots
-- due_before n rs       the lines of rs before the first that is not due before slot n: in a trace, whose slots do not fall, all
--                       that are due before it
use Rattle.std.specs.Prelude.{ℕ, zero, suc, List, [], ◌∷◌, ◌++◌, ltb}
use Rattle.model.specs.declared.Tree.{Tree}
use Rattle.folds.specs.Fold.{pick}
use Rattle.trace.specs.declared.Request.{Request}
use Rattle.runner.specs.Run.{Run, last_byte, next}

unfoldable pub standing : ℕ → Tree → Run → Run
standing zero t r = r
standing (suc n) t r = next t (standing n t r)

unfoldable pub bytes_before : ℕ → Tree → Run → List ℕ
bytes_before zero t r = []
bytes_before (suc n) t r = bytes_before n t r ++ last_byte t (standing n t r) ∷ []

unfoldable pub due_before : ℕ → List Request → List Request
due_before n [] = []
due_before n (r ∷ rs) = pick (ltb r.slot n) (r ∷ due_before n rs) []
