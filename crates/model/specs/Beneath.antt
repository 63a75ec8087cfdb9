-- What lies beneath a port or an interconnect, down to the accelerators, summed by a weight for each accelerator. With
-- what waits for the weight it is "the number waiting under that port"; with the outstanding limit it is the capacity
-- ("the sum over everything beneath it, down to the accelerators").
--
-- weight_in ws a          the weight of accelerator a in the array ws, 0 past its end
-- under w v p            the sum beneath a port that carries p, where v is the sum within an interconnect
-- inside n t w j         the sum within interconnect j, over n levels of interconnects, j's own the first
-- weight_under t w j p    the sum beneath port p of interconnect j: at most three levels lie below the first
-- waits_under t s j p     what waits under port p of interconnect j
use Rattle.std.specs.Prelude.{ℕ, zero, suc, List, get_or}
use Rattle.model.specs.declared.Tree.{Tree}
use Rattle.model.specs.declared.State.{State}
use Rattle.model.specs.declared.Port.{Port}
use Rattle.model.specs.declared.Port.TheVariants.{Empty, Acc, Int}
use Rattle.folds.specs.Fold.{sum}
use Rattle.model.specs.Tree.{port_of, waiting_of}

abbrev pub weight_in : List ℕ → ℕ → ℕ
weight_in ws a = get_or ws a 0

abbrev pub under : (ℕ → ℕ) → (ℕ → ℕ) → Port → ℕ
under w v Empty = 0
under w v (Acc a) = w a
under w v (Int j) = v j

unfoldable pub inside : ℕ → Tree → (ℕ → ℕ) → ℕ → ℕ
inside zero t w j = 0
inside (suc n) t w j = sum 8 (λ p. under w (inside n t w) (port_of t j p))

abbrev pub weight_under : Tree → (ℕ → ℕ) → ℕ → ℕ → ℕ
weight_under t w j p = under w (inside 3 t w) (port_of t j p)

abbrev pub waits_under : Tree → State → ℕ → ℕ → ℕ
waits_under t s j p = weight_under t (waiting_of s) j p
