-- A tree that reaches each largest figure: four levels, every granularity and outstanding limit 16, an accelerator at each
-- of the seven other ports along the path of accelerator 0, the largest window, delays and job, and budget 1 for accelerator 0, whose
-- transactions then take a window each. Computed from the definitions.
use Prim.Native.Nat.{ℕ, ◌+◌}
use mathlib.Core.Bool.{false}
use mathlib.Core.List.{List, [], ◌∷◌, ◌++◌}
use mathlib.Core.Path.{◌≡◌, refl}
use lib.ListN.{replicate}
use Rattle.model.specs.declared.Tree.{Tree}
use Rattle.model.specs.declared.Interconnect.{Interconnect}
use Rattle.model.specs.declared.Accelerator.{Accelerator}
use Rattle.model.specs.declared.PortCell.{PortCell}
use Rattle.model.specs.declared.Port.{Port}
use Rattle.model.specs.declared.Port.TheVariants.{Acc, Int}
use Rattle.folds.specs.Fold.{sum, all}
use Rattle.model.specs.Tree.{no_interconnect, no_accelerator, above}
use Rattle.model.specs.Builders.{with_job}
use Rattle.model.specs.Trees.{greatest_bus, block, busiest}
use Rattle.model.specs.Beneath.{inside}
use Rattle.rules.specs.Rules.{tree_keeps, bus_keeps, carries, root_placed, child_placed, used_interconnect, unused_interconnect, used_accelerator, unused_accelerator}
use Rattle.shares.specs.Shares.{others_at, share_along}
use Rattle.bounds.specs.Bounds.{Analysis, analysed, bound_of}

abbrev cell : Port → PortCell
cell x = record { port = x }

-- an interconnect at port 0 of interconnect j: x at its port 0, accelerators n + 1 to n + 7 at the others
abbrev wide : ℕ → Port → ℕ → Interconnect
wide j x n =
    record {
      parent = j;
      port = 0;
      granularity = 16;
      ports = cell x ∷ cell (Acc (n + 1)) ∷ cell (Acc (n + 2)) ∷ cell (Acc (n + 3)) ∷ cell (Acc (n + 4)) ∷ cell (Acc (n + 5)) ∷ cell (Acc (n + 6)) ∷ cell (Acc (n + 7)) ∷ [];
    }

abbrev seven : ℕ → List Accelerator
seven j = busiest j 1 ∷ busiest j 2 ∷ busiest j 3 ∷ busiest j 4 ∷ busiest j 5 ∷ busiest j 6 ∷ busiest j 7 ∷ []

-- accelerator 0: the largest job with the smallest budget
abbrev held : Accelerator
held = with_job 65535 65535 4294967295 4294967295 (block 3 0 16 1)

abbrev pub widest : Tree
widest =
    record {
      bus = greatest_bus;
      interconnects = wide 0 (Int 1) 0 ∷ wide 0 (Int 2) 7 ∷ wide 1 (Int 3) 14 ∷ wide 2 (Acc 0) 21 ∷ replicate 11 no_interconnect;
      accelerators = held ∷ (seven 0 ++ seven 1 ++ seven 2 ++ seven 3 ++ replicate 3 no_accelerator);
      ints = 4;
      accs = 29;
    }

abbrev largest : Analysis
largest =
    record {
      level = 4;
      reads = record { share = 163047361; interference = 10685308737600 };
      writes = record { share = 163047361; interference = 10685308737600 };
      response = 1491360056307660495;
      period = 4294967295;
      meets = false;
    }

pub reached : bound_of widest 0 ≡ analysed largest
unfolding bound_of others_at share_along tree_keeps bus_keeps carries root_placed child_placed used_interconnect unused_interconnect used_accelerator unused_accelerator inside above sum all
reached = refl
