-- A tree whose text is as long as that of any tree. Every number has as many digits as its limits let it have.
--
-- cells f              the port table that carries f p at port p
-- carrier p            an interconnect on port p of interconnect 10 that carries eight accelerators, from 8 p on
-- longest              root: interconnects 1 to 7 and 10; interconnect 1: 8 and 9; interconnect 10: 11 to 14, which carry eight
--                      accelerators each. So every accelerator is on an interconnect, and interconnects 11 to 14 have a parent, of two digits
use Rattle.std.specs.Prelude.{ℕ, suc, ◌+◌, ◌*◌, ◌/◌, ◌%◌, List, ◌∷◌, ◌++◌, eqb, replicate}
use Rattle.model.specs.declared.Tree.{Tree}
use Rattle.model.specs.declared.Interconnect.{Interconnect}
use Rattle.model.specs.declared.PortCell.{PortCell}
use Rattle.model.specs.declared.Port.{Port}
use Rattle.model.specs.declared.Port.TheVariants.{Acc, Int}
use Rattle.folds.specs.Fold.{pick}
use Rattle.model.specs.Tree.{empty_cell}
use Rattle.model.specs.Trees.{interconnect, ports, greatest_bus, busiest}
use Rattle.text.specs.Write.{rows}

abbrev pub cells : (ℕ → Port) → List PortCell
cells f = rows 8 0 (λ p. record { port = f p })

abbrev pub carrier : ℕ → Interconnect
carrier p = interconnect 10 p 16 (cells (λ q. Acc (8 * p + q)))

abbrev pub longest : Tree
longest =
    record {
      bus = greatest_bus;
      interconnects =
          interconnect 0 0 16 (cells (λ p. Int (pick (eqb p 7) 10 (suc p))))
          ∷ interconnect 0 0 16 (ports (Int 8) (Int 9))
          ∷ rows 6 1 (λ p. interconnect 0 p 16 (replicate 8 empty_cell))
          ++ rows 2 0 (λ p. interconnect 1 p 16 (replicate 8 empty_cell))
          ++ (interconnect 0 7 16 (rows 4 0 (λ p. record { port = Int (11 + p) }) ++ replicate 4 empty_cell) ∷ rows 4 0 carrier);
      accelerators = rows 32 0 (λ a. busiest (11 + a / 8) (a % 8));
      ints = 15;
      accs = 32;
    }
