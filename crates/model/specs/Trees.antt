-- The trees of document 01's "Figures to check by". "Where a case is silent, g is 1, phi 4, budget 8, P 16, Nr and Nw are
-- 1".
--
-- ports x y            a port table with x at port 0, y at port 1 and the rest empty
-- interconnect j p g c interconnect on port p of interconnect j, with granularity g and the port table c
-- block j p phi b      accelerator on port p of interconnect j, with outstanding limit phi and budget b
-- greatest_bus          the bus line with each number at its greatest
-- busiest j p          accelerator on port p of interconnect j, with each of its other numbers at its greatest
-- tree_with P r xs ys   the configuration with window P, return delay r, interconnects xs and accelerators ys
-- tree P xs ys         the same with return delay 0
-- chain_with b x        three interconnects, each at port 1 of the one above, with x for accelerator 1 and budget b for the
--                      others
-- chain_of b            the tree of case 1, each budget b; chain: with budget 8, as there
-- timed T              the tree of case 9: accelerator 1 of case 1's tree is at level 2 and has share 4
-- pair g P f h b       one interconnect of granularity g with two accelerators, of phi f and h, at ports 0 and 1, each of
--                      budget b
-- returning_pair r f h  one interconnect of granularity 1, window 16 and return delay r with two accelerators, of phi f and h, at ports 0
--                      and 1, each of budget 8
-- map_tree r f h        one interconnect of granularity 1, window 16 and return delay r: accelerator 0 with phi f, one read and one write;
--                      accelerator 1, at the other port, with phi h, no read and one write (document 02, item 5: "Our map block never
--                      reads"); each of budget 8
-- worked               the tree of the report's worked listing
-- nested               a tree whose shares tell the plain sum of capacities from nested minima
use Rattle.std.specs.Prelude.{ℕ, ◌-◌, false, List, [], ◌∷◌, ◌++◌, length, replicate}
use Rattle.model.specs.declared.Tree.{Tree}
use Rattle.model.specs.declared.Bus.{Bus}
use Rattle.model.specs.declared.Interconnect.{Interconnect}
use Rattle.model.specs.declared.Accelerator.{Accelerator}
use Rattle.model.specs.declared.PortCell.{PortCell}
use Rattle.model.specs.declared.Port.{Port}
use Rattle.model.specs.declared.Port.TheVariants.{Empty, Acc, Int}
use Rattle.model.specs.Tree.{empty_cell, no_interconnect, no_accelerator}
use Rattle.model.specs.Builders.{with_job}

abbrev pub ports : Port → Port → List PortCell
ports x y = record { port = x } ∷ record { port = y } ∷ replicate 6 empty_cell

abbrev pub interconnect : ℕ → ℕ → ℕ → List PortCell → Interconnect
interconnect j p g c = record { parent = j; port = p; granularity = g; ports = c }

abbrev pub block : ℕ → ℕ → ℕ → ℕ → Accelerator
block j p phi b =
    record { interconnect = j; port = p; phi = phi; budget = b; reads = 1; writes = 1; computing = 0; period = 1 }

abbrev pub greatest_bus : Bus
greatest_bus =
    record { window = 65535; ta = 255; da = 255; dd = 255; db = 255; pr = 4095; pw = 4095; td = 255; tb = 255; burst = 256; delay = 15; axi3 = false }

abbrev pub busiest : ℕ → ℕ → Accelerator
busiest j p = with_job 65535 65535 4294967295 4294967295 (block j p 16 1024)

abbrev pub tree_with : ℕ → ℕ → List Interconnect → List Accelerator → Tree
tree_with P r xs ys =
    record {
      bus = record { window = P; ta = 1; da = 4; dd = 2; db = 2; pr = 30; pw = 25; td = 1; tb = 1; burst = 16; delay = r; axi3 = false };
      interconnects = xs ++ replicate (15 - length xs) no_interconnect;
      accelerators = ys ++ replicate (32 - length ys) no_accelerator;
      ints = length xs;
      accs = length ys;
    }

abbrev pub tree : ℕ → List Interconnect → List Accelerator → Tree
tree P xs ys = tree_with P 0 xs ys

abbrev pub chain_with : ℕ → Accelerator → Tree
chain_with b x =
    tree 16
    (interconnect 0 0 1 (ports (Acc 0) (Int 1))
    ∷ interconnect 0 1 1 (ports (Acc 1) (Int 2))
    ∷ interconnect 1 1 1 (ports (Acc 2) (Acc 3))
    ∷ [])
    (block 0 0 4 b ∷ x ∷ block 2 0 4 b ∷ block 2 1 4 b ∷ [])

abbrev pub chain_of : ℕ → Tree
chain_of b = chain_with b (block 1 0 4 b)

abbrev pub chain : Tree
chain = chain_of 8

abbrev pub timed : ℕ → Tree
timed T = chain_with 8 (with_job 10 5 1000 T (block 1 0 4 8))

abbrev pub pair : ℕ → ℕ → ℕ → ℕ → ℕ → Tree
pair g P f h b =
    tree P (interconnect 0 0 g (ports (Acc 0) (Acc 1)) ∷ []) (block 0 0 f b ∷ block 0 1 h b ∷ [])

abbrev pub returning_pair : ℕ → ℕ → ℕ → Tree
returning_pair r f h =
    tree_with 16 r (interconnect 0 0 1 (ports (Acc 0) (Acc 1)) ∷ []) (block 0 0 f 8 ∷ block 0 1 h 8 ∷ [])

abbrev pub map_tree : ℕ → ℕ → ℕ → Tree
map_tree r f h =
    tree_with 16 r (interconnect 0 0 1 (ports (Acc 0) (Acc 1)) ∷ []) (block 0 0 f 8 ∷ with_job 0 1 0 1 (block 0 1 h 8) ∷ [])

abbrev pub nested : Tree
nested =
    tree 16
    (interconnect 0 0 2 (ports (Acc 0) (Int 1)) ∷ interconnect 0 1 1 (ports (Acc 1) Empty) ∷ [])
    (block 0 0 1 8 ∷ block 1 0 2 8 ∷ [])

abbrev pub worked : Tree
worked =
    tree 8
    (interconnect 0 0 1 (record { port = Acc 0 } ∷ empty_cell ∷ empty_cell ∷ record { port = Acc 1 } ∷ replicate 4 empty_cell) ∷ [])
    (with_job 10 5 1000 2000 (block 0 0 4 2) ∷ with_job 1 0 0 100 (block 0 3 4 2) ∷ [])
