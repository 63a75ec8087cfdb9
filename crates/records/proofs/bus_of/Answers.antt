-- `bus_of` meets its contract: the limits let each field be held in its width, since those of a bus3 line are within a bus line's.
use Prim.Native.Nat.{ℕ, ◌≤◌, ◌<◌}
use mathlib.Core.Bool.{Bool, true}
use mathlib.Core.List.{List}
use mathlib.Core.Path.{◌≡◌}
use native.Mathlib.Omega.{arith}
use lib.Dec.{lit<}
use lib.ListN.{get_or}
use Rattle.lines.specs.declared.Kind.TheVariants.{BusLine}
use Rattle.lines.specs.Lines.{bus_kind, form_of, limits_kept}
use Rattle.lines.proofs.Limits.{most}
use Rattle.records.proofs.Stored.{narrower}
use Rattle.records.proofs.bus_of.Goals as goal

held : (a : Bool) (v : List ℕ) → limits_kept (bus_kind a) v ≡ true → (i : ℕ) → i < 11 → get_or v i 0 ≤ get_or (form_of BusLine).highs i 0
held a v e = most BusLine v (narrower a v e)

pub overflow_cast-result : goal.overflow_cast-result
overflow_cast-result c = omega (arith, held c.args.axi3 c.args.v c.requires 0 (lit< tt))

pub overflow_cast-result-2 : goal.overflow_cast-result-2
overflow_cast-result-2 c = omega (arith, held c.args.axi3 c.args.v c.requires 1 (lit< tt))

pub overflow_cast-result-3 : goal.overflow_cast-result-3
overflow_cast-result-3 c = omega (arith, held c.args.axi3 c.args.v c.requires 2 (lit< tt))

pub overflow_cast-result-4 : goal.overflow_cast-result-4
overflow_cast-result-4 c = omega (arith, held c.args.axi3 c.args.v c.requires 3 (lit< tt))

pub overflow_cast-result-5 : goal.overflow_cast-result-5
overflow_cast-result-5 c = omega (arith, held c.args.axi3 c.args.v c.requires 4 (lit< tt))

pub overflow_cast-result-6 : goal.overflow_cast-result-6
overflow_cast-result-6 c = omega (arith, held c.args.axi3 c.args.v c.requires 5 (lit< tt))

pub overflow_cast-result-7 : goal.overflow_cast-result-7
overflow_cast-result-7 c = omega (arith, held c.args.axi3 c.args.v c.requires 6 (lit< tt))

pub overflow_cast-result-8 : goal.overflow_cast-result-8
overflow_cast-result-8 c = omega (arith, held c.args.axi3 c.args.v c.requires 7 (lit< tt))

pub overflow_cast-result-9 : goal.overflow_cast-result-9
overflow_cast-result-9 c = omega (arith, held c.args.axi3 c.args.v c.requires 8 (lit< tt))

pub overflow_cast-result-10 : goal.overflow_cast-result-10
overflow_cast-result-10 c = omega (arith, held c.args.axi3 c.args.v c.requires 9 (lit< tt))

pub overflow_cast-result-11 : goal.overflow_cast-result-11
overflow_cast-result-11 c = omega (arith, held c.args.axi3 c.args.v c.requires 10 (lit< tt))
