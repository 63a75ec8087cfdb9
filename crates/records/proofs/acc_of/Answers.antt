-- `acc_of` meets its contract: the limits let each field be held in its width.
use native.Mathlib.Omega.{arith}
use lib.Dec.{lit<}
use Rattle.lines.specs.declared.Kind.TheVariants.{AccLine}
use Rattle.lines.proofs.Limits.{most}
use Rattle.records.proofs.acc_of.Goals as goal

pub overflow_cast-result : goal.overflow_cast-result
overflow_cast-result c = omega (arith, most AccLine c.args.v c.requires 1 (lit< tt))

pub overflow_cast-result-2 : goal.overflow_cast-result-2
overflow_cast-result-2 c = omega (arith, most AccLine c.args.v c.requires 2 (lit< tt))

pub overflow_cast-result-3 : goal.overflow_cast-result-3
overflow_cast-result-3 c = omega (arith, most AccLine c.args.v c.requires 3 (lit< tt))

pub overflow_cast-result-4 : goal.overflow_cast-result-4
overflow_cast-result-4 c = omega (arith, most AccLine c.args.v c.requires 4 (lit< tt))

pub overflow_cast-result-5 : goal.overflow_cast-result-5
overflow_cast-result-5 c = omega (arith, most AccLine c.args.v c.requires 5 (lit< tt))

pub overflow_cast-result-6 : goal.overflow_cast-result-6
overflow_cast-result-6 c = omega (arith, most AccLine c.args.v c.requires 6 (lit< tt))

pub overflow_cast-result-7 : goal.overflow_cast-result-7
overflow_cast-result-7 c = omega (arith, most AccLine c.args.v c.requires 7 (lit< tt))

pub overflow_cast-result-8 : goal.overflow_cast-result-8
overflow_cast-result-8 c = omega (arith, most AccLine c.args.v c.requires 8 (lit< tt))
