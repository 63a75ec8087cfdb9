-- `part_end` meets its contract: the part ends at the first separator, or with the bytes.
use mathlib.Core.Path.{ap, ◌∙◌}
use Prim.Native.Nat.{ℕ, ◌+◌}
use lib.ListN.{length}
use Rattle.std.specs.Prelude.{Option}
use Rattle.std.specs.Option.{unwrap_or}
use Rattle.text.proofs.Found.{left, part_ended}
use Rattle.text.proofs.part_end.Goals as goal

pub returns : goal.returns
returns c =
    let rest = left c.args.s.now c.args.at c.min.result c.min.ensures in
    ap (λ (n : ℕ). c.args.at + n)
    (c.unwrap_or.ensures ∙ ap (λ (o : Option ℕ). unwrap_or o (length rest)) c.first_end.ensures ∙ part_ended c.args.s.now c.args.at c.min.result c.min.ensures c.args.sep)
