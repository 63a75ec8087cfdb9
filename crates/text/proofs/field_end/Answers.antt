-- `field_end` meets its contract: the field ends at the first tab or LF, or with the bytes.
use mathlib.Core.Path.{ap, ◌∙◌}
use Prim.Native.Nat.{ℕ, ◌+◌}
use lib.ListN.{length}
use Rattle.std.specs.Prelude.{Option}
use Rattle.std.specs.Option.{unwrap_or}
use Rattle.text.proofs.Found.{left, field_ended}
use Rattle.text.proofs.field_end.Goals as goal

pub returns : goal.returns
returns c =
    let rest = left c.args.s.now c.args.at c.min.result c.min.ensures in
    ap (λ (n : ℕ). c.args.at + n)
    (c.unwrap_or.ensures ∙ ap (λ (o : Option ℕ). unwrap_or o (length rest)) c.first_field_end.ensures ∙ field_ended c.args.s.now c.args.at c.min.result c.min.ensures)
