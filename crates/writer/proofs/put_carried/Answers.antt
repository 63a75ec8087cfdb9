-- `put_carried` meets its contract: only a port that carries an accelerator has a line.
use mathlib.Core.Logic.{inl, inr}
use mathlib.Core.Path.{refl}
use Rattle.writer.proofs.Texts.{adds_none, adds_as}
use Rattle.writer.proofs.Lines.{acc_line_lem, no_acc}
use Rattle.writer.proofs.put_carried.Goals as goal

pub returns-in-Acc : goal.returns-in-Acc
returns-in-Acc c =
    adds_as (acc_line_lem c.args.t c.in-Acc.a _ _ c.accelerator_at.ensures c.in-Acc.is) c.put_acc.ensures

pub returns-in-Empty : goal.returns-in-Empty
returns-in-Empty c = elim c.in-Empty.is [
  | inl e ↦ adds_as (no_acc c.args.t _ _ refl e) (adds_none _)
  | inr e ↦ adds_as (no_acc c.args.t _ _ refl e.1) (adds_none _)
]
