-- `wait_asked` meets its contract: the first word names a channel and both others are numbers, or one of the three says neither.
use native.Mathlib.Omega.{arith}
use mathlib.Core.Path.{refl}
use Rattle.inquiry.proofs.Words.{acc_most_lem, no_channel, no_acc, no_number, all_said}
use Rattle.inquiry.proofs.wait_asked.Goals as goal

pub returns-in_default : goal.returns-in_default
returns-in_default c = no_channel _ _ _ _ c.channel_asked.ensures c.in_default.is

pub returns-in_default-number_asked : goal.returns-in_default-number_asked
returns-in_default-number_asked c =
    no_acc _ _ _ _ c.channel_asked.ensures _ c.in-Some.is _ _ c.number_asked.ensures refl c.in_default-number_asked.is

pub returns-in_default-number_asked-2 : goal.returns-in_default-number_asked-2
returns-in_default-number_asked-2 c =
    no_number _ _ _ _ c.channel_asked.ensures _ c.in-Some.is _ _ c.number_asked.ensures
    c.number_asked-2.ensures c.in_default-number_asked-2.is

pub overflow_cast-result : goal.overflow_cast-result
overflow_cast-result c = omega (arith, acc_most_lem _ _ c.number_asked.ensures _ c.in-Some-number_asked.is)

pub returns : goal.returns
returns c =
    all_said _ _ _ _ c.channel_asked.ensures _ c.in-Some.is _ _ c.number_asked.ensures
    c.number_asked-2.ensures _ c.in-Some-number_asked.is _ c.in-Some-number_asked-2.is
