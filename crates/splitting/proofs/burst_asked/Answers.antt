-- `burst_asked` meets its contract: the first word is an address and both others are numbers, or one of the three is neither.
use mathlib.Core.Path.{refl}
use Rattle.splitting.proofs.Words.{no_address, no_beats, no_size, all_said}
use Rattle.splitting.proofs.burst_asked.Goals as goal

pub returns-in_default : goal.returns-in_default
returns-in_default c = no_address _ _ _ _ c.address_asked.ensures c.in_default.is

pub returns-in_default-number_asked : goal.returns-in_default-number_asked
returns-in_default-number_asked c =
    no_beats _ _ _ _ c.address_asked.ensures _ c.in-Some.is _ _ c.number_asked.ensures refl c.in_default-number_asked.is

pub returns-in_default-number_asked-2 : goal.returns-in_default-number_asked-2
returns-in_default-number_asked-2 c =
    no_size _ _ _ _ c.address_asked.ensures _ c.in-Some.is _ _ c.number_asked.ensures
    c.number_asked-2.ensures c.in_default-number_asked-2.is

pub returns : goal.returns
returns c =
    all_said _ _ _ _ c.address_asked.ensures _ c.in-Some.is _ _ c.number_asked.ensures
    c.number_asked-2.ensures _ c.in-Some-number_asked.is _ c.in-Some-number_asked-2.is
