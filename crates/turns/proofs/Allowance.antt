-- An allowance does not grow while its turn runs: computed at a root of granularity 2 whose last port, 0, has one left of
-- its turn while three wait under it and one under port 1.
use mathlib.Core.List.{[], ◌∷◌}
use mathlib.Core.Path.{◌≡◌, refl}
use Rattle.model.specs.declared.State.{State}
use Rattle.model.specs.declared.Channel.TheVariants.{Read}
use Rattle.model.specs.Builders.{zero_state, with_counts, with_turns}
use Rattle.model.specs.Trees.{pair}
use Rattle.folds.specs.Fold.{sum}
use Rattle.model.specs.Beneath.{inside}
use Rattle.turns.specs.Turns.{turn_port, turn_allowance}

abbrev under_way : State
under_way = with_turns (with_counts (zero_state Read) (3 ∷ 1 ∷ []) (4 ∷ 1 ∷ [])) (0 ∷ []) (1 ∷ [])

pub goes_on : (turn_port (pair 2 16 4 4 8) under_way 0 ≡ 0) × (turn_allowance (pair 2 16 4 4 8) under_way 0 ≡ 1)
unfolding turn_port turn_allowance inside sum
goes_on = (refl, refl)
