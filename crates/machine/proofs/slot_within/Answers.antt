-- `slot_within` meets its contract: each return is the case of the definition that the tests before it pick.
use mathlib.Core.Path.{refl, ap, ◌∙◌}
use Prim.Native.Nat.{ℕ}
use native.Mathlib.Omega.{arith}
use mathlib.Core.List.{List}
use lib.ListN.{get_or}
use Rattle.model.specs.declared.State.{State}
use Rattle.model.specs.Tree.{returns_of}
use Rattle.rules.proofs.Sound.{sound_of}
use Rattle.turns.proofs.Steps.{choice_same}
use Rattle.machine.proofs.Cases.{few_returns}
use Rattle.machine.proofs.slot_within.Goals as goal

pub ticked-requires : goal.ticked-requires
ticked-requires c = (omega arith, (sound_of _ _ c.requires).delay)

pub take_one-requires : goal.take_one-requires
take_one-requires c =
    let x = c.args in
    let k = c.requires in
    let a = c.choose-c.result.served in
    omega (
      arith,
      ap (λ (r : State). returns_of r a) (c.choose-c.ensures.1 ∙ refl),
      ap (λ (l : List ℕ). get_or l a 0) (choice_same (λ (r : State). r.returning) (λ r j p o. refl) 4 x.t x.s 0),
      few_returns x.t x.s k a,
    )

pub ticked-requires-2 : goal.ticked-requires-2
ticked-requires-2 c =
    let x = c.args in
    let e = ap (λ (r : State). r.slot) c.take_one.ensures ∙ ap (λ (r : State). r.slot) c.choose-c.ensures.1
    ∙ choice_same (λ (r : State). r.slot) (λ r j p o. refl) 4 x.t x.s 0 in
    (omega arith, (sound_of x.t x.s c.requires).delay)
