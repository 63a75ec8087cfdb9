-- `all_older` meets its contract: the loop has made each below the next one older.
use mathlib.Core.Path.{◌≡◌, ◌∙◌}
use native.Mathlib.Omega.{arith}
use borrow.Author.Rules.{rules}
use lib.ListN.{length}
use Rattle.machine.specs.Machine.{older}
use Rattle.machine.proofs.Returns.{map_none, map_turn, map_end}
use Rattle.machine.proofs.all_older.Goals as goal

pub loop-x-init : goal.loop-x-init
loop-x-init c = (map_none _ _, c.requires)

pub loop-x-preserved : goal.loop-x-preserved
loop-x-preserved c =
    let l = c.loop-x in
    (map_turn (older c.args.delay) l.x-index _ _ _ l.invariant.0 c.one_older.ensures, l.invariant.1)

pub returns : goal.returns
returns c =
    let l = c.loop-x in
    l.invariant.0 ∙ map_end (older c.args.delay) l.x-index _ (omega (arith, long))
  where
    long : length c.args.returning ≡ 32
    long = search rules
