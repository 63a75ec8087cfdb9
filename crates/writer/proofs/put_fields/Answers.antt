-- `put_fields` meets its contract: before each turn the numbers below the index are put, each after a tab.
use Rattle.writer.proofs.Texts.{adds_none, adds_as, adds_whole, adds_then, field_more, no_fields}
use Rattle.writer.proofs.put_fields.Goals as goal

pub loop-x-init : goal.loop-x-init
loop-x-init c = adds_as (no_fields c.args.values.now) (adds_none _)

pub loop-x-preserved : goal.loop-x-preserved
loop-x-preserved c =
    adds_as (field_more _ _ c.loop-x-test.true) (adds_then c.loop-x.invariant (adds_then (adds_whole c.byte.ensures) (adds_whole c.number.ensures)))
