-- `request_of` meets its contract: the limits let each field be held in its width.
use native.Mathlib.Omega.{arith}
use lib.Dec.{lit<}
use Rattle.lines.specs.declared.Kind.TheVariants.{OfferLine}
use Rattle.lines.proofs.Limits.{most}
use Rattle.trace.specs.OfferText.{offer_of}
use Rattle.trace.proofs.request_of.Goals as goal

pub overflow_cast-result : goal.overflow_cast-result
overflow_cast-result c = omega (arith, most OfferLine (offer_of c.args.l.slot c.args.l.accelerator c.args.l.count).values c.requires.0 0 (lit< tt))

pub overflow_cast-result-3 : goal.overflow_cast-result-3
overflow_cast-result-3 c = omega (arith, most OfferLine (offer_of c.args.l.slot c.args.l.accelerator c.args.l.count).values c.requires.0 2 (lit< tt))
