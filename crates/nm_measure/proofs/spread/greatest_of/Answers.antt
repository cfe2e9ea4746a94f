use Rattle.std.proofs.Common.{◌∙◌}
use Rattle.nm_measure.proofs.Rounding.{top_large, top_small}
use Rattle.nm_measure.proofs.spread.greatest_of.Goals as goal

pub returns-then-bits-le-KEPT_BITS : goal.returns-then-bits-le-KEPT_BITS
returns-then-bits-le-KEPT_BITS c = top_small c.args.rounded c.ranges.rounded.fits c.if-bits-le-KEPT_BITS.true

pub returns : goal.returns
returns c = c.saturating_add.ensures ∙ top_large c.args.rounded c.if-bits-le-KEPT_BITS.false
