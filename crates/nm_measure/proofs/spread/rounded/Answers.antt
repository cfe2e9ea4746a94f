use Rattle.nm_measure.proofs.Rounding.{rounded_large, rounded_near, rounded_small}
use Rattle.nm_measure.proofs.spread.rounded.Goals as goal

pub returns-then-bits-le-KEPT_BITS-clause-exact : goal.returns-then-bits-le-KEPT_BITS-clause-exact
returns-then-bits-le-KEPT_BITS-clause-exact c = rounded_small c.args.delay c.if-bits-le-KEPT_BITS.true

pub returns-clause-exact : goal.returns-clause-exact
returns-clause-exact c = rounded_large c.args.delay c.if-bits-le-KEPT_BITS.false

pub returns-clause-near : goal.returns-clause-near
returns-clause-near c = rounded_near c.args.delay c.ranges.delay.fits c.if-bits-le-KEPT_BITS.false
