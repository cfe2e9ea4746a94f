use Rattle.std.proofs.Common.{Bool, ◌<◌, length, rules, subst}
use Rattle.nm_measure.specs.Spread.{IsSpread}
use Rattle.nm_measure.proofs.Rows.{spread_rounded}
use Rattle.nm_measure.proofs.spread.Spread.round_many.Goals as goal

pub returns-clause-same : goal.returns-clause-same
returns-clause-same c ds h =
    let many : 1024 < length c.args.self.now.rows.items = search rules in
    let rounded = rw c.as_slice.ensures.value at c.in_ok-self.ensures.times in
    spread_rounded ds c.args.self.now.rows.items c.in_ok-self.field-0.items (subst (λ (b : Bool). IsSpread ds c.args.self.now.rows.items b) c.if-self.false h) rounded many
