use Rattle.nm_measure.proofs.Rows.{spread_added}
use Rattle.nm_measure.proofs.spread.Spread.add.Goals as goal

pub returns-clause-added : goal.returns-clause-added
returns-clause-added c ds few h =
    spread_added ds c.args.self.now.rows.items c.note.new.rows.items c.args.delay c.kept.result c.args.self.now.is_rounded h c.kept.ensures c.in_ok-note.ensures.more
    c.in_ok-note.ensures.kinds
