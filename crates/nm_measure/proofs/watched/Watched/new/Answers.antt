use Rattle.std.proofs.Common.{length}
use Rattle.nm_measure.proofs.Laning.{watched_first}
use Rattle.nm_measure.proofs.watched.Watched.new.Goals as goal

pub returns-clause-watches : goal.returns-clause-watches
returns-clause-watches c = watched_first (length c.args.topology.now.ifaces) c.in_ok-lanes_of.field-0.items c.in_ok-new.field-0.counts.items c.in_ok-new.field-0.times.items
    c.in_ok-lanes_of.ensures.count c.in_ok-lanes_of.ensures.none c.in_ok-new.ensures.flows

pub returns-clause-followed : goal.returns-clause-followed
returns-clause-followed c = c.courses_of.ensures c.args.topology.now
