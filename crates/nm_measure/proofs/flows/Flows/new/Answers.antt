use Rattle.std.proofs.Common.{ap, refl, length}
use Rattle.nm_measure.proofs.Flowing.{flows_first}
use Rattle.nm_measure.proofs.Making.{sent_first}
use Rattle.nm_measure.proofs.flows.Flows.new.Goals as goal

pub returns-clause-sent : goal.returns-clause-sent
returns-clause-sent c = sent_first c.args.topology.now c.in_ok-vec.field-0.items (length c.sources-sources.result.now) _
    (c.in_ok-vec.ensures.items_if_clones_equal (λ y e. e)) (ap length c.sources-sources.ensures) refl

pub returns-clause-flows : goal.returns-clause-flows
returns-clause-flows c = flows_first c.in_ok-vec.field-0.items c.in_ok-no_times.field-0.items (length c.sources-sources.result.now) _
    (c.in_ok-vec.ensures.items_if_clones_equal (λ y e. e)) refl refl refl refl refl refl c.in_ok-no_times.ensures.none c.in_ok-no_times.ensures.count

pub returns-clause-starts : goal.returns-clause-starts
returns-clause-starts c = c.in_ok-no_times.ensures.starts c.args.topology.now (ap length c.sources-sources.ensures)
