use Rattle.std.proofs.Common.{◌≤◌}
use Rattle.nm_base.specs.declared.limits.TheConstants.{MAX_TIME}
use Rattle.nm_sim.specs.Records.{cut}
use Rattle.nm_sim.proofs.Cuts.{All-cut}
use Rattle.nm_offline.proofs.Showings.{of_each_shown, still_wanted}
use Rattle.nm_offline.proofs.Times.{trace_times}
use Rattle.nm_offline.proofs.trace_file.go_on.Goals as goal

pub returns-clause-times : goal.returns-clause-times
returns-clause-times c =
    let t = c.args.topology.now in
    let there = c.every_topology_has_a_trace.ensures.there t.stop in
    of_each_shown (cut c.args.tracer.now.records.keeping.wanted there.0) c.args.tracer.now.records c.go_on-outcome.new.self.records (λ r. r.time ≤ MAX_TIME) c.go_on-outcome.result (c.go_on-outcome.ensures.next there.0 there.1)
    (All-cut (λ r. r.time ≤ MAX_TIME) c.args.tracer.now.records.keeping.wanted there.0
    (trace_times t t.stop there.0 c.accepted_topologies_are_in_order.ensures.limits.greatest_stop there.1))

pub returns-clause-still : goal.returns-clause-still
returns-clause-still c =
    let there = c.every_topology_has_a_trace.ensures.there c.args.topology.now.stop in
    still_wanted (cut c.args.tracer.now.records.keeping.wanted there.0) c.args.tracer.now.records c.go_on-outcome.new.self.records c.go_on-outcome.result (c.go_on-outcome.ensures.next there.0 there.1)
