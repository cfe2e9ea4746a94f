use Rattle.nm_events.specs.Held.{pending_of}
use Rattle.nm_sim.specs.Tracing.{IsTracing}
use Rattle.nullsim.proofs.differing.place_of.Given as goal

abbrev pub invariant-loop-event : goal.invariant-loop-event
invariant-loop-event l = record {
  tracing : IsTracing pending_of l.network l.tracer;
}
