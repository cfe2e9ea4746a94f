use Rattle.nm_events.specs.Held.{pending_of}
use Rattle.nm_sim.specs.Tracing.{IsTracing}
use Rattle.nm_bench.proofs.network.let_go.Given as goal

abbrev pub invariant-loop-event : goal.invariant-loop-event
invariant-loop-event l = IsTracing pending_of l.topology l.tracer
