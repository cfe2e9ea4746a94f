use Rattle.nm_events.specs.Held.{pending_of}
use Rattle.nm_sim.specs.Tracing.{IsTracing}
use Rattle.nm_offline.specs.Shown.{ArePacketLines}
use Rattle.nm_offline.proofs.shown.packets_text.Given as goal

abbrev pub invariant-loop : goal.invariant-loop
invariant-loop l = record {
  tracing : IsTracing pending_of l.network l.tracer;
  lines : ArePacketLines l.text.items;
}
