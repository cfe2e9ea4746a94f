use Rattle.std.proofs.Common.{arith}
use Rattle.nm_sim.proofs.tracer.Tracer.start_with.Goals as goal

pub returns-clause-tracing : goal.returns-clause-tracing
returns-clause-tracing c = record {
  events = 0;
  early = λ m l. absurd (omega (arith, l));
  represents = c.in_ok-part.ensures.represents;
}
