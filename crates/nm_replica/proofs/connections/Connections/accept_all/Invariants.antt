use Rattle.std.proofs.Common.{◌≡◌, ◌+◌}
use Rattle.nm_replica.specs.Connections.{Admits}
use Rattle.nm_replica.proofs.connections.Connections.accept_all.Given as goal

abbrev pub invariant-loop-had : goal.invariant-loop-had
invariant-loop-had g l = record {
  idle : g.T.Transport.elapsed_periods l.transport ≡ g.T.Transport.elapsed_periods l.initial.transport;
  waits : (g.T.Transport.asked l.transport).waits ≡ (g.T.Transport.asked l.initial.transport).waits;
  accepts : (g.T.Transport.asked l.transport).accepts ≡ (g.T.Transport.asked l.initial.transport).accepts + l._had;
  admitted : Admits l._had l.initial.self.contacts l.self.contacts;
}
