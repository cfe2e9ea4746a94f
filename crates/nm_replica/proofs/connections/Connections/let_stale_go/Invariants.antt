use Rattle.std.proofs.Common.{◌≡◌, ℕ, length}
use Rattle.nm_replica.specs.Connections.{LetGoStale}
use Rattle.nm_replica.proofs.Hands.{AreTakenOut, NoneStale}
use Rattle.nm_replica.proofs.connections.Connections.let_stale_go.Given as goal

abbrev pub invariant-loop-key : goal.invariant-loop-key
invariant-loop-key g l = record {
  idle : g.T.Transport.elapsed_periods l.transport ≡ g.T.Transport.elapsed_periods l.initial.transport;
  waits : (g.T.Transport.asked l.transport).waits ≡ (g.T.Transport.asked l.initial.transport).waits;
  accepts : (g.T.Transport.asked l.transport).accepts ≡ (g.T.Transport.asked l.initial.transport).accepts;
  out : AreTakenOut l.initial.self.contacts l.initial.self.open l.self.contacts l.self.open l.key;
  long : length l.self.contacts.connections ≡ length l.initial.self.contacts.connections;
  gone : NoneStale l.self.contacts l.key;
  went : (n : ℕ) × LetGoStale n l.initial.self.contacts l.self.contacts;
}
