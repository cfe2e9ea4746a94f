use Rattle.std.proofs.Common.{◌≡◌, ℕ, length}
use Rattle.nm_replica.specs.Connections.{CallsSome}
use Rattle.nm_replica.proofs.Hands.{NoneWanted}
use Rattle.nm_replica.proofs.connections.Connections.dial_all.Given as goal

abbrev pub invariant-loop-peer : goal.invariant-loop-peer
invariant-loop-peer g l = record {
  idle : g.T.Transport.elapsed_periods l.transport ≡ g.T.Transport.elapsed_periods l.initial.transport;
  waits : (g.T.Transport.asked l.transport).waits ≡ (g.T.Transport.asked l.initial.transport).waits;
  accepts : (g.T.Transport.asked l.transport).accepts ≡ (g.T.Transport.asked l.initial.transport).accepts;
  many : length l.self.contacts.peers ≡ length l.initial.self.contacts.peers;
  none : NoneWanted l.self.contacts l.peer;
  calls : (n : ℕ) × CallsSome n l.initial.self.contacts l.self.contacts;
}
