use Rattle.std.proofs.Common.{◌≡◌}
use Rattle.nm_replica.specs.Turns.{ServesKeys, links}
use Rattle.nm_replica.proofs.serving.serve_all.Given as goal

abbrev pub invariant-loop-key : goal.invariant-loop-key
invariant-loop-key g l = record {
  idle : g.T.Transport.elapsed_periods l.transport ≡ g.T.Transport.elapsed_periods l.fn.transport;
  waits : (g.T.Transport.asked l.transport).waits ≡ (g.T.Transport.asked l.fn.transport).waits;
  polls : l.serving.polls ≡ l.fn.serving.polls;
  moved : l.serving.moved ≡ l.fn.serving.moved;
  counted : l.serving.counted ≡ l.fn.serving.counted;
  events : l.serving.events ≡ l.fn.serving.events;
  stay : l.serving.stay ≡ l.fn.serving.stay;
  done : l.serving.was_done ≡ l.fn.serving.was_done;
  short : l.serving.short ≡ l.fn.serving.short;
  failed : l.serving.failed_waits ≡ l.fn.serving.failed_waits;
  does : l.talk.does ≡ l.fn.does;
  served : ServesKeys (links g.T.Connection.Wire.seen g.C.Counts.exact g.C.Counts.home) l.fn.does l.key l.fn.serving.connections l.serving.connections l.all;
}
