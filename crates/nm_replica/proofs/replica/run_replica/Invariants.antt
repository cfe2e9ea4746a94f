use Rattle.std.proofs.Common.{◌≡◌, ◌≤◌, ◌+◌, length}
use Rattle.nm_replica.specs.Recording.{Streams}
use Rattle.nm_replica.specs.Seats.{AreKept}
use Rattle.nm_replica.proofs.replica.run_replica.Given as goal

abbrev pub invariant-loop-made : goal.invariant-loop-made
invariant-loop-made g l = record {
  seats : AreKept l.fn.holdings.seats l.holdings.seats;
  passes : length l.holdings.passes.items ≡ length l.fn.holdings.passes.items;
  idle : g.T.Transport.elapsed_periods l.fn.transport + l.running.idle ≤ g.T.Transport.elapsed_periods l.transport;
  polls : l.running.polls ≡ l._made;
  waits : (g.T.Transport.asked l.transport).waits ≡ (g.T.Transport.asked l.fn.transport).waits + l._made;
  streams : Streams g.S.Sink.seen g.C.Counts.exact g.C.Counts.home l.fn.holdings.files.files.items l.holdings.files.files.items;
}
