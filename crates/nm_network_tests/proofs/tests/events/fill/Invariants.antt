use Rattle.std.proofs.Common.{◌≡◌, ◌+◌, ◌≤◌, ◌<◌, ◌^◌, None}
use Rattle.std.specs.FinMap.{get}
use Rattle.nm_base.specs.declared.key.Key.{Key}
use Rattle.nm_network_tests.proofs.tests.events.fill.Given as goal

abbrev pub invariant-loop-number : goal.invariant-loop-number
invariant-loop-number g l = record {
  room : l.count ≤ l.number + g.L.EventList.room l.list;
  fresh : (q : Key) → l.number ≤ q.number → get (g.L.EventList.pending l.list) q ≡ None;
  time : l.time < 2 ^ 20;
}
