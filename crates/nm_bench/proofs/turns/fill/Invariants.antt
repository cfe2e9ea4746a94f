use Rattle.std.proofs.Common.{◌≡◌, ◌+◌, ◌≤◌, None}
use Rattle.std.specs.FinMap.{get}
use Rattle.nm_base.specs.declared.key.Key.{Key}
use Rattle.nm_bench.proofs.turns.fill.Given as goal

abbrev pub invariant-loop-number : goal.invariant-loop-number
invariant-loop-number g l = record {
  room : l.count + 1 ≤ l.number + g.L.EventList.room l.list;
  fresh : (q : Key) → l.number ≤ q.number → get (g.L.EventList.pending l.list) q ≡ None;
  random : l.random ≤ 1048575;
}
