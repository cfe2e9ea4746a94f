use Rattle.std.proofs.Common.{◌≡◌, ◌≤◌, length}
use Rattle.nm_measure.specs.Starts.{IsRecent}
use Rattle.nm_measure.proofs.Lists.{AreTurned}
use Rattle.nm_measure.proofs.flows.Flows.begin_recent.Given as goal

abbrev pub invariant-loop-number : goal.invariant-loop-number
invariant-loop-number l = record {
  within : l.number ≤ length l.fn.self.times.items;
  counts : l.self.counts ≡ l.fn.self.counts;
  count : length l.self.times.items ≡ length l.fn.self.times.items;
  each : AreTurned IsRecent l.fn.self.times.items l.self.times.items l.number;
}
