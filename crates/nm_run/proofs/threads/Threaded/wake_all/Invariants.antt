use Rattle.std.proofs.Common.{◌≡◌, ◌≤◌, length}
use Rattle.nm_run.proofs.threads.Threaded.wake_all.Given as goal

abbrev pub invariant-loop-number : goal.invariant-loop-number
invariant-loop-number g l = record {
  within : l.number ≤ length l.self.stations.now;
  count : l.first.count ≡ l.number;
}
