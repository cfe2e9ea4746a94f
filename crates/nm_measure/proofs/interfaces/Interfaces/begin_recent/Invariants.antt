use Rattle.std.proofs.Common.{◌≡◌, ◌≤◌, length}
use Rattle.nm_measure.proofs.Lists.{AreTurned}
use Rattle.nm_measure.proofs.Watching.{IsBegun}
use Rattle.nm_measure.proofs.interfaces.Interfaces.begin_recent.Given as goal

abbrev pub invariant-loop-number : goal.invariant-loop-number
invariant-loop-number l = record {
  within : l.number ≤ length l.fn.self.all.items;
  count : length l.self.all.items ≡ length l.fn.self.all.items;
  each : AreTurned IsBegun l.fn.self.all.items l.self.all.items l.number;
}
