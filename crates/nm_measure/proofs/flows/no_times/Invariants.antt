use Rattle.std.proofs.Common.{◌≡◌, ◌≤◌, ℕ, length, [], Some, slice_get}
use Rattle.nm_measure.specs.Counted.{AreArrivals}
use Rattle.nm_measure.specs.Starts.{nothing_begun, start_of}
use Rattle.nm_measure.specs.declared.flow_times.FlowTimes.{FlowTimes}
use Rattle.nm_measure.proofs.flows.no_times.Given as goal

abbrev pub invariant-loop-number : goal.invariant-loop-number
invariant-loop-number l = record {
  within : l._number ≤ l.sources;
  count : length l.times.items ≡ l._number;
  none : AreArrivals [] l.times.items;
  starts : (j : ℕ) (x : FlowTimes) → slice_get l.times.items j ≡ Some x → start_of x ≡ nothing_begun;
}
