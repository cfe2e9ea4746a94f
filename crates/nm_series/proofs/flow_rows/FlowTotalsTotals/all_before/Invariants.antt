use Rattle.std.proofs.Common.{◌≡◌, ◌≤◌, ℕ, length, Some, slice_get}
use Rattle.nm_base.specs.Count.{saturated}
use Rattle.nm_sim.specs.Network.{net_of}
use Rattle.nm_measure.specs.Counted.{HasTotals}
use Rattle.nm_measure.specs.Measured.{IsMeasuredBefore}
use Rattle.nm_measure.specs.Sent.{sent_in}
use Rattle.nm_measure.specs.Ways.{ends_in}
use Rattle.nm_measure.specs.declared.totals.FlowTotals.{FlowTotals}
use Rattle.nm_series.proofs.flow_rows.FlowTotalsTotals.all_before.Given as goal

abbrev pub invariant-loop-number : goal.invariant-loop-number
invariant-loop-number l = record {
  within : l.number ≤ length l.topology.sources;
  count : length l.all.items ≡ l.number;
  each : (m : IsMeasuredBefore l.topology l.fn._time l.measured) (i : ℕ) (x : FlowTotals) → slice_get l.all.items i ≡ Some x
      → (x.sent ≡ saturated (sent_in (net_of l.topology) i m.events)) × HasTotals i (ends_in l.topology m.events) x;
}
