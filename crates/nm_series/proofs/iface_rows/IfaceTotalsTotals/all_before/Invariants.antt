use Rattle.std.proofs.Common.{◌≡◌, ◌≤◌, ℕ, length, Some, slice_get}
use Rattle.nm_model.specs.Run.{one_list}
use Rattle.nm_sim.specs.Network.{net_of}
use Rattle.nm_measure.specs.Measured.{IsMeasuredBefore}
use Rattle.nm_measure.specs.Queues.{in_octets, in_packets}
use Rattle.nm_measure.specs.declared.totals.IfaceTotals.{IfaceTotals}
use Rattle.nm_series.specs.Rows.{busy_by, had, waited_by}
use Rattle.nm_series.proofs.iface_rows.IfaceTotalsTotals.all_before.Given as goal

abbrev pub invariant-loop-number : goal.invariant-loop-number
invariant-loop-number l = record {
  within : l.number ≤ length l.topology.ifaces;
  count : length l.all.items ≡ l.number;
  over_time : (m : IsMeasuredBefore l.topology l.time l.measured) (i : ℕ) (x : IfaceTotals) → slice_get l.all.items i ≡ Some x
      → (x.waited ≡ waited_by in_packets l.topology i l.time m.events) × (x.octets_waited ≡ waited_by in_octets l.topology i l.time m.events) × (x.busy ≡ busy_by l.topology i l.time m.events);
  each : (m : IsMeasuredBefore l.topology l.time l.measured) (i : ℕ) (x : IfaceTotals) → slice_get l.all.items i ≡ Some x
      → (x.traffic ≡ (had i (one_list (net_of l.topology) m.events)).traffic) × (x.dropped ≡ (had i (one_list (net_of l.topology) m.events)).dropped);
}
