use Rattle.std.proofs.Common.{◌≡◌, ◌≤◌, ◌++◌, ℕ, length}
use Rattle.nm_measure.specs.Measured.{HasRecent, IsMeasuredBefore}
use Rattle.nm_series.specs.Flows.{AreFlowTotals, flow_rows}
use Rattle.nm_series.proofs.flow_rows.push_rows.Given as goal

abbrev pub invariant-loop-number : goal.invariant-loop-number
invariant-loop-number l = record {
  within : l.number ≤ length l.topology.sources;
  rows : (first until : ℕ) → HasRecent l.topology first l.measured → (m : IsMeasuredBefore l.topology until l.measured) → AreFlowTotals l.topology first l.before
      → AreFlowTotals l.topology m.events l.after → l.text.items ≡ l.initial.text.items ++ flow_rows l.topology l.from first m.events l.number;
}
