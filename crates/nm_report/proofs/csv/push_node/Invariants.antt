use Rattle.std.proofs.Common.{◌≡◌, ◌++◌, ◌<◌, ◌≤◌, ℕ, length, take}
use Rattle.nm_topology.specs.TopologyValue.{TopologyValue}
use Rattle.nm_measure.specs.Lines.{EndsLine}
use Rattle.nm_measure.specs.Measured.{IsMeasuredBefore}
use Rattle.nm_report.specs.Values.{node_counts}
use Rattle.nm_report.proofs.csv.push_node.Given as goal

abbrev pub invariant-loop-place : goal.invariant-loop-place
invariant-loop-place l = record {
  within : l.place ≤ length l.counters;
  counts : (t : TopologyValue) (until : ℕ) (m : IsMeasuredBefore t until l.measured) → l.node < length t.nodes
      → l.text.items ≡ l.initial.text.items ++ node_counts t m.events l.node l.name (take l.place l.counters);
  ends : EndsLine l.text.items;
}
