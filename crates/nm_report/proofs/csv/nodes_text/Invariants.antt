use Rattle.std.proofs.Common.{◌≡◌, ◌≤◌, ◌++◌, ℕ, length, take}
use Rattle.nm_measure.specs.Lines.{EndsLine}
use Rattle.nm_measure.specs.Measured.{IsMeasuredBefore}
use Rattle.nm_report.specs.Values.{all_counts, head}
use Rattle.nm_report.proofs.csv.nodes_text.Given as goal

abbrev pub invariant-loop-number : goal.invariant-loop-number
invariant-loop-number l = record {
  within : l.number ≤ length l.topology.nodes;
  values : (until : ℕ) (m : IsMeasuredBefore l.topology until l.measured) → l.text.items ≡ head ++ all_counts l.topology m.events 0 (take l.number l.topology.nodes);
  ends : EndsLine l.text.items;
}
