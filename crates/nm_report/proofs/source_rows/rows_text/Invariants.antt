use Rattle.std.proofs.Common.{◌≤◌, ℕ, length}
use Rattle.nm_measure.specs.Lines.{EndsLine}
use Rattle.nm_measure.specs.Measured.{IsMeasuredBefore}
use Rattle.nm_report.specs.Sources.{AreRows}
use Rattle.nm_report.proofs.source_rows.rows_text.Given as goal

abbrev pub invariant-loop-number : goal.invariant-loop-number
invariant-loop-number l = record {
  within : l.number ≤ length l.topology.sources;
  rows : (until : ℕ) (m : IsMeasuredBefore l.topology until l.measured) → AreRows l.topology m.events l.number l.text.items;
  ends : EndsLine l.text.items;
}
