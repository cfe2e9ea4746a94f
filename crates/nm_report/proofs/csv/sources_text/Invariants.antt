use Rattle.std.proofs.Common.{◌≤◌, ℕ, length}
use Rattle.nm_measure.specs.Measured.{IsMeasuredBefore}
use Rattle.nm_report.specs.Sources.{AreSourceLines}
use Rattle.nm_report.specs.Values.{AreWholeLines}
use Rattle.nm_report.proofs.csv.sources_text.Given as goal

abbrev pub invariant-loop-number : goal.invariant-loop-number
invariant-loop-number l = record {
  within : l.number ≤ length l.topology.sources;
  lines : (until : ℕ) (m : IsMeasuredBefore l.topology until l.measured) → AreSourceLines l.topology m.events l.number l.text.items;
  ends : AreWholeLines l.text.items;
}
