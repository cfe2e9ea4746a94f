use Rattle.std.proofs.Common.{◌≡◌, ◌≤◌, ℕ, length, take}
use Rattle.nm_measure.specs.Measured.{IsMeasuredBefore}
use Rattle.nm_report.specs.Values.{AreWholeLines, all_values}
use Rattle.nm_report.proofs.csv.ifaces_text.Given as goal

abbrev pub invariant-loop-number : goal.invariant-loop-number
invariant-loop-number l = record {
  within : l.number ≤ length l.topology.ifaces;
  values : (until : ℕ) (m : IsMeasuredBefore l.topology until l.measured) → l.text.items ≡ all_values l.topology m.events 0 (take l.number l.topology.ifaces);
  ends : AreWholeLines l.text.items;
}
