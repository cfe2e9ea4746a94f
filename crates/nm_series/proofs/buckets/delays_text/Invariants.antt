use Rattle.std.proofs.Common.{◌≤◌, ℕ, length}
use Rattle.nm_measure.specs.Lines.{EndsLine}
use Rattle.nm_measure.specs.Measured.{IsMeasuredBefore}
use Rattle.nm_series.specs.Buckets.{AreDelayRows}
use Rattle.nm_series.proofs.buckets.delays_text.Given as goal

abbrev pub invariant-loop-number : goal.invariant-loop-number
invariant-loop-number l = record {
  within : l.number ≤ length l.topology.sources;
  rows : (until : ℕ) (m : IsMeasuredBefore l.topology until l.measured) → AreDelayRows l.topology m.events l.number l.text.items;
  ends : EndsLine l.text.items;
}
