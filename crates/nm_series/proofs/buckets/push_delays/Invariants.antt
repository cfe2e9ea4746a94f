use Rattle.std.proofs.Common.{◌≡◌, ◌≤◌, ◌++◌, length, take}
use Rattle.nm_measure.specs.Lines.{EndsLine}
use Rattle.nm_series.specs.Buckets.{bucket_rows}
use Rattle.nm_series.proofs.buckets.push_delays.Given as goal

abbrev pub invariant-loop-place : goal.invariant-loop-place
invariant-loop-place l = record {
  within : l.place ≤ length l.delays.spread.rows.items;
  rows : l.text.items ≡ l.initial.text.items ++ bucket_rows l.source l.delays.spread.is_rounded (take l.place l.delays.spread.rows.items);
  ends : EndsLine l.text.items;
}
