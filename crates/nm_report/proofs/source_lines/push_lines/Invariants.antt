use Rattle.std.proofs.Common.{◌≡◌, ◌≤◌, ◌++◌, take}
use Rattle.nm_report.specs.Sources.{measure_names, source_lines}
use Rattle.nm_report.specs.Values.{AreWholeLines}
use Rattle.nm_report.proofs.source_lines.push_lines.Given as goal

abbrev pub invariant-loop-place : goal.invariant-loop-place
invariant-loop-place l = record {
  within : l.place ≤ l.count;
  lines : l.text.items ≡ l.initial.text.items ++ source_lines l.name (take l.place measure_names) l.values;
  whole : AreWholeLines l.text.items;
}
