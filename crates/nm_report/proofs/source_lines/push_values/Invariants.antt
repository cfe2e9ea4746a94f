use Rattle.std.proofs.Common.{◌≡◌, ◌≤◌, ◌++◌, length, take}
use Rattle.nm_report.specs.Sources.{row_values}
use Rattle.nm_report.proofs.source_lines.push_values.Given as goal

abbrev pub invariant-loop-place : goal.invariant-loop-place
invariant-loop-place l = record {
  within : l.place ≤ length l.values;
  cells : l.text.items ≡ l.initial.text.items ++ row_values (take l.place l.values);
}
