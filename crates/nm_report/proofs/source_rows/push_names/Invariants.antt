use Rattle.std.proofs.Common.{◌≡◌, ◌≤◌, ◌++◌, take}
use Rattle.nm_report.specs.Sources.{measure_names, name_cells}
use Rattle.nm_report.proofs.source_rows.push_names.Given as goal

abbrev pub invariant-loop-place : goal.invariant-loop-place
invariant-loop-place l = record {
  within : l.place ≤ 28;
  names : l.text.items ≡ l.initial.text.items ++ name_cells (take l.place measure_names);
}
