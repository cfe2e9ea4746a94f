use Rattle.std.proofs.Common.{◌≡◌, ◌≤◌, ℕ, length, slice_get, Some}
use Rattle.nm_run.specs.Report.{IsTotal}
use Rattle.nm_run.specs.declared.report.IfaceTotals.{IfaceTotals}
use Rattle.nm_run.proofs.report.report_of.Given as goal

abbrev pub invariant-loop-number : goal.invariant-loop-number
invariant-loop-number l = record {
  within : l.number ≤ length l.topology.ifaces;
  count : length l.totals.items ≡ l.number;
  each : (i : ℕ) (x : IfaceTotals) → slice_get l.totals.items i ≡ Some x → IsTotal l.topology i x;
}
