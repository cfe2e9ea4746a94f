use Rattle.std.proofs.Common.{◌≤◌, length}
use Rattle.nm_run.proofs.Reports.{HaveNone}
use Rattle.nm_run.proofs.report.totals_of.Given as goal

abbrev pub invariant-loop-number : goal.invariant-loop-number
invariant-loop-number l = record {
  within : l.number ≤ length l.books;
  none : HaveNone l.books l.number l.partition;
}
