use Rattle.std.proofs.Common.{◌≡◌, ◌≤◌, length, map, take}
use Rattle.nm_files.specs.Outputs.{AreWhole}
use Rattle.nm_run.proofs.Kept.{firsts}
use Rattle.nm_run.proofs.keeping.keep_books.Given as goal

abbrev pub invariant-loop-number : goal.invariant-loop-number
invariant-loop-number g l = record {
  within : l.number ≤ length l.books;
  so_far : AreWhole (g.F.Outputs.made l.fn.outputs) (map g.F.Outputs.closed l.known.items) (firsts l.plan.folder.now (take l.number l.books));
  same : g.F.Outputs.made l.outputs ≡ g.F.Outputs.made l.fn.outputs;
}
