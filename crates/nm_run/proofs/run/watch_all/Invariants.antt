use Rattle.std.proofs.Common.{◌≡◌, ◌≤◌, length, vec_len}
use Rattle.nm_run.specs.Watching.{AreOwns, names_of, owns_of}
use Rattle.nm_run.proofs.run.watch_all.Given as goal

abbrev pub invariant-loop-number : goal.invariant-loop-number
invariant-loop-number g l = record {
  within : l.number ≤ length l.threaded.books.now;
  count : vec_len l.watched ≡ l.number;
  owns : AreOwns (names_of l.threaded) (owns_of l.watched.items);
}
