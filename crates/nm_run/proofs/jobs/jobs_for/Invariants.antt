use Rattle.std.proofs.Common.{◌≡◌, ◌<◌, ℕ, All, Some, length}
use Rattle.std.specs.Prelude.{slice_get}
use Rattle.nm_run.specs.Watching.{WasLookedAt, owns_of}
use Rattle.nm_run.specs.declared.jobs.Watched.{Watched}
use Rattle.nm_shared.specs.Board.{IsSeatOf}
use Rattle.nm_run.proofs.jobs.jobs_for.Given as goal

abbrev pub invariant-loop-number : goal.invariant-loop-number
invariant-loop-number g l = record {
  seat : IsSeatOf l.threaded.board.now l.seat;
  named : All (λ j. j.book < length l.threaded.books.now) l.jobs.items;
  watched : All (λ j. j.book < length l.fn.watched.items) l.jobs.items;
  owns : owns_of l.watched.items ≡ owns_of l.fn.watched.items;
  long : length l.watched.items ≡ length l.fn.watched.items;
  looked : (k : ℕ) (w : Watched) → k < l.number → slice_get l.watched.items k ≡ Some w → WasLookedAt w;
}
