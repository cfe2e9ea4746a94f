use Rattle.nm_shared.specs.Board.{IsSeatOf}
use Rattle.nm_run.specs.Watching.{AreOwns, names_of, owns_of}
use Rattle.nm_run.proofs.dispatching.dispatch.Given as goal

abbrev pub invariant-loop : goal.invariant-loop
invariant-loop g l = record {
  seat : IsSeatOf l.threaded.board.now l.dispatcher.seat;
  owns : AreOwns (names_of l.threaded) (owns_of l.dispatcher.watched.items);
}
