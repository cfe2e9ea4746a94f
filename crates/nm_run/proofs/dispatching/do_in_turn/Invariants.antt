use Rattle.std.proofs.Common.{◌≡◌, ◌≤◌, length}
use Rattle.nm_run.specs.Watching.{owns_of}
use Rattle.nm_run.proofs.dispatching.do_in_turn.Given as goal

abbrev pub invariant-loop-number : goal.invariant-loop-number
invariant-loop-number g l = record {
  within : l.number ≤ length l.jobs;
  count : l.done.count ≡ l.number;
  many : length l.dispatcher.watched.items ≡ length l.fn.dispatcher.watched.items;
  seat : l.dispatcher.seat ≡ l.fn.dispatcher.seat;
  owns : owns_of l.dispatcher.watched.items ≡ owns_of l.fn.dispatcher.watched.items;
}
