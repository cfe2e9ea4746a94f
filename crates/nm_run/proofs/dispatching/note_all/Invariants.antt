use Rattle.std.proofs.Common.{◌≡◌, ◌≤◌, length, take}
use Rattle.nm_base.specs.Count.{saturated}
use Rattle.std.specs.List.{sum_by}
use Rattle.nm_shared.specs.Known.{ran}
use Rattle.nm_run.specs.Watching.{owns_of}
use Rattle.nm_run.proofs.dispatching.note_all.Given as goal

abbrev pub invariant-loop-number : goal.invariant-loop-number
invariant-loop-number g l = record {
  within : l.number ≤ length l.jobs;
  seat : l.dispatcher.seat ≡ l.fn.dispatcher.seat;
  passes : l.dispatcher.passes ≡ l.fn.dispatcher.passes;
  many : length l.dispatcher.watched.items ≡ length l.fn.dispatcher.watched.items;
  events : l.events ≡ saturated (sum_by ran (take l.number l.answers));
  owns : owns_of l.dispatcher.watched.items ≡ owns_of l.fn.dispatcher.watched.items;
}
