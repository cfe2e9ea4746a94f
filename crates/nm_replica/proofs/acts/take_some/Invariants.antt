use Rattle.std.proofs.Common.{◌≡◌, ◌≤◌, length}
use Rattle.nm_replica.specs.Recording.{TakesOut}
use Rattle.nm_replica.specs.declared.limits.TheConstants.{MAX_HANDED}
use Rattle.nm_replica.proofs.acts.take_some.Given as goal

abbrev pub invariant-loop-taken : goal.invariant-loop-taken
invariant-loop-taken l = record {
  within : l.taken ≤ MAX_HANDED;
  many : l.taken ≤ length l.room.items;
  room : l.room.cap ≡ l.initial.room.cap;
  takes : TakesOut l.initial.book l.initial.room.items l.book l.room.items;
}
