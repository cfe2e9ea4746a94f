use Rattle.std.proofs.Common.{All, take}
use Rattle.nm_replica.specs.Seats.{AreKept, StandsOnBoard}
use Rattle.nm_replica.proofs.telling.tell_all.Given as goal

abbrev pub invariant-loop-number : goal.invariant-loop-number
invariant-loop-number g l = record {
  kept : AreKept l.fn.own l.own;
  told : All (StandsOnBoard g.C.Counts.exact g.C.Counts.home) (take l.number l.own.seats.items);
}
