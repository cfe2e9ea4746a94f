use Rattle.std.proofs.Common.{◌-◌, ◌≤◌, length, take}
use Rattle.nm_base.specs.Sink.{HasNotFailed, HasTaken}
use Rattle.nm_base.proofs.sink.write_counted.Given as goal

abbrev pub invariant-loop-taken : goal.invariant-loop-taken
invariant-loop-taken g l = record {
  within : l.taken ≤ length l.octets;
  front : HasTaken (g.S.Sink.seen l.initial.sink) (g.S.Sink.seen l.sink) (take l.taken l.octets);
  no_fault : HasNotFailed (g.S.Sink.seen l.initial.sink) (g.S.Sink.seen l.sink);
}

abbrev pub decreases-loop-taken : goal.decreases-loop-taken
decreases-loop-taken g l = length l.octets - l.taken
