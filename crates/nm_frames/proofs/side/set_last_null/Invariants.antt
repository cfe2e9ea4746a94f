use Rattle.std.proofs.Common.{◌≡◌, ◌++◌, take, drop, map}
use Rattle.nm_frames.specs.Owed.{with_null}
use Rattle.nm_frames.specs.Session.{with_channel}
use Rattle.nm_frames.proofs.side.set_last_null.Given as goal

abbrev pub invariant-loop-side : goal.invariant-loop-side
invariant-loop-side l = l.outgoing ≡ map (with_channel l.null.channel (with_null l.null)) (take l.side-index l.initial.outgoing) ++ drop l.side-index l.initial.outgoing
