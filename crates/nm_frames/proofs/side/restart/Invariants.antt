use Rattle.std.proofs.Common.{◌≡◌, ◌++◌, take, drop, map}
use Rattle.nm_frames.specs.Session.{restarted, with_channel}
use Rattle.nm_frames.proofs.side.restart.Given as goal

abbrev pub invariant-loop-side : goal.invariant-loop-side
invariant-loop-side l = l.outgoing ≡ map (with_channel l.channel (restarted l.count)) (take l.side-index l.initial.outgoing) ++ drop l.side-index l.initial.outgoing
