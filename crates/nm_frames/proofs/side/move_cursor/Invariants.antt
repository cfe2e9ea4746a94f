use Rattle.std.proofs.Common.{◌≡◌, ◌++◌, take, drop, map}
use Rattle.nm_frames.specs.Owed.{moved_to}
use Rattle.nm_frames.specs.Session.{with_channel}
use Rattle.nm_frames.proofs.side.move_cursor.Given as goal

abbrev pub invariant-loop-side : goal.invariant-loop-side
invariant-loop-side l = l.outgoing ≡ map (with_channel l.channel (moved_to l.number)) (take l.side-index l.initial.outgoing) ++ drop l.side-index l.initial.outgoing
