use Rattle.std.proofs.Common.{◌≡◌, take, map}
use Rattle.nm_frames.specs.Session.{new_incoming}
use Rattle.nm_frames.proofs.side.new_incoming.Given as goal

abbrev pub invariant-loop-channel : goal.invariant-loop-channel
invariant-loop-channel l = l.incoming.items ≡ map new_incoming (take l.channel-index l.channels)
