use Rattle.std.proofs.Common.{◌≡◌, take, map}
use Rattle.nm_frames.specs.Session.{new_outgoing}
use Rattle.nm_frames.proofs.side.new_outgoing.Given as goal

abbrev pub invariant-loop-channel : goal.invariant-loop-channel
invariant-loop-channel l = l.outgoing.items ≡ map new_outgoing (take l.channel-index l.channels)
