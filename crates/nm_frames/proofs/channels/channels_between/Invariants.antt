use Rattle.std.proofs.Common.{◌≡◌, ◌≤◌, length}
use Rattle.nm_frames.specs.Channels.{channels_below}
use Rattle.nm_frames.proofs.channels.channels_between.Given as goal

abbrev pub invariant-loop-number : goal.invariant-loop-number
invariant-loop-number l = record {
  within : l.number ≤ length l.topology.receivers;
  so_far : l.channels.items ≡ channels_below l.topology l.from l.to l.number;
}
