use Rattle.std.proofs.Common.{◌≡◌, drop}
use Rattle.nm_frames.specs.Owed.{message_owed}
use Rattle.nm_frames.specs.Version.{promising}
use Rattle.nm_frames.proofs.owed.next_message.Given as goal

abbrev pub invariant-loop-side : goal.invariant-loop-side
invariant-loop-side l = message_owed l.book (promising l.version) (drop l.side-index l.outgoing) ≡ message_owed l.book (promising l.version) l.outgoing
