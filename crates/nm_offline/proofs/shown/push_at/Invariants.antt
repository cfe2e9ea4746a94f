use Rattle.nm_offline.specs.Shown.{ArePacketLines}
use Rattle.nm_offline.proofs.shown.push_at.Given as goal

abbrev pub invariant-loop-record : goal.invariant-loop-record
invariant-loop-record l = ArePacketLines l.text.items
