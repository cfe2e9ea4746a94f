use Rattle.std.proofs.Common.{length}
use Rattle.nm_peers.proofs.Lines.{IsReadTo}
use Rattle.nm_peers.proofs.read.read_listeners.Given as goal

abbrev pub invariant-loop-line : goal.invariant-loop-line
invariant-loop-line l = IsReadTo l.partitions l.text l.rest l.listeners.items

abbrev pub decreases-loop-line : goal.decreases-loop-line
decreases-loop-line l = length l.rest
