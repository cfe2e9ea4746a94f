use Rattle.std.proofs.Common.{◌≡◌, take}
use Rattle.std.specs.Arc.{arc_value}
use Rattle.nm_replica.specs.Sessions.{first_sessions}
use Rattle.nm_replica.proofs.sessions.Sessions.new.Given as goal

abbrev pub invariant-loop-peer : goal.invariant-loop-peer
invariant-loop-peer l = l.all.items ≡ first_sessions (arc_value l.neighbours.topology.now) l.neighbours.partition l.neighbours.replica (take l.peer-index l.neighbours.peers.now)
