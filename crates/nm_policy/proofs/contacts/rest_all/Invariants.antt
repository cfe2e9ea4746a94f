use Rattle.std.proofs.Common.{◌≡◌, ◌++◌, take, drop, map}
use Rattle.nm_policy.specs.Peers.{rested}
use Rattle.nm_policy.proofs.contacts.rest_all.Given as goal

abbrev pub invariant-loop-peer : goal.invariant-loop-peer
invariant-loop-peer l = l.peers ≡ map (rested l.ran_out) (take l.peer-index l.initial.peers) ++ drop l.peer-index l.initial.peers
