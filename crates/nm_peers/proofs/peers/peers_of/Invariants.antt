use Rattle.std.proofs.Common.{◌≡◌, map, take}
use Rattle.std.specs.List.{filter}
use Rattle.nm_peers.specs.Peers.{is_called, is_caller, listener_name, socket_of}
use Rattle.nm_peers.proofs.peers.peers_of.Given as goal

-- of the listeners before this one
abbrev pub invariant-loop-listener : goal.invariant-loop-listener
invariant-loop-listener l =
    (l.partitions.items ≡ map (λ a. a.partition) (filter (is_called l.topology l.partition) (take l.listener-index l.listeners)))
    × (l.addresses.items ≡ map socket_of (filter (is_called l.topology l.partition) (take l.listener-index l.listeners)))
    × (l.callers.items ≡ map listener_name (filter (is_caller l.topology l.partition) (take l.listener-index l.listeners)))
