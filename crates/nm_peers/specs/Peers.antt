-- The peers of a replica.
use Rattle.std.specs.Prelude.{◌≡◌, ℕ, ◌&&◌, Bool, nat_lt, List, length, map, Option}
use Rattle.std.specs.List.{filter, find}
use Rattle.std.specs.Option.{option_map}
use Rattle.std.specs.declared.net.socket_addr.SocketAddr.{SocketAddr}
use Rattle.std.specs.declared.net.socket_addr.SocketAddr.TheVariants.{V4}
use Rattle.nm_topology.specs.TopologyValue.{TopologyValue}
use Rattle.nm_frames.specs.Channels.{channels_between}
use Rattle.nm_frames.specs.declared.replica_name.ReplicaName.{ReplicaName}
use Rattle.nm_peers.specs.Listeners.{is_listener_of}
use Rattle.nm_peers.specs.declared.listener.Listener.{Listener}
use Rattle.nm_peers.specs.declared.peers.Peers.{Peers}

-- whether a channel goes from one partition to the other
abbrev pub is_near : TopologyValue → ℕ → ℕ → Bool
is_near t p q = nat_lt 0 (length (channels_between t p q))

-- whether a replica of partition p calls the listener, or is called by its replica: if two
-- partitions share a channel, each replica of the lesser calls each of the greater
abbrev pub is_called : TopologyValue → ℕ → Listener → Bool
is_called t p a = nat_lt p a.partition && is_near t p a.partition

abbrev pub is_caller : TopologyValue → ℕ → Listener → Bool
is_caller t p a = nat_lt a.partition p && is_near t p a.partition

abbrev pub socket_of : Listener → SocketAddr
socket_of a = V4 a.address

abbrev pub listener_name : Listener → ReplicaName
listener_name a = record { partition = a.partition; replica = a.replica }

-- the peers that a replica of partition p calls, and those that call it, in the order of listeners
pub record ArePeers (t : TopologyValue) (p : ℕ) (listeners : List Listener)
    (peers : Peers) : Type 0 where
  pub partitions : peers.partitions.items
      ≡ map (λ a. a.partition) (filter (is_called t p) listeners)
  pub addresses : peers.addresses.items ≡ map socket_of (filter (is_called t p) listeners)
  pub callers : peers.callers.items ≡ map listener_name (filter (is_caller t p) listeners)

-- the address of the first of these listeners that is of this replica
abbrev pub own_address : List Listener → ℕ → ℕ → Option SocketAddr
own_address listeners partition replica =
    option_map socket_of (find (is_listener_of partition replica) listeners)
