-- The network of nm_model that an accepted topology describes.
use Rattle.std.specs.Prelude.{◌≡◌, ℕ, ◌<◌, ◌==◌, Bool, true, if◌then◌else◌, List, map, length, Option, Some, None, slice_get, slice_index_or as get_or, slice_index}
use Rattle.nm_base.specs.declared.key.Place.{Place}
use Rattle.nm_model.specs.Network.{Net, node_of}
use Rattle.nm_topology.specs.declared.parts.Far.{Far}
use Rattle.nm_topology.specs.PartValues.{IfaceValue}
use Rattle.nm_topology.specs.Accepted.{owners_of, parts_of}
use Rattle.nm_topology.specs.TopologyValue.{TopologyValue}
use Rattle.nm_forward.specs.State.{NodeStateValue, first_state}
use Rattle.nm_forward.specs.Reaction.{reaction}
use Rattle.nm_iface.specs.PortValue.{QueueLimit, has_room, takes}
use Rattle.nm_iface.specs.Transmission.{transmission_time}
use Rattle.nm_traffic.specs.Source.{source_at}

-- an interface that isn't there is linked to itself
abbrev pub far_from : ℕ → Option IfaceValue → Far
far_from i None = record { iface = i; rate = 1; delay = 0 }
far_from i (Some x) = x.far

abbrev pub far_of : TopologyValue → ℕ → Far
far_of t i = far_from i (slice_get t.ifaces i)

-- how much may wait: packets, and octets if these are limited too
abbrev pub queue_from : Option IfaceValue → QueueLimit
queue_from None = record { packets = 0; octets = None }
queue_from (Some x) = record { packets = x.queue; octets = x.queue_octets }

abbrev pub queue_of : TopologyValue → ℕ → QueueLimit
queue_of t i = queue_from (slice_get t.ifaces i)

-- Times are in nanoseconds. A node that isn't there is in no partition.
unfoldable pub net_of : TopologyValue → Net (List ℕ) NodeStateValue
net_of t = record {
  stop = t.stop;
  ifaces = length t.ifaces;
  parts = t.partitions;
  sources = length t.sources;
  owner = λ i. slice_index (owners_of t.ifaces) i;
  far_end = λ i. (far_of t i).iface;
  delay = λ i. (far_of t i).delay;
  tx = λ i x. takes (far_of t i).rate x;
  least_tx = λ i. transmission_time (far_of t i).rate 1;
  room = λ i waiting x. has_room (queue_of t i) waiting x;
  part = λ v. get_or (parts_of t.nodes) v t.partitions;
  first = first_state t;
  react = reaction t;
  source_node = λ j. slice_index (map (λ s. s.node) t.sources) j;
  source = source_at t;
}

-- What is here: all of the network, or what is of the nodes of one partition.
abbrev pub is_node_here : TopologyValue → Option ℕ → ℕ → Bool
is_node_here t None v = true
is_node_here t (Some p) v = (net_of t).part v == p

abbrev pub here_of : TopologyValue → Option ℕ → Place → Bool
here_of t part q = is_node_here t part (node_of (net_of t) q)

abbrev pub is_iface_here : TopologyValue → Option ℕ → ℕ → Bool
is_iface_here t part i = is_node_here t part ((net_of t).owner i)

abbrev pub is_source_here : TopologyValue → Option ℕ → ℕ → Bool
is_source_here t part j = is_node_here t part ((net_of t).source_node j)

abbrev pub IsIfaceHere : TopologyValue → Option ℕ → ℕ → Type 0
IsIfaceHere t part i = (i < length t.ifaces) × (is_iface_here t part i ≡ true)

-- a source's first packet, if it is here
abbrev pub first_here : TopologyValue → Option ℕ → ℕ → Option (ℕ × List ℕ)
first_here t part j = if is_source_here t part j then source_at t j 0 else None
