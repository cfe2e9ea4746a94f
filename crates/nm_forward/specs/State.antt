-- A node: what the topology says of it, and what it counts.
use Rattle.std.specs.Prelude.{ℕ, ◌+◌, ◌%◌, ◌==◌, ◌≡◌, ◌<◌, nat_eq, List, [], length, map, filter, slice_index, Option, Some, None, Bool, slice_get}
use Rattle.std.specs.List.{list_any}
use Rattle.nm_topology.specs.declared.node.NodeKind.{NodeKind}
use Rattle.nm_topology.specs.declared.node.NodeKind.TheVariants.{Host}
use Rattle.nm_topology.specs.declared.parts.Route.{Route}
use Rattle.nm_topology.specs.PartValues.{NodeValue, IfaceValue}
use Rattle.nm_topology.specs.TopologyValue.{TopologyValue}
use Rattle.nm_topology.specs.Accepted.{owners_of}
use Rattle.nm_forward.specs.declared.counter.Counter.{Counter}
use Rattle.nm_forward.specs.declared.counter.Counter.TheVariants.{Originated}
use Rattle.nm_forward.specs.Counter.{raised, no_counts}

-- what stays as it is: the node's number, and all that the topology says of it
pub record NodeConfiguration : Type 0 where
  pub node : ℕ
  pub kind : NodeKind
  pub ports : List ℕ
  pub routes : List Route
  pub addresses : List ℕ

-- what changes: the next identification, and the counts in the order of the counters' numbers
pub record NodeStateValue : Type 0 where
  pub table : NodeConfiguration
  pub identification : ℕ
  pub counters : List ℕ

-- the addresses of the interfaces of node v
abbrev pub addresses_at : ℕ → List IfaceValue → List ℕ
addresses_at v ifaces = map (λ i. i.address) (filter (λ i. i.node == v) ifaces)

-- a node that isn't there is a host that knows nothing
abbrev pub table_from : ℕ → List IfaceValue → Option NodeValue → NodeConfiguration
table_from v ifaces None = record { node = v; kind = Host; ports = []; routes = []; addresses = [] }
table_from v ifaces (Some n) = record {
  node = v;
  kind = n.kind;
  ports = n.ports;
  routes = n.routes;
  addresses = addresses_at v ifaces;
}

-- what the topology says of node v
unfoldable pub table_of : TopologyValue → ℕ → NodeConfiguration
table_of t v = table_from v t.ifaces (slice_get t.nodes v)

-- what the node knows of itself is what the topology says of it
abbrev pub Knows : TopologyValue → NodeStateValue → Type 0
Knows t n = n.table ≡ table_of t n.table.node

-- node v at the start of a run
abbrev pub first_state : TopologyValue → ℕ → NodeStateValue
first_state t v = record { table = table_of t v; identification = 0; counters = no_counts }

-- whether the address is one of the node's own
abbrev pub is_own : NodeConfiguration → ℕ → Bool
is_own table address = list_any (nat_eq address) table.addresses

-- whether something listens at the UDP port
abbrev pub listens : NodeConfiguration → ℕ → Bool
listens table port = list_any (nat_eq port) table.ports

-- the interface is there, and is one of node v
abbrev pub IsIfaceOf : List IfaceValue → ℕ → ℕ → Type 0
IsIfaceOf ifaces v via = (via < length ifaces) × (slice_index (owners_of ifaces) via ≡ v)

-- the state with one counter raised
abbrev pub state_counted : Counter → NodeStateValue → NodeStateValue
state_counted c n = record n { counters = raised c n.counters }

-- the state after a packet was originated: the identification rises by one modulo 65,536
abbrev pub after_originating : NodeStateValue → NodeStateValue
after_originating n = record n {
  identification = (n.identification + 1) % 65536;
  counters = raised Originated n.counters;
}
