-- The wiring: the routes of each node, the far end of each interface, the receivers of channels,
-- the partitions.
use Rattle.nm_topology.specs.Parse.DocumentValue.{DocumentValue}
use Rattle.nm_topology.specs.PartValues.{NodeValue, IfaceValue}
use Rattle.nm_topology.specs.Parse.TableValues.{IfaceTableValue, NodeTableValue}
use Rattle.nm_topology.specs.declared.parts.Far.{Far}
use Rattle.nm_topology.specs.declared.parts.Link.{Link}
use Rattle.nm_topology.specs.declared.parts.PlacedRoute.{PlacedRoute}
use Rattle.nm_topology.specs.declared.parts.Route.{Route}
use Rattle.std.specs.Prelude.{ℕ, Bool, ◌==◌, if◌then◌else◌, List, [], ◌∷◌, slice_index, zero, suc}
use Rattle.std.specs.Prelude.{◌+◌, not, map, slice_index_or as get_or, set, max, length, filter}
use Rattle.nm_topology.specs.ResolvedValue.{ResolvedValue}
use Rattle.nm_topology.specs.TopologyValue.{TopologyValue}

-- 0 to n - 1
abbrev pub numbers_from : ℕ → ℕ → List ℕ
numbers_from i zero = []
numbers_from i (suc n) = i ∷ numbers_from (suc i) n

-- the routes of the node j
abbrev pub routes_at : ℕ → List PlacedRoute → List Route
routes_at j [] = []
routes_at j (r ∷ rs) = if r.node == j then r.route ∷ routes_at j rs else routes_at j rs

-- the far end of interface i
abbrev pub far_by_links : ℕ → List Link → Far
far_by_links i [] = record { iface = i; rate = 0; delay = 0 }
far_by_links i (l ∷ ls) =
    if l.a == i then record { iface = l.b; rate = l.rate; delay = l.delay }
    else (if l.b == i then record { iface = l.a; rate = l.rate; delay = l.delay }
    else far_by_links i ls)

-- the far ends with those of one link set
abbrev pub joined : List Far → Link → List Far
joined far l =
    set (set far l.b (record { iface = l.a; rate = l.rate; delay = l.delay })) l.a
    (record { iface = l.b; rate = l.rate; delay = l.delay })

-- the partition of an interface, by the partitions of nodes and the owners of interfaces
abbrev pub part_of : List ℕ → List ℕ → ℕ → ℕ
part_of parts owners i = slice_index parts (slice_index owners i)

-- the far end of each of n interfaces, and the routes of each of n nodes
abbrev pub far_ends : ℕ → List Link → List Far
far_ends n links = map (λ i. far_by_links i links) (numbers_from 0 n)

abbrev pub routes_of_nodes : ℕ → List PlacedRoute → List (List Route)
routes_of_nodes n routes = map (λ j. routes_at j routes) (numbers_from 0 n)

-- the interface to which interface i is linked
abbrev pub far_end_at : List Far → ℕ → ℕ
far_end_at far i = (get_or far i (far_by_links i [])).iface

-- whether the interface, of those with these far ends, receives a channel
abbrev pub is_receiver : List ℕ → List ℕ → List Far → ℕ → Bool
is_receiver parts owners far i =
    not (part_of parts owners i == part_of parts owners (far_end_at far i))

-- the greatest partition plus one
abbrev pub partition_count : List ℕ → ℕ
partition_count [] = 0
partition_count (p ∷ ps) = max (p + 1) (partition_count ps)

abbrev pub placed_nodes : List NodeTableValue → List (List Route) → List NodeValue
placed_nodes [] node_routes = []
placed_nodes (n ∷ ns) [] = []
placed_nodes (n ∷ ns) (t ∷ ts) =
    record { name = n.name; kind = n.kind; partition = n.partition; ports = n.ports; routes = t }
    ∷ placed_nodes ns ts

abbrev pub placed_ifaces : List IfaceTableValue → List ℕ → List Far → List IfaceValue
placed_ifaces [] owners far = []
placed_ifaces (i ∷ is) [] far = []
placed_ifaces (i ∷ is) (o ∷ os) [] = []
placed_ifaces (i ∷ is) (o ∷ os) (f ∷ fs) =
    record {
      name = i.name;
      node = o;
      address = i.address;
      queue = i.queue;
      queue_octets = i.queue_octets;
      far = f;
    }
    ∷ placed_ifaces is os fs

-- the interfaces that receive a channel: channel n comes in at the n-th of them
abbrev pub receivers_of : List ℕ → List ℕ → List Far → List ℕ
receivers_of parts owners far = filter (is_receiver parts owners far) (numbers_from 0 (length far))

-- a document and its numbers, as a network
abbrev pub put_together : List ℕ → DocumentValue → ResolvedValue → TopologyValue
put_together digest d t = record {
  stop = d.stop;
  mtu = d.mtu;
  nodes = placed_nodes d.nodes (routes_of_nodes (length d.nodes) t.routes);
  ifaces = placed_ifaces d.ifaces t.owners (far_ends (length d.ifaces) t.links);
  links = t.links;
  sources = t.sources;
  receivers =
      receivers_of (map (λ n. n.partition) d.nodes) t.owners (far_ends (length d.ifaces) t.links);
  partitions = partition_count (map (λ n. n.partition) d.nodes);
  digest = digest;
}
