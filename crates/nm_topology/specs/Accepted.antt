-- What every accepted topology has.
use Rattle.std.specs.Prelude.{◌≡◌, ◌≢◌, ◌↔◌, ℕ, ◌<◌, ◌≤◌, All, AllPairs, Contains, Some, false}
use Rattle.std.specs.Prelude.{List, length, map, slice_get, slice_index}
use Rattle.std.specs.List.Sorted.{IsStrictlyIncreasing}
use Rattle.nm_base.specs.declared.limits.TheConstants.{MAX_CHANNELS, MAX_IFACES, MAX_LINKS, MAX_NODES, MAX_PARTITIONS, MAX_ROUTES_OF_NODE, MAX_SOURCES}
use Rattle.nm_topology.specs.declared.parts.Link.{Link}
use Rattle.nm_topology.specs.declared.traffic.Source.{Source}
use Rattle.nm_topology.specs.declared.traffic.Traffic.{Traffic}
use Rattle.nm_topology.specs.declared.traffic.Traffic.TheVariants.{Cbr, Echo, Raw}
use Rattle.nm_topology.specs.Build.{far_by_links, part_of}
use Rattle.nm_topology.specs.Validate.{uses, is_undelayed_cut}
use Rattle.nm_topology.specs.PartValues.{NodeValue, IfaceValue}
use Rattle.nm_topology.specs.Limits.{HasOctets, IsWithinLimits}
use Rattle.nm_topology.specs.TopologyValue.{TopologyValue}

abbrev pub parts_of : List NodeValue → List ℕ
parts_of nodes = map (λ n. n.partition) nodes

abbrev pub owners_of : List IfaceValue → List ℕ
owners_of ifaces = map (λ i. i.node) ifaces

-- the interface x, numbered i
pub record IsLinked (ifaces : List IfaceValue) (links : List Link) (i : ℕ) (x : IfaceValue)
    : Type 0 where
  -- exactly one end of one link
  pub once : uses i links ≡ 1
  -- linked as that link says, to an interface that is there
  pub far : x.far ≡ far_by_links i links
  pub within : x.far.iface < length ifaces
  -- which is another one, and is linked back to it over the same link
  pub apart : x.far.iface ≡ i → ⊥
  pub back : far_by_links x.far.iface links
      ≡ record { iface = i; rate = x.far.rate; delay = x.far.delay }

pub record IsInOrder (nodes : List NodeValue) (ifaces : List IfaceValue) (links : List Link)
    : Type 0 where
  pub linked : (i : ℕ) (x : IfaceValue) → slice_get ifaces i ≡ Some x → IsLinked ifaces links i x
  -- each interface is of a node that is there
  pub owners : All (λ x. x.node < length nodes) ifaces
  -- a node's routes leave by interfaces of its own, and are not too many
  pub vias : (k : ℕ) (n : NodeValue) → slice_get nodes k ≡ Some n
      → All (λ r. (r.via < length ifaces) × (slice_index (owners_of ifaces) r.via ≡ k)) n.routes
  pub few_routes : (k : ℕ) (n : NodeValue) → slice_get nodes k ≡ Some n
      → length n.routes ≤ MAX_ROUTES_OF_NODE
  -- links between partitions delay by something
  pub cuts : All (λ l. is_undelayed_cut (parts_of nodes) (owners_of ifaces) l ≡ false) links

-- raw packets leave by an interface of their node
abbrev pub LeavesByOwn : List ℕ → ℕ → Traffic → Type 0
LeavesByOwn owners node (Cbr c) = Unit {0}
LeavesByOwn owners node (Echo e) = Unit {0}
LeavesByOwn owners node (Raw r) = (r.via < length owners) × (slice_index owners r.via ≡ node)

-- the node of a source is there, of so many, and interfaces with these owners
unfoldable pub IsPlaced : ℕ → List ℕ → Source → Type 0
IsPlaced nodes owners s = (s.node < nodes) × LeavesByOwn owners s.node s.traffic

-- no two nodes have one name, no two interfaces one name or one address, and no two routes of a
-- node one prefix
pub record HasNoDoubles (nodes : List NodeValue) (ifaces : List IfaceValue) : Type 0 where
  pub node_names : AllPairs (λ m n. m.name ≢ n.name) nodes
  pub iface_names : AllPairs (λ i j. i.name ≢ j.name) ifaces
  pub addresses : AllPairs (λ i j. i.address ≢ j.address) ifaces
  pub prefixes : All (λ n. AllPairs (λ r s. r.to ≢ s.to) n.routes) nodes

-- the partition of the node of interface i
abbrev pub partition_at : List NodeValue → List IfaceValue → ℕ → ℕ
partition_at nodes ifaces i = part_of (parts_of nodes) (owners_of ifaces) i

-- interface i is there, and its link comes from another partition
abbrev pub IsReceiver : List NodeValue → List IfaceValue → ℕ → Type 0
IsReceiver nodes ifaces i =
    (x : IfaceValue) × (slice_get ifaces i ≡ Some x)
    × (partition_at nodes ifaces x.far.iface ≢ partition_at nodes ifaces i)

-- channel n comes in at the n-th of the receivers
pub record AreReceivers (nodes : List NodeValue) (ifaces : List IfaceValue) (receivers : List ℕ)
    : Type 0 where
  pub rising : IsStrictlyIncreasing receivers
  pub exactly : (i : ℕ) → Contains receivers i ↔ IsReceiver nodes ifaces i
  -- their links delay by something
  pub delayed : (i : ℕ) (x : IfaceValue) → slice_get ifaces i ≡ Some x → Contains receivers i
      → 1 ≤ x.far.delay

-- what every topology has
abbrev pub IsAccepted : TopologyValue → Type 0
IsAccepted t =
    IsInOrder t.nodes t.ifaces t.links
    × (length t.nodes ≤ MAX_NODES)
    × (length t.ifaces ≤ MAX_IFACES)
    × (length t.links ≤ MAX_LINKS)
    × (length t.sources ≤ MAX_SOURCES)
    × (length t.receivers ≤ MAX_CHANNELS)
    × All (λ s. IsPlaced (length t.nodes) (owners_of t.ifaces) s) t.sources
    × (t.partitions ≤ MAX_PARTITIONS)
    × IsWithinLimits t
    × All (λ s. HasOctets s.traffic) t.sources
    × AreReceivers t.nodes t.ifaces t.receivers
    × HasNoDoubles t.nodes t.ifaces
