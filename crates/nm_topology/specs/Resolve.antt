-- The tables of a topology text, with numbers in place of names.
use Rattle.nm_topology.specs.Fault.{◌>>=◌}
use Rattle.nm_topology.specs.Parse.SourceTableValue.{SourceTableValue}
use Rattle.nm_topology.specs.Parse.TableValues.{IfaceTableValue, LinkTableValue, RouteTableValue}
use Rattle.nm_topology.specs.Parse.TableValues.{NodeTableValue}
use Rattle.nm_topology.specs.declared.fault.Refusal.{Refusal}
use Rattle.nm_topology.specs.declared.fault.Refusal.TheVariants.{NoSuch}
use Rattle.nm_topology.specs.declared.parts.Link.{Link}
use Rattle.nm_topology.specs.declared.parts.PlacedRoute.{PlacedRoute}
use Rattle.nm_topology.specs.declared.parse.sources.NamedTraffic.{NamedTraffic}
use Rattle.nm_topology.specs.declared.parse.sources.NamedTraffic.TheVariants.{Cbr as NamedCbr}
use Rattle.nm_topology.specs.declared.parse.sources.NamedTraffic.TheVariants.{Echo as NamedEcho}
use Rattle.nm_topology.specs.declared.parse.sources.NamedTraffic.TheVariants.{Raw as NamedRaw}
use Rattle.nm_topology.specs.declared.traffic.Source.{Source}
use Rattle.nm_topology.specs.declared.traffic.Traffic.{Traffic}
use Rattle.nm_topology.specs.declared.traffic.Traffic.TheVariants.{Cbr, Echo, Raw}
use Rattle.nm_topology.specs.Accepted.{IsPlaced}
use Rattle.std.specs.List.{position}
use Rattle.std.specs.Prelude.{◌≡◌, ◌<◌, All, length}
use Rattle.std.specs.Prelude.{ℕ, ◌==◌, if◌then◌else◌, List, [], ◌∷◌, slice_index, Option, Some}
use Rattle.std.specs.Prelude.{None, Result, Ok, Err, map}
use Rattle.std.specs.Str.{bytes_eq}
use Rattle.nm_topology.specs.Names.{distinct_names}
use Rattle.nm_topology.specs.ResolvedValue.{ResolvedValue}

-- each read in order, up to the first refusal
abbrev pub all_of : {X Y : Type 0} → (X → Result Y Refusal) → List X → Result (List Y) Refusal
all_of read [] = Ok []
all_of read (x ∷ xs) = read x >>= λ y. all_of read xs >>= λ ys. Ok (y ∷ ys)

abbrev pub found : Option ℕ → Result ℕ Refusal
found None = Err NoSuch
found (Some n) = Ok n

-- the number of a name among names
abbrev pub number_of_name : List (List ℕ) → List ℕ → Result ℕ Refusal
number_of_name names name = found (position (λ n. bytes_eq name n) names)

-- the number of an interface of this node, among interfaces with these names and owners
abbrev pub via_of : List (List ℕ) → List ℕ → ℕ → List ℕ → Result ℕ Refusal
via_of names owners node name =
    number_of_name names name >>= λ i. if slice_index owners i == node then Ok i else Err NoSuch

-- the owner of an interface
abbrev pub owner_of : List (List ℕ) → IfaceTableValue → Result ℕ Refusal
owner_of nodes i = number_of_name nodes i.node

abbrev pub link_between : List (List ℕ) → LinkTableValue → Result Link Refusal
link_between ifaces l = do
  a ← number_of_name ifaces l.a
  b ← number_of_name ifaces l.b
  Ok (record { a = a; b = b; rate = l.rate; delay = l.delay })

-- names of nodes, names of interfaces, owners of interfaces
abbrev pub placed_route : List (List ℕ) → List (List ℕ) → List ℕ → RouteTableValue
    → Result PlacedRoute Refusal
placed_route nodes ifaces owners r = do
  node ← number_of_name nodes r.node
  via ← via_of ifaces owners node r.via
  Ok (record { node = node; route = record { to = r.to; via = via } })

abbrev pub placed_traffic : List (List ℕ) → List ℕ → ℕ → NamedTraffic → Result Traffic Refusal
placed_traffic ifaces owners node (NamedCbr c) = Ok (Cbr c)
placed_traffic ifaces owners node (NamedEcho e) = Ok (Echo e)
placed_traffic ifaces owners node (NamedRaw r) =
    via_of ifaces owners node r.via >>= λ via. Ok (Raw (record { via = via; packets = r.packets }))

abbrev pub placed_source : List (List ℕ) → List (List ℕ) → List ℕ → SourceTableValue
    → Result Source Refusal
placed_source nodes ifaces owners s = do
  node ← number_of_name nodes s.node
  traffic ← placed_traffic ifaces owners node s.traffic
  Ok (record { node = node; traffic = traffic })

-- numbers in place of these names
unfoldable pub resolved_by : List (List ℕ) → List (List ℕ) → List IfaceTableValue
    → List LinkTableValue → List RouteTableValue → List SourceTableValue
    → Result ResolvedValue Refusal
resolved_by node_names iface_names ifaces links routes sources = do
  owners ← all_of (owner_of node_names) ifaces
  ends ← all_of (link_between iface_names) links
  placed ← all_of (placed_route node_names iface_names owners) routes
  traffic ← all_of (placed_source node_names iface_names owners) sources
  Ok (record { owners = owners; links = ends; routes = placed; sources = traffic })

-- numbers in place of names
unfoldable pub resolved : List NodeTableValue → List IfaceTableValue → List LinkTableValue
    → List RouteTableValue → List SourceTableValue → Result ResolvedValue Refusal
resolved nodes ifaces links routes sources = do
  node_names ← distinct_names (map (λ n. n.name) nodes)
  iface_names ← distinct_names (map (λ i. i.name) ifaces)
  resolved_by node_names iface_names ifaces links routes sources

-- numbers of so many nodes, interfaces, links and sources, and of nothing else
pub record IsNumbered (nodes ifaces links sources : ℕ) (t : ResolvedValue) : Type 0 where
  pub owners : (length t.owners ≡ ifaces) × All (λ o. o < nodes) t.owners
  pub counts : (length t.links ≡ links) × (length t.sources ≡ sources)
  pub ends : All (λ l. (l.a < ifaces) × (l.b < ifaces)) t.links
  pub homes : All (λ r. r.node < nodes) t.routes
  pub vias : All (λ r. (r.route.via < ifaces) × (slice_index t.owners r.route.via ≡ r.node))
      t.routes
  pub placed : All (λ s. IsPlaced nodes t.owners s) t.sources
