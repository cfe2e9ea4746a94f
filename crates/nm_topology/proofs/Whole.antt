-- A document and its numbers, put together, are in order and within the limits.
use Rattle.std.proofs.Common.{◌≡◌, All, ℕ, ◌≤◌, List, length, map, Ok, refl, sym, ap, ◌∙◌}
use Rattle.std.proofs.Common.{subst}
use Rattle.nm_base.specs.declared.limits.TheConstants.{MAX_CHANNELS, MAX_IFACES, MAX_LINKS, MAX_NODES, MAX_PARTITIONS, MAX_SOURCES}
use Rattle.nm_topology.specs.declared.parts.Link.{Link}
use Rattle.nm_topology.specs.declared.parts.Route.{Route}
use Rattle.nm_topology.specs.declared.traffic.Source.{Source}
use Rattle.nm_topology.specs.Fault.{◌>>=◌}
use Rattle.nm_topology.specs.Parse.TableValues.{NodeTableValue, IfaceTableValue, LinkTableValue}
use Rattle.nm_topology.specs.Parse.TableValues.{RouteTableValue}
use Rattle.nm_topology.specs.Parse.SourceTableValue.{SourceTableValue}
use Rattle.nm_topology.specs.Parse.DocumentValue.{DocumentValue}
use Rattle.nm_topology.specs.PartValues.{NodeValue, IfaceValue}
use Rattle.nm_topology.specs.ResolvedValue.{ResolvedValue}
use Rattle.nm_topology.specs.TopologyValue.{TopologyValue}
use Rattle.nm_topology.specs.Build.{routes_at, routes_of_nodes, far_by_links, far_ends}
use Rattle.nm_topology.specs.Build.{partition_count, placed_nodes, placed_ifaces, receivers_of}
use Rattle.nm_topology.specs.Build.{put_together}
use Rattle.nm_topology.specs.Resolve.{IsNumbered, resolved}
use Rattle.nm_topology.specs.Topology.{network_of}
use Rattle.nm_topology.specs.Validate.{tested}
use Rattle.nm_topology.specs.Accepted.{AreReceivers, HasNoDoubles, IsAccepted, IsInOrder, IsPlaced}
use Rattle.nm_topology.specs.Accepted.{owners_of}
use Rattle.nm_topology.specs.Accepted.{parts_of}
use Rattle.nm_topology.specs.Parse.Ranges.{IsInRange}
use Rattle.nm_topology.proofs.Limits.{IsPutTogether, within_limits, have_octets}
use Rattle.nm_topology.proofs.Channels.{are_receivers}
use Rattle.nm_topology.proofs.Distinct.{no_doubles}
use Rattle.nm_topology.proofs.Order.{Passed, passed as all_passed, in_order, nodes-length}
use Rattle.nm_topology.proofs.Order.{nodes-parts, numbers-length, iface-far, ifaces-owners}
use Rattle.nm_topology.proofs.Order.{ifaces-length}

-- the tables of a text, and what numbering gives of them
pub record IsRead (ns : List NodeTableValue) (is : List IfaceTableValue) (ls : List LinkTableValue) (rs : List RouteTableValue) (ss : List SourceTableValue) (t : ResolvedValue) : Type 0 where
  pub numbered : IsNumbered (length ns) (length is) (length ls) (length ss) t
  pub value : resolved ns is ls rs ss ≡ Ok t

pub read_along : {ns ms : List NodeTableValue} {is js : List IfaceTableValue} {ls ks : List LinkTableValue} {rs qs : List RouteTableValue} {ss : List SourceTableValue} {t : ResolvedValue}
    → ns ≡ ms → is ≡ js → ls ≡ ks → rs ≡ qs → IsRead ns is ls rs ss t → IsRead ms js ks qs ss t
read_along {ns} {ms} {is} {js} {ls} {ks} {rs} {qs} {ss} {t} n i l r h =
    subst (λ xs. IsRead ms js ks xs ss t) r
    (subst (λ xs. IsRead ms js xs rs ss t) l
    (subst (λ xs. IsRead ms xs ls rs ss t) i
    (subst (λ xs. IsRead xs is ls rs ss t) n h)))

-- a document and its numbers, put together part by part
pub record IsMade (digest : List ℕ) (d : DocumentValue) (t : ResolvedValue) (v : TopologyValue) : Type 0 where
  pub stop : v.stop ≡ d.stop
  pub mtu : v.mtu ≡ d.mtu
  pub nodes : v.nodes ≡ placed_nodes d.nodes (routes_of_nodes (length d.nodes) t.routes)
  pub ifaces : v.ifaces ≡ placed_ifaces d.ifaces t.owners (far_ends (length d.ifaces) t.links)
  pub links : v.links ≡ t.links
  pub sources : v.sources ≡ t.sources
  pub receivers : v.receivers ≡ receivers_of (map (λ n. n.partition) d.nodes) t.owners (far_ends (length d.ifaces) t.links)
  pub partitions : v.partitions ≡ partition_count (map (λ n. n.partition) d.nodes)
  pub same_digest : v.digest ≡ digest

unfoldable network : ℕ → ℕ → List NodeValue → List IfaceValue → List Link → List Source → List ℕ → ℕ → List ℕ → TopologyValue
network a b ns is ls ss rs p e = record { stop = a; mtu = b; nodes = ns; ifaces = is; links = ls; sources = ss; receivers = rs; partitions = p; digest = e }

pub made : {digest : List ℕ} {d : DocumentValue} {t : ResolvedValue} {v : TopologyValue} → IsMade digest d t v → v ≡ put_together digest d t
unfolding network
made {digest} {d} {t} {v} m =
    let w = put_together digest d t in
    ap (λ x. network x v.mtu v.nodes v.ifaces v.links v.sources v.receivers v.partitions v.digest) m.stop
    ∙ ap (λ x. network w.stop x v.nodes v.ifaces v.links v.sources v.receivers v.partitions v.digest) m.mtu
    ∙ ap (λ x. network w.stop w.mtu x v.ifaces v.links v.sources v.receivers v.partitions v.digest) m.nodes
    ∙ ap (λ x. network w.stop w.mtu w.nodes x v.links v.sources v.receivers v.partitions v.digest) m.ifaces
    ∙ ap (λ x. network w.stop w.mtu w.nodes w.ifaces x v.sources v.receivers v.partitions v.digest) m.links
    ∙ ap (λ x. network w.stop w.mtu w.nodes w.ifaces w.links x v.receivers v.partitions v.digest) m.sources
    ∙ ap (λ x. network w.stop w.mtu w.nodes w.ifaces w.links w.sources x v.partitions v.digest) m.receivers
    ∙ ap (λ x. network w.stop w.mtu w.nodes w.ifaces w.links w.sources w.receivers x v.digest) m.partitions
    ∙ ap (λ x. network w.stop w.mtu w.nodes w.ifaces w.links w.sources w.receivers w.partitions x) m.same_digest

-- what a document keeps
abbrev pub IsCounted : DocumentValue → Type 0
IsCounted d = (length d.nodes ≤ MAX_NODES) × (length d.ifaces ≤ MAX_IFACES) × (length d.links ≤ MAX_LINKS) × (length d.sources ≤ MAX_SOURCES)

module _ (d : DocumentValue) (t : ResolvedValue) (digest : List ℕ)
    (read : IsRead d.nodes d.ifaces d.links d.routes d.sources t)
    (passed : tested (map (λ n. n.partition) d.nodes) (map (λ i. i.address) d.ifaces) (length d.nodes) (length d.ifaces) t ≡ Ok tt) where
  abbrev node_routes : List (List Route)
  node_routes = routes_of_nodes (length d.nodes) t.routes

  abbrev v : TopologyValue
  v = put_together digest d t

  put : IsPutTogether d t node_routes v
  put = record { stop = refl; mtu = refl; nodes = refl; ifaces = refl; sources = refl; partitions = refl }

  order : IsInOrder v.nodes v.ifaces v.links
  order = in_order d.nodes d.ifaces t (map (λ i. i.address) d.ifaces) read.numbered.owners.0 read.numbered.owners.1 read.numbered.ends read.numbered.vias passed

  nodes-count : length v.nodes ≡ length d.nodes
  nodes-count = nodes-length d.nodes node_routes (numbers-length (λ j. routes_at j t.routes) (length d.nodes) 0)

  far-count : length (far_ends (length d.ifaces) t.links) ≡ length d.ifaces
  far-count = numbers-length (λ i. far_by_links i t.links) (length d.ifaces) 0

  ifaces-count : length v.ifaces ≡ length d.ifaces
  ifaces-count = ifaces-length d.ifaces t.owners (far_ends (length d.ifaces) t.links) read.numbered.owners.0 far-count

  owners-are : t.owners ≡ owners_of v.ifaces
  owners-are = sym (ifaces-owners d.ifaces t.owners (far_ends (length d.ifaces) t.links) read.numbered.owners.0 far-count)

  sources : All (λ s. IsPlaced (length v.nodes) (owners_of v.ifaces) s) v.sources
  sources = subst (λ os. All (λ s. IsPlaced (length v.nodes) os s) t.sources) owners-are
      (subst (λ m. All (λ s. IsPlaced m t.owners s) t.sources) (sym nodes-count) read.numbered.placed)

  pass : Passed (map (λ n. n.partition) d.nodes) (map (λ i. i.address) d.ifaces) (length d.nodes) (length d.ifaces) t
  pass = all_passed (map (λ n. n.partition) d.nodes) (map (λ i. i.address) d.ifaces) (length d.nodes) (length d.ifaces) t passed

  routes-count : length node_routes ≡ length d.nodes
  routes-count = numbers-length (λ j. routes_at j t.routes) (length d.nodes) 0

  receivers : AreReceivers v.nodes v.ifaces v.receivers
  receivers =
      let far = far_ends (length d.ifaces) t.links in
      subst (λ ps. AreReceivers v.nodes v.ifaces (receivers_of ps t.owners far)) (nodes-parts d.nodes node_routes routes-count)
      (subst (λ os. AreReceivers v.nodes v.ifaces (receivers_of (parts_of v.nodes) os far)) (sym owners-are)
      (are_receivers v.nodes v.ifaces t.links far order (ifaces-count ∙ sym far-count) (iface-far d.ifaces t.owners far)))

  doubles : HasNoDoubles v.nodes v.ifaces
  doubles =
      no_doubles d.nodes d.ifaces d.links d.routes d.sources t (far_ends (length d.ifaces) t.links) read.value read.numbered.owners.0 far-count
      pass.different pass.single routes-count

  pub sound : IsInRange d → IsCounted d → length v.receivers ≤ MAX_CHANNELS → v.partitions ≤ MAX_PARTITIONS → IsAccepted v
  sound range counts few parts = (
    order,
    subst (λ m. m ≤ MAX_NODES) (sym nodes-count) counts.0,
    subst (λ m. m ≤ MAX_IFACES) (sym ifaces-count) counts.1,
    subst (λ m. m ≤ MAX_LINKS) (sym read.numbered.counts.0) counts.2,
    subst (λ m. m ≤ MAX_SOURCES) (sym read.numbered.counts.1) counts.3,
    few,
    sources,
    parts,
    within_limits d t node_routes v range read.value pass.used put,
    have_octets d t node_routes v range read.value pass.used put,
    receivers,
    doubles,
  )

  pub network-read : network_of digest d ≡ Ok (put_together digest d t)
  unfolding network_of
  network-read =
      ap (λ r. r >>= λ n. tested (map (λ n. n.partition) d.nodes) (map (λ i. i.address) d.ifaces) (length d.nodes) (length d.ifaces) n >>= λ good. Ok (put_together digest d n)) read.value
      ∙ ap (λ r. r >>= λ good. Ok (put_together digest d t)) passed
