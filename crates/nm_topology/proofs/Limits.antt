-- Tables in range make a topology within the limits.
use Rattle.std.proofs.Common.{◌≡◌, All, ℕ, zero, suc, ◌+◌, ◌<◌, ◌≤◌, true, max, List, [], ◌∷◌}
use Rattle.std.proofs.Common.{length, map, None, Some, Result, Ok, Err, refl, sym, ap, ◌∙◌, subst, arith}
use Rattle.std.proofs.Common.{add-zero, ⊎_elim}
use Rattle.std.specs.Prelude.{slice_index_or, IfSome, Option}
use Rattle.std.proofs.lemmas.List.Elements.{All-nil, All-cons, All-weaker}
use Rattle.nm_base.specs.declared.limits.TheConstants.{MAX_DELAY, MAX_PORTS_OF_NODE, MAX_QUEUE, MAX_QUEUE_OCTETS, MAX_RATE, MIN_RATE}
use Rattle.nm_topology.specs.declared.fault.Refusal.{Refusal}
use Rattle.nm_topology.specs.declared.keys.fields.TheConstants.{QUEUE, QUEUE_OCTETS}
use Rattle.nm_topology.specs.declared.parts.Far.{Far}
use Rattle.nm_topology.specs.declared.parts.Link.{Link}
use Rattle.nm_topology.specs.declared.parts.Route.{Route}
use Rattle.nm_topology.specs.declared.parts.PlacedRoute.{PlacedRoute}
use Rattle.nm_topology.specs.declared.traffic.Source.{Source}
use Rattle.nm_topology.specs.declared.traffic.Traffic.{Traffic}
use Rattle.nm_topology.specs.declared.traffic.Traffic.TheVariants.{Cbr, Echo, Raw}
use Rattle.nm_topology.specs.declared.parse.sources.NamedTraffic.{NamedTraffic}
use Rattle.nm_topology.specs.declared.parse.sources.NamedTraffic.TheVariants.{Cbr as NamedCbr}
use Rattle.nm_topology.specs.declared.parse.sources.NamedTraffic.TheVariants.{Echo as NamedEcho}
use Rattle.nm_topology.specs.declared.parse.sources.NamedTraffic.TheVariants.{Raw as NamedRaw}
use Rattle.nm_topology.specs.Fault.{◌>>=◌}
use Rattle.nm_topology.specs.Keys.{IsInBounds}
use Rattle.nm_topology.specs.Parse.TableValues.{NodeTableValue, IfaceTableValue, LinkTableValue}
use Rattle.nm_topology.specs.Parse.SourceTableValue.{SourceTableValue}
use Rattle.nm_topology.specs.Parse.DocumentValue.{DocumentValue}
use Rattle.nm_topology.specs.Names.{distinct_names}
use Rattle.nm_topology.specs.Resolve.{all_of, number_of_name, via_of, owner_of, link_between}
use Rattle.nm_topology.specs.Resolve.{placed_route, placed_traffic, placed_source, resolved}
use Rattle.nm_topology.specs.Resolve.{resolved_by}
use Rattle.nm_topology.specs.Build.{numbers_from, far_by_links, far_ends, partition_count}
use Rattle.nm_topology.specs.Build.{placed_nodes, placed_ifaces}
use Rattle.nm_topology.specs.Validate.{uses, are_used_once}
use Rattle.nm_topology.specs.PartValues.{IfaceValue}
use Rattle.nm_topology.specs.ResolvedValue.{ResolvedValue}
use Rattle.nm_topology.specs.TopologyValue.{TopologyValue}
use Rattle.nm_topology.specs.Limits.{FitsTraffic, HasOctets, IsWithinLimits}
use Rattle.nm_topology.specs.Parse.Ranges.{IsLinkInRange, FitsNamedTraffic, IsInRange}
use Rattle.nm_topology.proofs.Ends.{far-a, far-b, far-on, uses-on}
use Rattle.nm_topology.proofs.Order.{used-once}
use Rattle.nm_topology.proofs.Steps.{step}
use Rattle.nm_topology.proofs.Uses.{same_or_not}

-- what each is read to has a property, where each has one
all_of-holds : {X Y : Type 0} (P : X → Type 0) (Q : Y → Type 0) (read : X → Result Y Refusal) → ((x : X) (y : Y) → P x → read x ≡ Ok y → Q y) → (xs : List X) (ys : List Y) → All P xs → all_of read xs ≡ Ok ys → All Q ys
all_of-holds P Q read holds [] ys a e =
    let none : [] ≡ ys = cc in
    subst (λ zs. All Q zs) none (All-nil Q)
all_of-holds P Q read holds (x ∷ xs) ys a e =
    let b = step (read x) (λ y. all_of read xs >>= λ zs. Ok (y ∷ zs)) ys e in
    let c = step (all_of read xs) (λ zs. Ok (b.0 ∷ zs)) ys b.2 in
    let whole : b.0 ∷ c.0 ≡ ys = cc (c.2) in
    let rest = all_of-holds P Q read holds xs c.0 (λ k d h. a (suc k) d (omega arith)) c.1 in
    subst (λ zs. All Q zs) whole (All-cons Q b.0 c.0 (holds x b.0 (a 0 x (omega arith)) b.1) rest)

-- numbers in place of names
links-and-sources : (os : List ℕ) (ls : List Link) (routes : Result (List PlacedRoute) Refusal) (sources : Result (List Source) Refusal) (t : ResolvedValue) → (routes >>= λ rs. sources >>= λ ss. Ok (record { owners = os; links = ls; routes = rs; sources = ss })) ≡ Ok t → (os ≡ t.owners) × (ls ≡ t.links) × (sources ≡ Ok t.sources)
links-and-sources os ls (Ok rs) (Ok ss) t e = (cc, cc, cc)
links-and-sources os ls (Ok rs) (Err r) t e = cc
links-and-sources os ls (Err r) sources t e = cc

by-owners : (owners : Result (List ℕ) Refusal) (links : Result (List Link) Refusal) (routes : List ℕ → Result (List PlacedRoute) Refusal) (sources : List ℕ → Result (List Source) Refusal) (t : ResolvedValue) → (owners >>= λ os. links >>= λ ls. routes os >>= λ rs. sources os >>= λ ss. Ok (record { owners = os; links = ls; routes = rs; sources = ss })) ≡ Ok t → (links ≡ Ok t.links) × (sources t.owners ≡ Ok t.sources)
by-owners (Ok os) (Ok ls) routes sources t e =
    let h = links-and-sources os ls (routes os) (sources os) t e in
    (ap Ok h.1, ap sources (sym h.0) ∙ h.2)
by-owners (Ok os) (Err r) routes sources t e = cc
by-owners (Err r) links routes sources t e = cc

abbrev Names : Type 0
Names = List (List ℕ)

by-names : (nodes ifaces : Result Names Refusal) (owners : Names → Result (List ℕ) Refusal) (links : Names → Result (List Link) Refusal) (routes : Names → Names → List ℕ → Result (List PlacedRoute) Refusal) (sources : Names → Names → List ℕ → Result (List Source) Refusal) (t : ResolvedValue) → (nodes >>= λ ns. ifaces >>= λ is. owners ns >>= λ os. links is >>= λ ls. routes ns is os >>= λ rs. sources ns is os >>= λ ss. Ok (record { owners = os; links = ls; routes = rs; sources = ss })) ≡ Ok t → (ns : Names) × (is : Names) × (links is ≡ Ok t.links) × (sources ns is t.owners ≡ Ok t.sources)
by-names (Ok ns) (Ok is) owners links routes sources t e =
    let h = by-owners (owners ns) (links is) (routes ns is) (sources ns is) t e in
    (ns, is, h.0, h.1)
by-names (Ok ns) (Err r) owners links routes sources t e = cc
by-names (Err r) ifaces owners links routes sources t e = cc

-- links as they were read
abbrev IsRated : ℕ → ℕ → Type 0
IsRated rate delay = (MIN_RATE ≤ rate) × (rate ≤ MAX_RATE) × (delay ≤ MAX_DELAY)

link-read : (a b : Result ℕ Refusal) (rate delay : ℕ) (k : Link) → (a >>= λ x. b >>= λ y. Ok (record { a = x; b = y; rate = rate; delay = delay })) ≡ Ok k → (rate ≡ k.rate) × (delay ≡ k.delay)
link-read (Ok x) (Ok y) rate delay k e = (cc, cc)
link-read (Ok x) (Err r) rate delay k e = cc
link-read (Err r) b rate delay k e = cc

link-rated : (names : Names) (l : LinkTableValue) (k : Link) → IsLinkInRange l → link_between names l ≡ Ok k → IsRated k.rate k.delay
link-rated names l k h e =
    let same = link-read (number_of_name names l.a) (number_of_name names l.b) l.rate l.delay k e in
    subst (λ r. IsRated r k.delay) same.0 (subst (λ d. IsRated l.rate d) same.1 (h.0.0, h.0.1, h.1.1))

few-octets : (o : Option ℕ) → IfSome o (IsInBounds QUEUE_OCTETS) → IfSome o (λ n. n ≤ MAX_QUEUE_OCTETS)
few-octets None h = tt
few-octets (Some n) h = h.1

-- sources as they were read
traffic-fits : (mtu : ℕ) (ifaces : Names) (owners : List ℕ) (node : ℕ) (named : NamedTraffic) (t : Traffic) → FitsNamedTraffic mtu named → placed_traffic ifaces owners node named ≡ Ok t → FitsTraffic mtu t × HasOctets t
unfolding FitsNamedTraffic FitsTraffic HasOctets
traffic-fits mtu ifaces owners node (NamedCbr c) t h e =
    let same : Cbr c ≡ t = cc in
    subst (λ u. FitsTraffic mtu u × HasOctets u) same (h, tt)
traffic-fits mtu ifaces owners node (NamedEcho c) t h e =
    let same : Echo c ≡ t = cc in
    subst (λ u. FitsTraffic mtu u × HasOctets u) same (h, tt)
traffic-fits mtu ifaces owners node (NamedRaw r) t h e =
    let a = step (via_of ifaces owners node r.via) (λ via. Ok (Raw (record { via = via; packets = r.packets }))) t e in
    let same : Raw (record { via = a.0; packets = r.packets }) ≡ t = cc (a.2) in
    subst (λ u. FitsTraffic mtu u × HasOctets u) same h

source-fits : (mtu : ℕ) (nodes ifaces : Names) (owners : List ℕ) (s : SourceTableValue) (p : Source) → FitsNamedTraffic mtu s.traffic → placed_source nodes ifaces owners s ≡ Ok p → FitsTraffic mtu p.traffic × HasOctets p.traffic
source-fits mtu nodes ifaces owners s p h e =
    let a = step (number_of_name nodes s.node) (λ node. placed_traffic ifaces owners node s.traffic >>= λ t. Ok (record { node = node; traffic = t })) p e in
    let b = step (placed_traffic ifaces owners a.0 s.traffic) (λ t. Ok (record { node = a.0; traffic = t })) p a.2 in
    let whole : ◌≡◌ {A = Source} (record { node = a.0; traffic = b.0 }) p = cc (b.2) in
    subst (λ q. FitsTraffic mtu q.traffic × HasOctets q.traffic) whole (traffic-fits mtu ifaces owners a.0 s.traffic b.0 h b.1)

-- what an interface is linked to is rated as its link
far-rated : (ls : List Link) (i : ℕ) → All (λ l. IsRated l.rate l.delay) ls → (uses i ls ≡ 0 → ⊥) → IsRated (far_by_links i ls).rate (far_by_links i ls).delay
far-rated [] i a h = absurd (h refl)
far-rated (l ∷ ls) i a h =
    let P : Far → Type 0 = λ f. IsRated f.rate f.delay in
    let here : IsRated l.rate l.delay = a 0 l (omega arith) in
    ⊎_elim
    (λ e. subst P (sym (far-a l ls i e)) here)
    (λ e. ⊎_elim
    (λ f. subst P (sym (far-b l ls i e f)) here)
    (λ f. subst P (sym (far-on l ls i e f)) (far-rated ls i (λ k d g. a (suc k) d (omega arith)) (λ g. h (uses-on l ls i e f ∙ g))))
    (same_or_not l.b i))
    (same_or_not l.a i)

numbered-hold : {X : Type 0} (P : X → Type 0) (f : ℕ → X) (n j : ℕ) → ((i : ℕ) → i < n → P (f (j + i))) → All P (map f (numbers_from j n))
numbered-hold P f zero j h = All-nil P
numbered-hold P f (suc n) j h =
    let first : P (f j) = subst (λ k. P (f k)) (add-zero j) (h 0 (omega arith)) in
    let rest : (i : ℕ) → i < n → P (f (suc j + i)) = λ i g. let e : j + suc i ≡ suc j + i = omega arith in subst (λ k. P (f k)) e (h (suc i) (omega arith)) in
    All-cons P (f j) (map f (numbers_from (suc j) n)) first (numbered-hold P f n (suc j) rest)

fars-rated : (n : ℕ) (links : List Link) → All (λ l. IsRated l.rate l.delay) links → are_used_once n links ≡ true → All (λ f. IsRated f.rate f.delay) (far_ends n links)
fars-rated n links a e =
    numbered-hold (λ f. IsRated f.rate f.delay) (λ i. far_by_links i links) n 0
    (λ i h. let same : i ≡ 0 + i = omega arith in
    subst (λ k. IsRated (far_by_links k links).rate (far_by_links k links).delay) same
    (far-rated links i a (λ none. omega (arith, none, used-once n links i e h))))

-- interfaces and nodes as they are placed
abbrev IsPort : IfaceValue → Type 0
IsPort i = (i.queue ≤ MAX_QUEUE) × (MIN_RATE ≤ i.far.rate) × (i.far.rate ≤ MAX_RATE) × (i.far.delay ≤ MAX_DELAY)

ifaces-within : (tables : List IfaceTableValue) (owners : List ℕ) (far : List Far) → All (λ r. r.queue ≤ MAX_QUEUE) tables → All (λ f. IsRated f.rate f.delay) far → All IsPort (placed_ifaces tables owners far)
ifaces-within [] os fs a b = All-nil IsPort
ifaces-within (r ∷ rs) [] fs a b = All-nil IsPort
ifaces-within (r ∷ rs) (o ∷ os) [] a b = All-nil IsPort
ifaces-within (r ∷ rs) (o ∷ os) (f ∷ fs) a b =
    let end = b 0 f (omega arith) in
    All-cons IsPort (record { name = r.name; node = o; address = r.address; queue = r.queue; queue_octets = r.queue_octets; far = f }) (placed_ifaces rs os fs)
    (a 0 r (omega arith), end.0, end.1, end.2)
    (ifaces-within rs os fs (λ k d h. a (suc k) d (omega arith)) (λ k d h. b (suc k) d (omega arith)))

-- what is true of the limits in octets of all tables is true of those of all interfaces
octets-within : (P : Option ℕ → Type 0) (tables : List IfaceTableValue) (owners : List ℕ) (far : List Far)
    → All (λ r. P r.queue_octets) tables → All (λ i. P i.queue_octets) (placed_ifaces tables owners far)
octets-within P [] os fs a = All-nil (λ i. P i.queue_octets)
octets-within P (r ∷ rs) [] fs a = All-nil (λ i. P i.queue_octets)
octets-within P (r ∷ rs) (o ∷ os) [] a = All-nil (λ i. P i.queue_octets)
octets-within P (r ∷ rs) (o ∷ os) (f ∷ fs) a =
    All-cons (λ i. P i.queue_octets) (record { name = r.name; node = o; address = r.address; queue = r.queue; queue_octets = r.queue_octets; far = f })
    (placed_ifaces rs os fs) (a 0 r (omega arith)) (octets-within P rs os fs (λ k d h. a (suc k) d (omega arith)))

nodes-within : (P : ℕ → List ℕ → Type 0) (tables : List NodeTableValue) (node_routes : List (List Route)) → All (λ r. P r.partition r.ports) tables → All (λ n. P n.partition n.ports) (placed_nodes tables node_routes)
nodes-within P [] ts a = All-nil (λ n. P n.partition n.ports)
nodes-within P (r ∷ rs) [] a = All-nil (λ n. P n.partition n.ports)
nodes-within P (r ∷ rs) (t ∷ ts) a =
    All-cons (λ n. P n.partition n.ports) (record { name = r.name; kind = r.kind; partition = r.partition; ports = r.ports; routes = t }) (placed_nodes rs ts)
    (a 0 r (omega arith)) (nodes-within P rs ts (λ k d h. a (suc k) d (omega arith)))

below-count : (tables : List NodeTableValue) → All (λ r. r.partition < partition_count (map (λ n. n.partition) tables)) tables
below-count [] = λ k d h. absurd (omega arith)
below-count (r ∷ rs) =
    let count : ℕ = partition_count (map (λ n. n.partition) rs) in
    All-cons (λ q. q.partition < max (r.partition + 1) count) r rs (omega arith)
    (All-weaker (λ q. q.partition < count) (λ q. q.partition < max (r.partition + 1) count) (λ q h. omega arith) rs (below-count rs))

-- the parts of a topology, by the document that it comes from
pub record IsPutTogether (d : DocumentValue) (t : ResolvedValue) (node_routes : List (List Route)) (v : TopologyValue) : Type 0 where
  pub stop : v.stop ≡ d.stop
  pub mtu : v.mtu ≡ d.mtu
  pub nodes : v.nodes ≡ placed_nodes d.nodes node_routes
  pub ifaces : v.ifaces ≡ placed_ifaces d.ifaces t.owners (far_ends (length d.ifaces) t.links)
  pub sources : v.sources ≡ t.sources
  pub partitions : v.partitions ≡ partition_count (map (λ n. n.partition) d.nodes)

module _ (d : DocumentValue) (t : ResolvedValue) (node_routes : List (List Route)) (v : TopologyValue) (range : IsInRange d)
    (read : resolved d.nodes d.ifaces d.links d.routes d.sources ≡ Ok t)
    (used : are_used_once (length d.ifaces) t.links ≡ true)
    (put : IsPutTogether d t node_routes v) where
  names : (ns : Names) × (is : Names) × (all_of (link_between is) d.links ≡ Ok t.links) × (all_of (placed_source ns is t.owners) d.sources ≡ Ok t.sources)
  unfolding resolved resolved_by
  names = by-names (distinct_names (map (λ n. n.name) d.nodes)) (distinct_names (map (λ i. i.name) d.ifaces)) (λ ns. all_of (owner_of ns) d.ifaces)
      (λ is. all_of (link_between is) d.links) (λ ns is os. all_of (placed_route ns is os) d.routes) (λ ns is os. all_of (placed_source ns is os) d.sources) t read

  links : All (λ l. IsRated l.rate l.delay) t.links
  links = all_of-holds IsLinkInRange (λ l. IsRated l.rate l.delay) (link_between names.1) (link-rated names.1) d.links t.links range.links names.2

  fit : All (λ s. FitsTraffic d.mtu s.traffic × HasOctets s.traffic) t.sources
  fit = all_of-holds (λ s. FitsNamedTraffic d.mtu s.traffic) (λ s. FitsTraffic d.mtu s.traffic × HasOctets s.traffic) (placed_source names.0 names.1 t.owners)
      (source-fits d.mtu names.0 names.1 t.owners) d.sources t.sources range.sources names.3

  ports : All IsPort v.ifaces
  ports = subst (λ is. All IsPort is) (sym put.ifaces)
      (ifaces-within d.ifaces t.owners (far_ends (length d.ifaces) t.links) (All-weaker (λ i. IsInBounds QUEUE i.queue) (λ i. i.queue ≤ MAX_QUEUE) (λ i h. h.1) d.ifaces range.ifaces) (fars-rated (length d.ifaces) t.links links used))

  octets : All (λ i. IfSome i.queue_octets (λ n. n ≤ MAX_QUEUE_OCTETS)) v.ifaces
  octets = subst (λ is. All (λ i. IfSome i.queue_octets (λ n. n ≤ MAX_QUEUE_OCTETS)) is) (sym put.ifaces)
      (octets-within (λ o. IfSome o (λ n. n ≤ MAX_QUEUE_OCTETS)) d.ifaces t.owners (far_ends (length d.ifaces) t.links)
      (All-weaker (λ i. IfSome i.queue_octets (IsInBounds QUEUE_OCTETS)) (λ i. IfSome i.queue_octets (λ n. n ≤ MAX_QUEUE_OCTETS)) (λ i. few-octets i.queue_octets) d.ifaces range.queue_octets))

  nodes : All (λ n. (n.partition < v.partitions) × (length n.ports ≤ MAX_PORTS_OF_NODE)) v.nodes
  nodes =
      let tables : All (λ r. (r.partition < v.partitions) × (length r.ports ≤ MAX_PORTS_OF_NODE)) d.nodes =
      λ k r h. (subst (λ m. (slice_index_or d.nodes k r).partition < m) (sym put.partitions) (below-count d.nodes k r h), range.nodes k r h) in
      subst (λ ns. All (λ n. (n.partition < v.partitions) × (length n.ports ≤ MAX_PORTS_OF_NODE)) ns) (sym put.nodes)
      (nodes-within (λ p ps. (p < v.partitions) × (length ps ≤ MAX_PORTS_OF_NODE)) d.nodes node_routes tables)

  pub within_limits : IsWithinLimits v
  within_limits = record {
    least_stop = omega (arith, put.stop, range.stop.0);
    greatest_stop = omega (arith, put.stop, range.stop.1);
    least_mtu = omega (arith, put.mtu, range.mtu.0);
    greatest_mtu = omega (arith, put.mtu, range.mtu.1);
    nodes = nodes;
    ifaces = ports;
    queue_octets = octets;
    sources = subst (λ m. All (λ s. FitsTraffic m s.traffic) v.sources) (sym put.mtu)
        (subst (λ ss. All (λ s. FitsTraffic d.mtu s.traffic) ss) (sym put.sources)
        (All-weaker (λ s. FitsTraffic d.mtu s.traffic × HasOctets s.traffic) (λ s. FitsTraffic d.mtu s.traffic) (λ s h. h.0) t.sources fit));
  }

  pub have_octets : All (λ s. HasOctets s.traffic) v.sources
  have_octets = subst (λ ss. All (λ s. HasOctets s.traffic) ss) (sym put.sources)
      (All-weaker (λ s. FitsTraffic d.mtu s.traffic × HasOctets s.traffic) (λ s. HasOctets s.traffic) (λ s h. h.1) t.sources fit)
