-- The nodes of interfaces and of sources.
use Rattle.std.proofs.Common.{◌≡◌, ℕ, ◌<◌, List, length, Some, get_or, slice_get, sym, ap, ◌∙◌}
use Rattle.std.proofs.lemmas.List.{get_or-map}
use Rattle.std.proofs.lemmas.Option.{get_or_from_slice_get, slice_get-get_or, slice_get_within}
use Rattle.nm_topology.specs.declared.traffic.Source.{Source}
use Rattle.nm_topology.specs.PartValues.{IfaceValue}
use Rattle.nm_topology.specs.TopologyValue.{TopologyValue}
use Rattle.nm_sim.specs.Network.{far_of, far_from, net_of}

pub owner_is : (t : TopologyValue) (i : ℕ) (x : IfaceValue) → slice_get t.ifaces i ≡ Some x → (net_of t).owner i ≡ x.node
unfolding net_of
owner_is t i x e = get_or-map (λ z. z.node) t.ifaces i x 0 (slice_get_within t.ifaces i x e) ∙ ap (λ z. z.node) (get_or_from_slice_get t.ifaces i x x e)

pub far_is : (t : TopologyValue) (i : ℕ) (x : IfaceValue) → slice_get t.ifaces i ≡ Some x → far_of t i ≡ x.far
far_is t i x e = ap (far_from i) e

source_node_is : (t : TopologyValue) (j : ℕ) (s : Source) → slice_get t.sources j ≡ Some s → (net_of t).source_node j ≡ s.node
unfolding net_of
source_node_is t j s e = get_or-map (λ z. z.node) t.sources j s 0 (slice_get_within t.sources j s e) ∙ ap (λ z. z.node) (get_or_from_slice_get t.sources j s s e)

-- the node of a source, read from a list
pub source_read : (t : TopologyValue) (j k : ℕ) (l : List Source) (d : Source) → l ≡ t.sources → k ≡ j → j < length t.sources
    → (net_of t).source_node j ≡ (get_or l k d).node
source_read t j k l d same at within =
    source_node_is t j (get_or t.sources j d) (slice_get-get_or t.sources j d within) ∙ (λ i. (get_or (sym same i) (sym at i) d).node)

pub source_there : (t : TopologyValue) (j k : ℕ) (l : List Source) (d : Source) → l ≡ t.sources → k ≡ j → j < length t.sources → d ≡ get_or l k d → slice_get t.sources j ≡ Some d
source_there t j k l d same at within is = slice_get-get_or t.sources j d within ∙ ap Some ((λ i. get_or (sym same i) (sym at i) d) ∙ sym is)
