-- A topology that is in order and within the limits describes a network.
use Rattle.std.proofs.Common.{◌≡◌, ℕ, zero, suc, ◌+◌, ◌-◌, ◌*◌, ◌/◌, ◌^◌, ◌<◌, ◌≤◌, List, length, map, All, max, Option, Some, None, true, false, slice_get, slice_index, slice_index_or as get_or, sym, ap, ◌∙◌, subst, arith, ⊎_elim}
use Rattle.std.specs.Prelude.{if◌then◌else◌}
use Rattle.std.proofs.lemmas.Option.{slice_get-get_or, slice_get_cases, slice_get_past, slice_get_within, get_or_from_slice_get}
use Rattle.std.proofs.lemmas.List.{get_or-map}
use Rattle.std.proofs.lemmas.List.Elements.{All-get_or}
use Rattle.std.proofs.lemmas.Nat.{le-div}
use Rattle.std.proofs.Math.Nat.{div-mul-le_self}
use Rattle.nm_base.specs.declared.limits.TheConstants.{MAX_PORTS_OF_NODE}
use Rattle.nm_base.specs.declared.event.Origin.{Origin}
use Rattle.nm_topology.specs.declared.traffic.Source.{Source}
use Rattle.nm_topology.specs.PartValues.{IfaceValue, NodeValue}
use Rattle.nm_topology.specs.Accepted.{IsInOrder, IsPlaced, LeavesByOwn, owners_of, parts_of}
use Rattle.nm_topology.specs.Limits.{IsWithinLimits}
use Rattle.nm_topology.specs.TopologyValue.{TopologyValue}
use Rattle.nm_forward.specs.State.{NodeStateValue}
use Rattle.nm_forward.specs.Reaction.{reaction}
use Rattle.nm_iface.specs.Transmission.{transmission_time}
use Rattle.std.specs.Option.{option_and_then}
use Rattle.nm_traffic.specs.Source.{packet_at, source_at, source_of}
use Rattle.nm_traffic.specs.SourceValues.{SourceValue}
use Rattle.nm_model.specs.Network.{IsNet, IsParted}
use Rattle.nm_sim.specs.Network.{far_from, far_of, first_here, is_source_here, net_of}

-- division keeps the order
divided_le : (a b r : ℕ) → a ≤ b → a / r ≤ b / r
divided_le a b zero h = omega arith
divided_le a b (suc r) h = let q = div-mul-le_self a (suc r) in le-div (a / suc r) b (suc r) (omega arith) (omega arith)

-- a longer packet takes no less
longer_takes : (r m n : ℕ) → m ≤ n → transmission_time r m ≤ transmission_time r n
longer_takes r m n h =
    let bits : m * 8 * 10 ^ 9 + (r - 1) ≤ n * 8 * 10 ^ 9 + (r - 1) = omega arith in
    let d = divided_le (m * 8 * 10 ^ 9 + (r - 1)) (n * 8 * 10 ^ 9 + (r - 1)) r bits in
    omega arith

module _ (t : TopologyValue) (order : IsInOrder t.nodes t.ifaces t.links) where
  pub far_at : (i : ℕ) (x : IfaceValue) → slice_get t.ifaces i ≡ Some x → far_of t i ≡ x.far
  far_at i x e = ap (far_from i) e

  twice_at : (i : ℕ) (x y : IfaceValue) → slice_get t.ifaces i ≡ Some x → slice_get t.ifaces x.far.iface ≡ Some y → (far_of t x.far.iface).iface ≡ i
  twice_at i x y e f =
      let there = order.linked i x e in
      let back = order.linked x.far.iface y f in
      ap (λ z. z.iface) (far_at x.far.iface y f ∙ back.far ∙ there.back)

  far_end_twice : (i : ℕ) → (far_of t (far_of t i).iface).iface ≡ i
  far_end_twice i = ⊎_elim
      (λ h. let there = order.linked i h.0 h.2 in
      ap (λ p. (far_of t p).iface) (ap (λ z. z.iface) (far_at i h.0 h.2))
      ∙ ⊎_elim
      (λ g. twice_at i h.0 g.0 h.2 g.2)
      (λ g. absurd (let w = there.within in omega (arith, w, g.0)))
      ((slice_get_cases t.ifaces h.0.far.iface).1))
      (λ h. let p : (far_of t i).iface ≡ i = ap (λ o. (far_from i o).iface) (slice_get_past t.ifaces i h.0) in ap (λ q. (far_of t q).iface) p ∙ p)
      ((slice_get_cases t.ifaces i).1)

  pub is_net : ((v : ℕ) (n : NodeStateValue) (o : Origin) (x : List ℕ) (s : ℕ × List ℕ) → (reaction t v n o x).1 ≡ Some s
      → (s.0 < length t.ifaces) × (slice_index (owners_of t.ifaces) s.0 ≡ v))
      → ((j n : ℕ) (a b : ℕ × List ℕ) → source_at t j n ≡ Some a → source_at t j (suc n) ≡ Some b → a.0 < b.0)
      → IsNet (net_of t)
  unfolding net_of
  is_net own rises = record {
    own = λ v n o x s e. (own v n o x s e).1;
    twice = far_end_twice;
    outside = λ i h. ap (λ o. (far_from i o).iface) (slice_get_past t.ifaces i h);
    takes_time = λ i x. omega arith;
    takes_least = λ i x. longer_takes (far_of t i).rate 1 (max 1 (length x)) (omega arith);
    rises = rises;
  }

-- a member of a list and what a map has in its place
pub mapped_at : {X Y : Type 0} (f : X → Y) (xs : List X) (i : ℕ) (e : Y) → i < length xs
    → (x : X) × (slice_get xs i ≡ Some x) × (get_or (map f xs) i e ≡ f x)
mapped_at f xs i e h = ⊎_elim
    (λ g. (g.0, g.2, get_or-map f xs i g.0 e h ∙ ap f g.3))
    (λ g. absurd (omega (arith, g.0)))
    ((slice_get_cases xs i).1)

pub all_at : {X : Type 0} (P : X → Type 0) (xs : List X) (i : ℕ) (x : X) → slice_get xs i ≡ Some x → All P xs → P x
all_at P xs i x e h = subst P (get_or_from_slice_get xs i x x e) (All-get_or P xs i x (slice_get_within xs i x e) h)

module _ (t : TopologyValue) (limits : IsWithinLimits t) where
  part_below : (v : ℕ) → v < length t.nodes → get_or (parts_of t.nodes) v t.partitions < t.partitions
  part_below v h =
      let at = mapped_at (λ n. n.partition) t.nodes v t.partitions h in
      let a : (at.0.partition < t.partitions) × (length at.0.ports ≤ MAX_PORTS_OF_NODE) = all_at (λ n. (n.partition < t.partitions) × (length n.ports ≤ MAX_PORTS_OF_NODE)) t.nodes v at.0 at.1 limits.nodes in
      subst (λ p. p < t.partitions) (sym at.2) a.0

  pub is_parted : IsInOrder t.nodes t.ifaces t.links → All (λ s. IsPlaced (length t.nodes) (owners_of t.ifaces) s) t.sources → IsParted (net_of t)
  unfolding net_of IsPlaced
  is_parted order placed = record {
    ifaces = λ i h. let at = mapped_at (λ x. x.node) t.ifaces i 0 h in
        part_below _ (subst (λ v. v < length t.nodes) (sym at.2) (all_at (λ x. x.node < length t.nodes) t.ifaces i at.0 at.1 order.owners));
    sources = λ j h. let at = mapped_at (λ s. s.node) t.sources j 0 h in
        let a : (at.0.node < length t.nodes) × LeavesByOwn (owners_of t.ifaces) at.0.node at.0.traffic = all_at (λ s. IsPlaced (length t.nodes) (owners_of t.ifaces) s) t.sources j at.0 at.1 placed in
        part_below _ (subst (λ v. v < length t.nodes) (sym at.2) a.0);
  }

pub owner_is : (t : TopologyValue) (i : ℕ) (x : IfaceValue) → slice_get t.ifaces i ≡ Some x → (net_of t).owner i ≡ x.node
unfolding net_of
owner_is t i x e = get_or-map (λ z. z.node) t.ifaces i x 0 (slice_get_within t.ifaces i x e) ∙ ap (λ z. z.node) (get_or_from_slice_get t.ifaces i x x e)

pub source_node_is : (t : TopologyValue) (j : ℕ) (s : Source) → slice_get t.sources j ≡ Some s → (net_of t).source_node j ≡ s.node
unfolding net_of
source_node_is t j s e = get_or-map (λ z. z.node) t.sources j s 0 (slice_get_within t.sources j s e) ∙ ap (λ z. z.node) (get_or_from_slice_get t.sources j s s e)

pub part_is : (t : TopologyValue) (v : ℕ) (x : NodeValue) → slice_get t.nodes v ≡ Some x → (net_of t).part v ≡ x.partition
unfolding net_of
part_is t v x e = get_or-map (λ z. z.partition) t.nodes v x t.partitions (slice_get_within t.nodes v x e) ∙ ap (λ z. z.partition) (get_or_from_slice_get t.nodes v x x e)

-- the node of a source, read from a list
pub node_read : (t : TopologyValue) (j k : ℕ) (l : List Source) (d : Source) → l ≡ t.sources → k ≡ j → j < length t.sources
    → (net_of t).source_node j ≡ (get_or l k d).node
node_read t j k l d e f h =
    source_node_is t j (get_or t.sources j d) (slice_get-get_or t.sources j d h) ∙ ap (λ z. z.node) (sym (λ i. get_or (e i) (f i) d))

pub node_there : (t : TopologyValue) (j k : ℕ) (l : List Source) (d : Source) → l ≡ t.sources → k ≡ j → j < length t.sources
    → All (λ s. IsPlaced (length t.nodes) (owners_of t.ifaces) s) t.sources → (get_or l k d).node < length t.nodes
unfolding IsPlaced
node_there t j k l d e f h placed =
    let a : ((get_or t.sources j d).node < length t.nodes) × LeavesByOwn (owners_of t.ifaces) (get_or t.sources j d).node (get_or t.sources j d).traffic
    = All-get_or (λ s. IsPlaced (length t.nodes) (owners_of t.ifaces) s) t.sources j d h placed in
    subst (λ z. z.node < length t.nodes) (sym (λ i. get_or (e i) (f i) d)) a.0

-- what a source gives is what the network says
pub source_is : (t : TopologyValue) (j n : ℕ) (s : SourceValue) → source_of t j ≡ Some s → source_at t j n ≡ packet_at s.stop s.traffic n
unfolding source_at
source_is t j n s e = ap (option_and_then (λ z. packet_at z.stop z.traffic n)) e

-- a source that is here gives its first packet, and one that is not gives none
pub first_there : (t : TopologyValue) (part : Option ℕ) (j : ℕ) (s : SourceValue) → is_source_here t part j ≡ true → source_of t j ≡ Some s → first_here t part j ≡ packet_at s.stop s.traffic 0
first_there t part j s e q = ap (λ b. if b then source_at t j 0 else None) e ∙ source_is t j 0 s q

pub first_elsewhere : (t : TopologyValue) (part : Option ℕ) (j : ℕ) → is_source_here t part j ≡ false → first_here t part j ≡ None
first_elsewhere t part j e = ap (λ b. if b then source_at t j 0 else None) e
