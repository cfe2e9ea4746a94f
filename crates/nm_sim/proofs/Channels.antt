-- The channels of a topology are those of its network.
use Rattle.std.proofs.Common.{◌≡◌, Contains, ℕ, ◌<◌, ◌≤◌, ◌==◌, ◌&&◌, not, Bool, true, false, length, Some, slice_get, slice_index, refl, sym, ap, ◌∙◌, subst, arith, ⊎_elim}
use Rattle.std.proofs.lemmas.Bool.Decides.{nat_tests}
use Rattle.std.proofs.lemmas.List.Elements.{Contains-get_or}
use Rattle.std.proofs.lemmas.Option.{get_or_from_slice_get, slice_get_cases, slice_get-get_or}
use Rattle.nm_topology.specs.PartValues.{IfaceValue, NodeValue}
use Rattle.nm_topology.specs.Accepted.{AreReceivers, IsInOrder, IsReceiver, owners_of, partition_at, parts_of}
use Rattle.nm_topology.specs.Topology.{receiving_iface}
use Rattle.nm_topology.specs.TopologyValue.{TopologyValue}
use Rattle.nm_model.specs.Network.{IsNet}
use Rattle.nm_model.specs.Partition.{comes_in, receiver_of}
use Rattle.nm_sim.specs.Network.{far_from, net_of}
use Rattle.nm_sim.proofs.Beginnings.{far_end_is}
use Rattle.nm_sim.proofs.Networks.{all_at, mapped_at, owner_is}

pub part_is : (t : TopologyValue) (v : ℕ) → v < length t.nodes → (net_of t).part v ≡ slice_index (parts_of t.nodes) v
unfolding net_of
part_is t v h =
    let a = mapped_at (λ n. n.partition) t.nodes v t.partitions h in
    let b = mapped_at (λ n. n.partition) t.nodes v 0 h in
    let same : a.0 ≡ b.0 = same_some a.0 b.0 (sym a.1 ∙ b.1) in
    a.2 ∙ ap (λ n. n.partition) same ∙ sym b.2
  where
    same_some : (x y : NodeValue) → Some x ≡ Some y → x ≡ y
    same_some x y e = cc

pub delay_is : (t : TopologyValue) (i : ℕ) (x : IfaceValue) → slice_get t.ifaces i ≡ Some x → (net_of t).delay i ≡ x.far.delay
unfolding net_of
delay_is t i x e = ap (λ o. (far_from i o).delay) e

-- a number that names no interface is its own far end
itself : (t : TopologyValue) → IsNet (net_of t) → (i : ℕ) → length t.ifaces ≤ i → (net_of t).far_end i ≡ i
unfolding net_of
itself t isnet i l = isnet.outside i l

apart : (a b p : ℕ) → ((a == p) && not (b == p)) ≡ true → b ≡ a → ⊥
apart a b p h e = grind (arith, nat_tests, h, e)

is_apart : (a b : ℕ) → (b ≡ a → ⊥) → ((a == a) && not (b == a)) ≡ true
is_apart a b h = grind (arith, nat_tests)

not_both : (a p : ℕ) → ((a == p) && not (a == p)) ≡ false
not_both a p = both (a == p)
  where
    both : (b : Bool) → (b && not b) ≡ false
    both true = refl
    both false = refl

module _ (t : TopologyValue) (order : IsInOrder t.nodes t.ifaces t.links) where
  -- the partition of an interface that is there
  partition_is : (i : ℕ) (x : IfaceValue) → slice_get t.ifaces i ≡ Some x → (net_of t).part ((net_of t).owner i) ≡ partition_at t.nodes t.ifaces i
  unfolding net_of
  partition_is i x e = part_is t (slice_index (owners_of t.ifaces) i)
      (subst (λ v. v < length t.nodes) (sym (owner_is t i x e)) (all_at (λ z. z.node < length t.nodes) t.ifaces i x e order.owners))

  module _ (isnet : IsNet (net_of t)) (are : AreReceivers t.nodes t.ifaces t.receivers) where
    -- what comes into a partition is a channel, and is delayed by something
    pub receives : (p i : ℕ) → comes_in (net_of t) p i ≡ true → (c : ℕ) × (c < length t.receivers) × (receiving_iface t c ≡ i) × (1 ≤ (net_of t).delay i)
    receives p i h = ⊎_elim
        (λ g. there g.0 g.2)
        (λ g. absurd (apart ((net_of t).part ((net_of t).owner i)) ((net_of t).part ((net_of t).owner ((net_of t).far_end i))) p h
        (ap (λ j. (net_of t).part ((net_of t).owner j)) (itself t isnet i g.0))))
        ((slice_get_cases t.ifaces i).1)
      where
        there : (x : IfaceValue) → slice_get t.ifaces i ≡ Some x → (c : ℕ) × (c < length t.receivers) × (receiving_iface t c ≡ i) × (1 ≤ (net_of t).delay i)
        there x e =
            let far = far_end_is t i x e in
            let y = at (order.linked i x e).within in
            let r : IsReceiver t.nodes t.ifaces i = (
              x,
              e,
              λ same. apart ((net_of t).part ((net_of t).owner i)) ((net_of t).part ((net_of t).owner ((net_of t).far_end i))) p h
                  (ap (λ j. (net_of t).part ((net_of t).owner j)) far ∙ partition_is x.far.iface y.0 y.1 ∙ same ∙ sym (partition_is i x e)),
            ) in
            let k : Contains t.receivers i = (are.exactly i).1 r in (
              k.0,
              k.1,
              get_or_from_slice_get t.receivers k.0 i (length t.ifaces) (slice_get-get_or t.receivers k.0 i k.1 ∙ ap Some k.2),
              subst (λ d. 1 ≤ d) (sym (delay_is t i x e)) (are.delayed i x e k),
            )
          where
            at : x.far.iface < length t.ifaces → (y : IfaceValue) × (slice_get t.ifaces x.far.iface ≡ Some y)
            at w = ⊎_elim (λ g. (g.0, g.2)) (λ g. absurd (omega (arith, g.0, w))) ((slice_get_cases t.ifaces x.far.iface).1)

    -- a channel comes into the partition of its receiving interface
    pub comes : (c : ℕ) → c < length t.receivers → comes_in (net_of t) (receiver_of (net_of t) (receiving_iface t c)) (receiving_iface t c) ≡ true
    comes c h =
        let i = receiving_iface t c in
        let r = (are.exactly i).0 (Contains-get_or t.receivers c (length t.ifaces) h) in
        let far = far_end_is t i r.0 r.1 in
        let y = at r.0 (order.linked i r.0 r.1).within in
        is_apart ((net_of t).part ((net_of t).owner i)) ((net_of t).part ((net_of t).owner ((net_of t).far_end i)))
        (λ same. r.2 (sym (ap (λ j. (net_of t).part ((net_of t).owner j)) far ∙ partition_is r.0.far.iface y.0 y.1) ∙ same ∙ partition_is i r.0 r.1))
      where
        at : (x : IfaceValue) → x.far.iface < length t.ifaces → (y : IfaceValue) × (slice_get t.ifaces x.far.iface ≡ Some y)
        at x w = ⊎_elim (λ g. (g.0, g.2)) (λ g. absurd (omega (arith, g.0, w))) ((slice_get_cases t.ifaces x.far.iface).1)

    -- a number past the last channel is that of none
    pub none : (p c : ℕ) → length t.receivers ≤ c → receiving_iface t c ≡ length t.ifaces → comes_in (net_of t) p (receiving_iface t c) ≡ false
    none p c h e =
        let i = receiving_iface t c in
        ap (λ j. ((net_of t).part ((net_of t).owner i) == p) && not ((net_of t).part ((net_of t).owner j) == p)) (itself t isnet i (omega (arith, e)))
        ∙ not_both ((net_of t).part ((net_of t).owner i)) p
