-- Devices that represent the states of nodes and ports.
use Rattle.std.proofs.Common.{◌≡◌, ◌≢◌, ℕ, ◌+◌, ◌<◌, ◌==◌, Bool, true, false, cond, List, [], ◌∷◌, ◌++◌, length, Option, Some, None, slice_get, slice_set, refl, sym, ap, ◌∙◌, subst, arith, length-set}
use Rattle.std.proofs.lemmas.Bool.Decides.{nat_tests}
use Rattle.nm_topology.specs.PartValues.{IfaceValue}
use Rattle.nm_topology.specs.TopologyValue.{TopologyValue}
use Rattle.nm_model.specs.Lists.{set_at}
use Rattle.nm_model.specs.Offers.{offering_at}
use Rattle.nm_model.specs.Port.{Busy, Port, idle_port, offered, completed, next_transmitting}
use Rattle.nm_forward.specs.State.{NodeStateValue, table_of}
use Rattle.nm_traffic.specs.Source.{source_of}
use Rattle.nm_base.specs.Count.{saturated}
use Rattle.nm_iface.specs.PortValue.{PortValue, has_room, takes, with_port}
use Rattle.nm_sim.specs.Network.{far_from, far_of, is_iface_here, is_node_here, is_source_here, queue_from, queue_of, net_of}
use Rattle.nm_sim.specs.Devices.{DeviceStates, DevicesValue, IsNodeOf, IsPortOf, DevicesRepresent}
use Rattle.nm_sim.specs.Tables.{AllHere, IsMember}
use Rattle.nm_sim.proofs.Tables.{at_there, each_there, here_set, member_at}

pub first_port : (t : TopologyValue) (i : ℕ) (x : IfaceValue) (w : PortValue) → slice_get t.ifaces i ≡ Some x
    → w.limit ≡ record { packets = x.queue; octets = x.queue_octets } → w.rate ≡ x.far.rate → w.delay ≡ x.far.delay → w.busy ≡ None → w.dropped ≡ 0 → IsPortOf t i w idle_port
first_port t i x w e limit rate delay busy dropped = record {
  limit = limit ∙ sym (ap queue_from e);
  rate = rate ∙ sym (ap (λ o. (far_from i o).rate) e);
  delay = delay ∙ sym (ap (λ o. (far_from i o).delay) e);
  busy = busy;
  dropped = dropped;
}

-- the count of drops of a port stops at the greatest of its type; nothing else depends on it
abbrev pub IsSameTurn : Port (List ℕ) × Option (List ℕ) → Port (List ℕ) × Option (List ℕ) → Type 0
IsSameTurn a b = (a.0.busy ≡ b.0.busy) × (saturated a.0.dropped ≡ saturated b.0.dropped) × (a.1 ≡ b.1)

counted_twice : (n : ℕ) → saturated (saturated n) ≡ saturated n
counted_twice n = omega arith

counted_more : (n : ℕ) → saturated (saturated n + 1) ≡ saturated (n + 1)
counted_more n = omega arith

offered_counted : (room : List (List ℕ) → List ℕ → Bool) (tx : List ℕ → ℕ) (now : ℕ) (x : List ℕ) (n : ℕ) (b : Option (Busy (List ℕ)))
    → IsSameTurn (offered room tx now x (saturated n) b) (offered room tx now x n b)
offered_counted room tx now x n None = (refl, counted_twice n, refl)
offered_counted room tx now x n (Some b) = elim (room b.waiting x) as (λ r. IsSameTurn
    (cond r (record { busy = Some (record { completes = b.completes; waiting = b.waiting ++ x ∷ [] }); dropped = saturated n }, None) (record { busy = Some b; dropped = saturated n + 1 }, None))
    (cond r (record { busy = Some (record { completes = b.completes; waiting = b.waiting ++ x ∷ [] }); dropped = n }, None) (record { busy = Some b; dropped = n + 1 }, None))) [
      | true ↦ (refl, counted_twice n, refl)
      | false ↦ (refl, counted_more n, refl)
    ]

completed_counted : (tx : List ℕ → ℕ) (now n : ℕ) (b : Option (Busy (List ℕ))) → IsSameTurn (completed tx now (saturated n) b) (completed tx now n b)
completed_counted tx now n None = (refl, counted_twice n, refl)
completed_counted tx now n (Some b) = go b.waiting
  where
    go : (waiting : List (List ℕ)) → IsSameTurn (next_transmitting tx now (saturated n) waiting) (next_transmitting tx now n waiting)
    go [] = (refl, counted_twice n, refl)
    go (x ∷ waiting) = (refl, counted_twice n, refl)

module _ (t : TopologyValue) (i : ℕ) (w : PortValue) (P : Port (List ℕ)) (is : IsPortOf t i w P) (now : ℕ) where
  -- a port and what it represents take a packet alike
  pub same_offer : (x : List ℕ) → IsSameTurn (offered (has_room w.limit) (takes w.rate) now x w.dropped w.busy)
      (offered ((net_of t).room i) ((net_of t).tx i) now x P.dropped P.busy)
  unfolding net_of
  same_offer x = subst (λ a. IsSameTurn a (offered (has_room (queue_of t i)) (takes (far_of t i).rate) now x P.dropped P.busy))
      (sym (λ k. offered (has_room (is.limit k)) (takes (is.rate k)) now x (is.dropped k) (is.busy k)))
      (offered_counted (has_room (queue_of t i)) (takes (far_of t i).rate) now x P.dropped P.busy)

  -- and it becomes the same of a packet
  pub same_offering : (x : List ℕ) → offering_at (has_room w.limit) i x w.busy ≡ offering_at ((net_of t).room i) i x P.busy
  unfolding net_of
  same_offering x = λ k. offering_at (has_room (is.limit k)) i x (is.busy k)

  -- and go on alike
  pub same_done : IsSameTurn (completed (takes w.rate) now w.dropped w.busy) (completed ((net_of t).tx i) now P.dropped P.busy)
  unfolding net_of
  same_done = subst (λ a. IsSameTurn a (completed (takes (far_of t i).rate) now P.dropped P.busy))
      (sym (λ k. completed (takes (is.rate k)) now (is.dropped k) (is.busy k)))
      (completed_counted (takes (far_of t i).rate) now P.dropped P.busy)

  -- a port after a turn represents what it represented, after that turn
  pub port_after : (a b : Port (List ℕ) × Option (List ℕ)) (room : ℕ) → IsSameTurn a b → IsPortOf t i (with_port w a.0 room) b.0
  port_after a b room same = record { limit = is.limit; rate = is.rate; delay = is.delay; busy = same.0; dropped = same.1 }

pub set_here : {A : Type 0} (f : ℕ → A) (i : ℕ) (v : A) → set_at f i v i ≡ v
unfolding set_at
set_here f i v = grind (arith, nat_tests)

pub set_there : {A : Type 0} (f : ℕ → A) (i : ℕ) (v : A) (j : ℕ) → j ≢ i → set_at f i v j ≡ f j
unfolding set_at
set_there f i v j h = go (j == i) refl
  where
    go : (b : Bool) → (j == i) ≡ b → cond b v (f j) ≡ f j
    go true e = absurd (h (grind (arith, nat_tests, e)))
    go false e = refl

-- to set what is there changes nothing
pub set_same : {A : Type 0} (f : ℕ → A) (i j : ℕ) → set_at f i (f i) j ≡ f j
unfolding set_at
set_same f i j = go (j == i) refl
  where
    go : (b : Bool) → (j == i) ≡ b → cond b (f i) (f j) ≡ f j
    go true e = ap f (sym (grind (arith, nat_tests, e)))
    go false e = refl

module _ (t : TopologyValue) (states : DeviceStates) (d e : DevicesValue) (s : DevicesRepresent t states d) where
  -- one port changes
  pub port_turned : (i : ℕ) (w : PortValue) (P : Port (List ℕ)) → e.nodes ≡ d.nodes → e.ports ≡ slice_set d.ports i (Some w) → e.sources ≡ d.sources
      → is_iface_here t states.part i ≡ true → IsPortOf t i w P → DevicesRepresent t (record states { port = set_at states.port i P }) e
  port_turned i w P nodes ports sources here is = record {
    node_count = ap length nodes ∙ s.node_count;
    nodes = subst (λ l. AllHere (is_node_here t states.part) (λ v n. IsNodeOf t v n (states.node v)) l) (sym nodes) s.nodes;
    port_count = ap length ports ∙ length-set d.ports i (Some w) ∙ s.port_count;
    ports = subst (λ l. AllHere (is_iface_here t states.part) (λ j v. IsPortOf t j v (set_at states.port i P j)) l) (sym ports)
        (here_set (is_iface_here t states.part) (λ j v. IsPortOf t j v (states.port j)) (λ j v. IsPortOf t j v (set_at states.port i P j)) d.ports i w s.ports
        (λ j v h g. subst (λ Q. IsPortOf t j v Q) (sym (set_there states.port i P j h)) g)
        here (subst (λ Q. IsPortOf t i w Q) (sym (set_here states.port i P)) is));
    source_count = ap length sources ∙ s.source_count;
    sources = subst (λ l. AllHere (is_source_here t states.part) (λ j z. source_of t j ≡ Some z) l) (sym sources) s.sources;
  }

  -- one node changes, and keeps what the topology says of it
  pub node_changed : (v : ℕ) (n : NodeStateValue) → e.nodes ≡ slice_set d.nodes v (Some n) → e.ports ≡ d.ports → e.sources ≡ d.sources
      → is_node_here t states.part v ≡ true → n.table ≡ table_of t v → DevicesRepresent t (record states { node = set_at states.node v n }) e
  node_changed v n nodes ports sources here table = record {
    node_count = ap length nodes ∙ length-set d.nodes v (Some n) ∙ s.node_count;
    nodes = subst (λ l. AllHere (is_node_here t states.part) (λ j m. IsNodeOf t j m (set_at states.node v n j)) l) (sym nodes)
        (here_set (is_node_here t states.part) (λ j m. IsNodeOf t j m (states.node j)) (λ j m. IsNodeOf t j m (set_at states.node v n j)) d.nodes v n s.nodes
        (λ j m h g. (g.0 ∙ sym (set_there states.node v n j h), g.1))
        here (sym (set_here states.node v n), table));
    port_count = ap length ports ∙ s.port_count;
    ports = subst (λ l. AllHere (is_iface_here t states.part) (λ j w. IsPortOf t j w (states.port j)) l) (sym ports) s.ports;
    source_count = ap length sources ∙ s.source_count;
    sources = subst (λ l. AllHere (is_source_here t states.part) (λ j z. source_of t j ≡ Some z) l) (sym sources) s.sources;
  }

module _ (t : TopologyValue) (states : DeviceStates) (d : DevicesValue) (s : DevicesRepresent t states d) (v : ℕ) (within : v < length t.nodes) where
  node_member : is_node_here t states.part v ≡ true → IsMember (slice_get d.nodes v)
  node_member here = each_there (is_node_here t states.part) (λ u n. IsNodeOf t u n (states.node u)) d.nodes s.nodes v (omega (arith, within, s.node_count)) here

  -- the node of an interface that has a port
  pub iface_node : (i : ℕ) → IsMember (slice_get d.ports i) → (net_of t).owner i ≡ v → IsMember (slice_get d.nodes v)
  iface_node i m e =
      let w = member_at (slice_get d.ports i) m in
      let p = at_there (is_iface_here t states.part) (λ j x. IsPortOf t j x (states.port j)) d.ports s.ports i w.0 w.1 in
      node_member (ap (is_node_here t states.part) (sym e) ∙ p.0)

  -- the node of a source that is here
  pub source_node : (j : ℕ) → IsMember (slice_get d.sources j) → (net_of t).source_node j ≡ v → IsMember (slice_get d.nodes v)
  source_node j m e =
      let w = member_at (slice_get d.sources j) m in
      let p = at_there (is_source_here t states.part) (λ k x. source_of t k ≡ Some x) d.sources s.sources j w.0 w.1 in
      node_member (ap (is_node_here t states.part) (sym e) ∙ p.0)
