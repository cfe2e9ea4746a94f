-- What a node does with a packet.
use Rattle.std.proofs.Common.{◌≡◌, ℕ, true, false, cond, ◌==◌, List, Option, Some, None, slice_get, slice_set, refl, sym, ap, ◌∙◌, subst, arith}
use Rattle.std.specs.Option.{IfSome}
use Rattle.nm_base.specs.declared.event.Origin.{Origin}
use Rattle.nm_base.specs.declared.event.Origin.TheVariants.{Arrival, Source as FromSource}
use Rattle.nm_topology.specs.declared.traffic.Source.{Source}
use Rattle.nm_topology.specs.declared.traffic.Traffic.{Traffic}
use Rattle.nm_topology.specs.declared.traffic.Traffic.TheVariants.{Cbr, Echo, Raw}
use Rattle.nm_topology.specs.PartValues.{NodeValue}
use Rattle.nm_topology.specs.TopologyValue.{TopologyValue}
use Rattle.nm_model.specs.Lists.{set_at}
use Rattle.nm_forward.specs.State.{IsIfaceOf, NodeStateValue, table_of, table_from}
use Rattle.nm_forward.specs.Originate.{Consequence, Nothing, Counts, Sends, Originates, concluded}
use Rattle.nm_forward.specs.declared.reaction.Reaction.{Reaction}
use Rattle.nm_forward.specs.declared.reaction.Reaction.TheVariants as sent
use Rattle.nm_forward.specs.Reaction.{arrived, handed, handed_by, reaction}
use Rattle.nm_forward.specs.Reacting.{IsReaction, IsSent, iface_of}
use Rattle.nm_sim.specs.Devices.{DeviceStates, DevicesValue, DevicesRepresent, IsNodeOf, IsPortOf}
use Rattle.nm_sim.specs.Network.{is_iface_here, is_node_here, net_of}
use Rattle.nm_sim.specs.Tables.{IsMember}
use Rattle.nm_sim.proofs.Tables.{at_there, each_there}
use Rattle.nm_sim.specs.Effects.{Reacts, ReactsWith}
use Rattle.nm_sim.proofs.Represents.{node_changed}

concluded_keeps : (c : Consequence) (n : NodeStateValue) → (concluded c n).0.table ≡ n.table
concluded_keeps Nothing n = refl
concluded_keeps (Counts c) n = refl
concluded_keeps (Sends via x) n = refl
concluded_keeps (Originates via x) n = refl

handed_keeps : (t : TopologyValue) (v : ℕ) (n : NodeStateValue) (o : Option Source) (x : List ℕ) → (handed_by t v n o x).0.table ≡ n.table
handed_keeps t v n None x = refl
handed_keeps t v n (Some s) x = elim (s.node == v) as (λ b. (cond b (handed t.ifaces (table_of t v) n s.traffic x) (n, None)).0.table ≡ n.table) [
  | true ↦ take s.traffic
  | false ↦ refl
]
  where
    take : (traffic : Traffic) → (handed t.ifaces (table_of t v) n traffic x).0.table ≡ n.table
    take (Cbr c) = concluded_keeps _ n
    take (Echo e) = concluded_keeps _ n
    take (Raw r) = refl

-- a node keeps what the topology says of it
pub keeps_table : (t : TopologyValue) (v : ℕ) (n : NodeStateValue) (o : Origin) (x : List ℕ) → (reaction t v n o x).0.table ≡ n.table
unfolding reaction arrived
keeps_table t v n (Arrival i) x = concluded_keeps _ _
keeps_table t v n (FromSource j) x = handed_keeps t v n (slice_get t.sources j) x

table_node : (t : TopologyValue) (v : ℕ) → (table_of t v).node ≡ v
unfolding table_of
table_node t v = go (slice_get t.nodes v)
  where
    go : (o : Option NodeValue) → (table_from v t.ifaces o).node ≡ v
    go None = refl
    go (Some n) = refl

module _ (t : TopologyValue) (states : DeviceStates) (d e : DevicesValue) (s : DevicesRepresent t states d) (v : ℕ) (n : NodeStateValue)
    (here : slice_get d.nodes v ≡ Some (Some n)) where
  -- the node is here, and in the state that it has there
  pub node_is : (is_node_here t states.part v ≡ true) × IsNodeOf t v n (states.node v)
  node_is = at_there (is_node_here t states.part) (λ u m. IsNodeOf t u m (states.node u)) d.nodes s.nodes v n here

  number_is : n.table.node ≡ v
  number_is = ap (λ z. z.node) node_is.1.1 ∙ table_node t v

  pub table_is : n.table ≡ table_of t n.table.node
  table_is = node_is.1.1 ∙ ap (table_of t) (sym number_is)

  pub reacts_by : (m : NodeStateValue) (o : Origin) (x : List ℕ) (sent : Option (ℕ × List ℕ)) → (m, sent) ≡ reaction t n.table.node n o x
      → e.nodes ≡ slice_set d.nodes v (Some m) → e.ports ≡ d.ports → e.sources ≡ d.sources → Reacts t states v (o, x) e sent
  reacts_by m o x sent q nodes ports sources =
      let r : ◌≡◌ {A = NodeStateValue × Option (ℕ × List ℕ)} (m, sent) (reaction t v (states.node v) o x) = q ∙ (λ k. reaction t (number_is k) (node_is.1.0 k) o x) in
      let table : m.table ≡ table_of t v = ap (λ z. z.0.table) q ∙ keeps_table t n.table.node n o x ∙ node_is.1.1 in
      record {
        represented = subst (λ z. DevicesRepresent t (record states { node = set_at states.node v z }) e) (ap (λ z. z.0) r) (node_changed t states d e s v m nodes ports sources node_is.0 table);
        sends = ap (λ z. z.1) r;
      }

  -- with what it sends, or what the port there drops
  pub reacts_with : (m : NodeStateValue) (o : Origin) (x : List ℕ) (r : Reaction)
      → IsReaction d.ports r m (reaction t n.table.node n o x)
      → e.nodes ≡ slice_set d.nodes v (Some m) → e.ports ≡ d.ports → e.sources ≡ d.sources
      → ReactsWith t states v (o, x) e r
  reacts_with m o x r q nodes ports sources =
      let sent = (reaction t n.table.node n o x).1 in (
        sent,
        subst (λ z. IsSent z r sent) (sym ports) q.1,
        reacts_by m o x sent (λ k. (q.0 k, sent)) nodes ports sources,
      )

  -- the interfaces of a node that is here have ports
  own_port : (i : ℕ) → IsIfaceOf t.ifaces v i → IsMember (slice_get d.ports i)
  unfolding net_of
  own_port i own = each_there (is_iface_here t states.part) (λ j w. IsPortOf t j w (states.port j)) d.ports s.ports i (omega (arith, own.0, s.port_count))
      (ap (is_node_here t states.part) own.1 ∙ node_is.0)

  -- so it sends by an interface that is here
  pub sends_by_own : (o : Origin) (x : List ℕ) (r : Reaction)
      → ((v : ℕ) (n : NodeStateValue) (o : Origin) (x : List ℕ) (s : ℕ × List ℕ) → (reaction t v n o x).1 ≡ Some s → IsIfaceOf t.ifaces v s.0)
      → IsSent d.ports r (reaction t n.table.node n o x).1 → IfSome (iface_of r) (λ i. IsMember (slice_get d.ports i))
  sends_by_own o x r own q = go r q
    where
      leaves : (via : ℕ) (y : List ℕ) → (reaction t n.table.node n o x).1 ≡ Some (via, y) → IsMember (slice_get d.ports via)
      leaves via y e = own_port via (subst (λ u. IsIfaceOf t.ifaces u via) number_is (own n.table.node n o x (via, y) e))

      go : (a : Reaction) → IsSent d.ports a (reaction t n.table.node n o x).1 → IfSome (iface_of a) (λ i. IsMember (slice_get d.ports i))
      go sent.Nothing p = tt
      go (sent.Send via twin) p = leaves via twin.packet p
      go (sent.Refused via) p = leaves via p.0 p.1
      go (sent.Pass via x) p = leaves via x p
