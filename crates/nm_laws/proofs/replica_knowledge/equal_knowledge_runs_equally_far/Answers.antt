use Rattle.std.proofs.Common.{◌≡◌, ℕ, ◌<◌, true, Some, length, refl, sym, subst}
use Rattle.nm_topology.specs.Topology.{channel_from, receiving_iface}
use Rattle.nm_model.specs.Before.{IsCount}
use Rattle.nm_model.specs.Network.{IsNet}
use Rattle.nm_model.specs.Partition.{comes_in}
use Rattle.nm_sim.specs.Network.{net_of}
use Rattle.nm_book.specs.Book.{knowledge, knowledge_of}
use Rattle.nm_book.proofs.Sisters.{back, same_at}
use Rattle.nm_laws.proofs.replica_knowledge.equal_knowledge_runs_equally_far.Goals as goal

pub returns : goal.returns
returns c = λ a b same know first second over_a over_b.
    let t = c.args.topology.now in
    let here : (d : ℕ) → d < length t.receivers → channel_from 0 t.receivers (receiving_iface t d) ≡ Some d =
    λ d low. (c.channels_are_numbered_by_their_receivers.ensures.inverse (receiving_iface t d) d (c.channels_are_numbered_by_their_receivers.ensures.there d low)).1 refl in
    let network : IsNet (net_of a.topology) = subst (λ z. IsNet (net_of z)) (sym same) c.every_topology_is_a_network.ensures.network in
    let alike = same_at a b
    (subst (λ z. (d : ℕ) → d < length z.receivers → channel_from 0 z.receivers (receiving_iface z d) ≡ Some d) (sym same) here)
    (subst (λ z. (i : ℕ) → comes_in (net_of z) a.partition i ≡ true → (d : ℕ) × (d < length z.receivers) × (receiving_iface z d ≡ i)) (sym same)
    (λ i comes. let n = c.channels_are_those_of_the_network.ensures.numbered a.partition i comes in (n.0, n.1, n.2))) know in
    let one : IsCount (net_of a.topology) a.partition (knowledge a) a.events = record { over = over_a; first = first } in
    let other : IsCount (net_of b.topology) b.partition (knowledge b) b.events = record { over = over_b; first = second } in
    (c.equal_knowledge_gives_equal_replicas.ensures (net_of a.topology) network).counts a.partition (knowledge a) (knowledge_of a.topology b.knows) alike a.events b.events
    one (back a b (λ z p. IsCount (net_of z) p (knowledge_of z b.knows) b.events) know.sisters other)
