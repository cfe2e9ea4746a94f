use Rattle.std.proofs.Common.{◌≡◌, subst}
use Rattle.nm_topology.specs.Topology.{receiving_iface}
use Rattle.nm_model.specs.Promise.{promise}
use Rattle.nm_model.specs.Replica.{from_scratch}
use Rattle.nm_sim.specs.Network.{net_of}
use Rattle.nm_book.specs.Book.{knowledge, knowledge_of, promise_on, state_of}
use Rattle.nm_book.proofs.Sisters.{over, same_at}
use Rattle.nm_book.proofs.laws.equal_knowledge_gives_equal_replicas.Goals as goal

pub returns : goal.returns
returns c = λ h e.
    let a = c.args.first.now in
    let b = c.args.second.now in
    let is = c.replica_of.ensures.topology in
    let same = same_at a b is.here (is.numbered a.partition) h in
    let law = c.equal_knowledge_gives_equal_states.ensures (net_of a.topology) is.network a.partition (knowledge a) (knowledge_of a.topology b.knows) same in
    record {
      states = over a b (λ t p. from_scratch (net_of t) p (knowledge_of t b.knows) b.events ≡ state_of a) h.sisters
          (subst (λ k. from_scratch (net_of a.topology) a.partition (knowledge_of a.topology b.knows) k ≡ state_of a) e (law.states a.events c.replica_of.ensures.within));
      promises = λ kind d. over a b (λ t p. promise (net_of t) kind p (knowledge_of t b.knows) b.events (receiving_iface t d) ≡ promise_on kind a d) h.sisters
          (subst (λ k. promise (net_of a.topology) kind a.partition (knowledge_of a.topology b.knows) k (receiving_iface a.topology d) ≡ promise_on kind a d) e
          (law.promises kind a.events (receiving_iface a.topology d) c.replica_of.ensures.within));
    }
