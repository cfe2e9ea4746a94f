use Rattle.std.proofs.Common.{List, ◌≡◌, ℕ, ◌<◌, true, Some, length, slice_get, slice_index_or, refl, sym, ◌∙◌, ap, subst}
use Rattle.nm_topology.specs.Topology.{channel_from, receiving_iface}
use Rattle.nm_knowledge.specs.Octets.{same_octets}
use Rattle.nm_model.specs.Before.{history}
use Rattle.nm_model.specs.Knowledge.{nothing_known}
use Rattle.nm_model.specs.Network.{IsNet}
use Rattle.nm_model.specs.Partition.{comes_in}
use Rattle.nm_model.specs.Replica.{IsWithin}
use Rattle.nm_model.specs.World.{Step, replica_after}
use Rattle.nm_sim.specs.Network.{net_of}
use Rattle.nm_book.specs.Book.{BookValue, knowledge, knowledge_of}
use Rattle.nm_rounds.specs.World.{IsReplicaOf}
use Rattle.nm_rounds.specs.Replay.{first_steps}
use Rattle.nm_book.proofs.Sisters.{over}
use Rattle.nm_rounds.specs.Headline.{IsHistory, IsTrue}
use Rattle.nm_rounds.proofs.Headlines.{are_equal, fine_at, have_join, is_true, place_of}
use Rattle.nm_rounds.proofs.Standing.{channel_here}
use Rattle.nm_rounds.proofs.laws.the_headline_holds_of_every_replay.Goals as goal

pub returns : goal.returns
returns c = λ steps answers books ending h.
    let t = c.args.topology.now in
    let net = net_of t in
    let ok = c.every_topology_is_a_network.ensures.network in
    let same = c.packets_are_told_apart.ensures.same in
    let did = h.did in
    let law = λ (steps : List Step). c.prefix_theorem.ensures net ok same_octets same steps in
    let here : (d : ℕ) → d < length t.receivers → channel_from 0 t.receivers (receiving_iface t d) ≡ Some d =
    channel_here t c.channels_are_numbered_by_their_receivers.ensures.inverse c.channels_are_numbered_by_their_receivers.ensures.there in
    let at : (i : ℕ) (b : BookValue) → slice_get books i ≡ Some b → IsReplicaOf t (place_of i).0 (place_of i).1 b (replica_after net same_octets did (place_of i).0 (place_of i).1) =
    λ i b e. let q = place_of i in h.replicas.each q.0 q.1 b q.2 (ap (slice_get books) (sym q.3) ∙ e) in
    let within : (i : ℕ) (b : BookValue) → slice_get books i ≡ Some b → IsWithin (net_of b.topology) b.partition (knowledge b) b.events =
    λ i b e. let q = place_of i in let is = at i b e in
    subst (λ z. IsWithin (net_of z) b.partition (knowledge_of z b.knows) b.events) (sym is.topology)
    (subst (λ z. IsWithin net z (knowledge_of t b.knows) b.events) (sym is.partition)
    (subst (λ z. IsWithin net q.0 z b.events) (ap (λ z. z.knowledge) (sym is.replica) ∙ ap (λ z. knowledge_of z b.knows) is.topology)
    (subst (λ z. IsWithin net q.0 (replica_after net same_octets did q.0 q.1).knowledge z) (ap (λ z. z.ran) (sym is.replica)) ((law did).replicas q.0 q.1).within))) in
    let last = (c.times_pass.ensures net ok).before net.stop in
    let true_of : (i : ℕ) (b : BookValue) → slice_get books i ≡ Some b → IsTrue t b =
    λ i b e.
    let q = place_of i in
    let reached = (c.cut_law.ensures net ok q.0 (replica_after net same_octets did q.0 q.1).knowledge ((law did).replicas q.0 q.1).valid).reached
    (replica_after net same_octets did q.0 q.1).ran last.0 ((law did).replicas q.0 q.1).within last.1 in
    is_true t did q.0 q.1 b (at i b e) here c.channels_are_those_of_the_network.ensures.none ((law did).replicas q.0 q.1).within ((law did).replicas q.0 q.1).valid
    ((law did).replicas q.0 q.1).prefix ((law did).replicas q.0 q.1).exact ((law did).replicas q.0 q.1).agrees ((law did).replicas q.0 q.1).sent
    ((law did).replicas q.0 q.1).promised (c.safe_time_is_the_least.ensures.stop net q.0 (replica_after net same_octets did q.0 q.1).knowledge) (reached.0, reached.2) in
    record {
      true_books = true_of;
      no_refusals = fine_at t answers _ h.answered (law (first_steps t steps (length answers))).only_gaps;
      equal_books = λ i j a b e f k.
          let is = at i a e in
          let ok_a : IsNet (net_of a.topology) = subst (λ z. IsNet (net_of z)) (sym is.topology) ok in
          are_equal a b k (subst (λ z. (d : ℕ) → d < length z.receivers → channel_from 0 z.receivers (receiving_iface z d) ≡ Some d) (sym is.topology) here)
          (subst (λ z. (i : ℕ) → comes_in (net_of z) a.partition i ≡ true → (d : ℕ) × (d < length z.receivers) × (receiving_iface z d ≡ i)) (sym is.topology)
          (λ i comes. let n = c.channels_are_those_of_the_network.ensures.numbered a.partition i comes in (n.0, n.1, n.2)))
          (within i a e) (within j b f)
          (λ K J e. (c.equal_knowledge_gives_equal_states.ensures (net_of a.topology) ok_a a.partition K J e).states) (λ K J e. (c.equal_knowledge_gives_equal_states.ensures (net_of a.topology) ok_a a.partition K J e).promises)
          ((c.equal_knowledge_gives_equal_replicas.ensures (net_of a.topology) ok_a).counts a.partition);
      joins = λ i j d a b e f sisters comes.
          let u = slice_index_or a.knows d nothing_known in
          let v = slice_index_or b.knows d nothing_known in
          let H = history net last.0 (receiving_iface t d) in
          let is : IsHistory t d H = (last.0, last.1, refl) in
          let first = (true_of i a e).knowledge d H comes is in
          let second = (true_of j b f).knowledge d H (over a b (λ z p. comes_in (net_of z) p (receiving_iface z d) ≡ true) sisters comes) is in
          have_join u v H ((c.keys_rise.ensures net ok last.0).times (receiving_iface t d)) first second
          (c.join_laws.ensures.left H u v first second) (c.join_laws.ensures.right H u v first second) (c.join_laws.ensures.least u v);
    }
