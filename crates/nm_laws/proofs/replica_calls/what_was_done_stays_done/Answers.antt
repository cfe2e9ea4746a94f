use Rattle.std.proofs.Common.{sym, subst}
use Rattle.nm_knowledge.specs.Octets.{same_octets}
use Rattle.nm_model.specs.Knowledge.{nothing_known}
use Rattle.nm_model.specs.Network.{IsNet}
use Rattle.nm_sim.specs.Network.{net_of}
use Rattle.nm_topology.specs.Topology.{receiving_iface}
use Rattle.nm_book.specs.Book.{knowledge, knowledge_of}
use Rattle.nm_laws.proofs.Calling.{all_follow, records_stay, sent_stays, under_all}
use Rattle.nm_laws.proofs.replica_calls.what_was_done_stays_done.Goals as goal

pub returns : goal.returns
returns c = λ b last calls same order within path.
    let under = c.under_laws.ensures in
    let accept = c.accept_laws.ensures in
    let faults = c.join_faults_are_right.ensures in
    let equal = c.packets_are_told_apart.ensures.same in
    let apart = c.packets_are_told_apart.ensures.apart in
    let network : IsNet (net_of b.topology) = subst (λ z. IsNet (net_of z)) (sym same) c.every_topology_is_a_network.ensures.network in
    let follow = all_follow under.reflexive (accept.data_adds same_octets) accept.null_adds (accept.data_keeps same_octets) accept.null_keeps
    (λ a d ka kd none. (faults.joined a d (faults.only same_octets equal apart a d ka kd none)).0)
    c.join_laws.ensures.keeps under.transitive b last calls order path in
    let none = under.reflexive nothing_known in
    let stays = c.what_was_done_stays.ensures in
    let more = under_all b last follow none within in (
      records_stay b last follow none within
          (λ k m le inside. (stays (net_of b.topology) network b.partition (knowledge b) (knowledge_of b.topology last.knows) more k m le inside).records),
      (λ d. sent_stays b last follow none within d
          (λ k m le inside. (stays (net_of b.topology) network b.partition (knowledge b) (knowledge_of b.topology last.knows) more k m le inside).sent (receiving_iface b.topology d))),
      follow.handed,
      follow.events,
      follow.adds.order,
    )
