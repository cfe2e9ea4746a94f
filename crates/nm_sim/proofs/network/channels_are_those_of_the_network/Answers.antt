use Rattle.nm_sim.proofs.Channels.{comes, none, receives}
use Rattle.nm_sim.proofs.network.channels_are_those_of_the_network.Goals as goal

pub returns-clause-numbered : goal.returns-clause-numbered
returns-clause-numbered c =
    let laws = c.accepted_topologies_are_in_order.ensures in
    receives c.args.topology.now laws.order c.every_topology_is_a_network.ensures.network laws.receivers

pub returns-clause-comes : goal.returns-clause-comes
returns-clause-comes c =
    let laws = c.accepted_topologies_are_in_order.ensures in
    comes c.args.topology.now laws.order c.every_topology_is_a_network.ensures.network laws.receivers

pub returns-clause-none : goal.returns-clause-none
returns-clause-none c =
    let laws = c.accepted_topologies_are_in_order.ensures in
    λ p n h. none c.args.topology.now laws.order c.every_topology_is_a_network.ensures.network laws.receivers p n h (c.channels_are_numbered_by_their_receivers.ensures.none n h)
