use Rattle.nm_sim.proofs.Networks.{is_net, is_parted}
use Rattle.nm_sim.proofs.network.every_topology_is_a_network.Goals as goal

pub returns-clause-network : goal.returns-clause-network
returns-clause-network c = is_net c.args.topology.now c.accepted_topologies_are_in_order.ensures.order c.a_node_sends_by_its_own_interfaces.ensures c.source_times_rise.ensures.rise

pub returns-clause-parted : goal.returns-clause-parted
returns-clause-parted c = is_parted c.args.topology.now c.accepted_topologies_are_in_order.ensures.limits c.accepted_topologies_are_in_order.ensures.order c.accepted_topologies_are_in_order.ensures.placed
