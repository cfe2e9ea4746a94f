use Rattle.nm_sim.proofs.Networks.{node_read, node_there}
use Rattle.nm_sim.proofs.here.node_of_source.Goals as goal

pub returns-clause-there : goal.returns-clause-there
returns-clause-there c = node_there c.args.topology.now c.args.source c.index.result c.sources.result.now _ c.sources.ensures c.index.ensures c.requires c.accepted_topologies_are_in_order.ensures.placed

pub returns-clause-node : goal.returns-clause-node
returns-clause-node c = node_read c.args.topology.now c.args.source c.index.result c.sources.result.now _ c.sources.ensures c.index.ensures c.requires
