use Rattle.nm_paths.proofs.Nodes.{got-there}
use Rattle.nm_paths.proofs.ways.node_at.Goals as goal

pub returns : goal.returns
returns c =
    got-there c.nodes.result.now c.args.topology.now.nodes c.index.result c.args.node c.get.result c.nodes.ensures c.index.ensures c.get.ensures.lookup
