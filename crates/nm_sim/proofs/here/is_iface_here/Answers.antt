use Rattle.std.proofs.Common.{sym, ap, ◌∙◌}
use Rattle.nm_sim.specs.Network.{is_node_here}
use Rattle.nm_sim.proofs.Networks.{owner_is}
use Rattle.nm_sim.proofs.here.is_iface_here.Goals as goal

pub returns : goal.returns
returns c =
    let owner = owner_is c.args.topology.now c.args.iface c.iface.result.now c.iface.ensures ∙ sym c.node.ensures in
    c.is_node_here.ensures ∙ ap (is_node_here c.args.topology.now c.args.part.now) (sym owner)
