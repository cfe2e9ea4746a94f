use Rattle.std.proofs.Common.{sym, ap, ◌∙◌, ◌==◌}
use Rattle.nm_sim.specs.Network.{is_node_here}
use Rattle.nm_sim.proofs.Networks.{part_is}
use Rattle.nm_sim.proofs.here.is_node_here.Goals as goal

pub returns-in-Some : goal.returns-in-Some
returns-in-Some c =
    let part = part_is c.args.topology.now c.args.node c.node.result.now c.node.ensures ∙ sym c.partition.ensures in
    c.eq.ensures ∙ ap (λ p. p == c.in-Some.part) (sym part) ∙ ap (λ o. is_node_here c.args.topology.now o c.args.node) (sym c.in-Some.is)
