use Rattle.nm_forward.proofs.Owning.{reaction-own}
use Rattle.nm_forward.proofs.laws.a_node_sends_by_its_own_interfaces.Goals as goal

pub returns : goal.returns
returns c = λ v n o x.
    reaction-own c.args.topology.now c.accepted_topologies_are_in_order.ensures.order v n x
    c.accepted_topologies_are_in_order.ensures.placed o
