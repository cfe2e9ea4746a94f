use Rattle.std.proofs.Common.{length, ◌≡◌, ◌<◌, sym, ◌∙◌, subst}
use Rattle.std.specs.Result.{IfOk}
use Rattle.nm_base.specs.declared.event.Origin.TheVariants.{Arrival}
use Rattle.nm_forward.specs.Row.{arrival_row, row_counter}
use Rattle.nm_forward.specs.State.{table_of}
use Rattle.nm_sim.specs.Effects.{ReactsWith}
use Rattle.nm_sim.proofs.Networks.{all_at, owner_is}
use Rattle.nm_sim.proofs.Represents.{iface_node}
use Rattle.nm_sim.proofs.devices.Devices.react_in_place.Goals as goal

pub react_alone-requires-clause-node : goal.react_alone-requires-clause-node
react_alone-requires-clause-node c =
    let z = c.requires.represented in
    let owner = owner_is c.args.topology.now c.args.iface c.iface.result.now c.iface.ensures ∙ sym c.node-node.ensures in
    let within : c.node-node.result < length c.args.topology.now.nodes = subst (λ v. v < length c.args.topology.now.nodes) (sym c.node-node.ensures)
    (all_at (λ x. x.node < length c.args.topology.now.nodes) c.args.topology.now.ifaces c.args.iface c.iface.result.now c.iface.ensures c.accepted_topologies_are_in_order.ensures.order.owners) in
    iface_node c.args.topology.now z.0 _ z.1 c.node-node.result within c.args.iface c.requires.place owner

pub returns-clause-reacts : goal.returns-clause-reacts
returns-clause-reacts c = λ states s.
    let owner = owner_is c.args.topology.now c.args.iface c.iface.result.now c.iface.ensures ∙ sym c.node-node.ensures in
    subst (λ v. IfOk c.react_alone.result (λ h. ReactsWith c.args.topology.now states v (Arrival c.args.iface, c.args.packet) c.react_alone.new.self h.reaction))
    (sym owner) (c.react_alone.ensures.reacts states s)

pub returns-clause-counter : goal.returns-clause-counter
returns-clause-counter c = λ states s.
    let owner = owner_is c.args.topology.now c.args.iface c.iface.result.now c.iface.ensures ∙ sym c.node-node.ensures in
    subst (λ v. IfOk c.react_alone.result (λ h. h.counter ≡ row_counter (arrival_row (table_of c.args.topology.now v) c.args.packet)))
    (sym owner) (c.react_alone.ensures.counter states s)
