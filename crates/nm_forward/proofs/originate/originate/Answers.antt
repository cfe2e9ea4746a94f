use Rattle.std.proofs.Common.{◌≡◌, Some}
use Rattle.nm_forward.specs.Routes.{route_of}
use Rattle.nm_forward.proofs.Longest.{own_via}
use Rattle.nm_forward.proofs.originate.originate.Goals as goal

pub iface-requires : goal.iface-requires
iface-requires c =
    let table = c.args.node.state.now.table in
    let to = c.args.draft.now.destination in
    let route : route_of table.routes to ≡ Some c.in-Some.via = cc in
    (own_via c.args.node.topology.now c.accepted_topologies_are_in_order.ensures.order
    table c.args.node.known to c.in-Some.via route).0
