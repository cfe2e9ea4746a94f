use Rattle.std.proofs.Common.{◌≡◌, ◌<◌, ap, ◌∙◌, arith}
use Rattle.nm_topology.specs.Topology.{receiving_iface}
use Rattle.nm_sim.specs.Network.{net_of}
use Rattle.nm_book.proofs.Incoming.{ifaces_are, far_end_there}
use Rattle.nm_book.proofs.promise.sender.Goals as goal

pub returns-clause-there : goal.returns-clause-there
returns-clause-there c =
    let t = c.args.topology.now in
    let i = receiving_iface t c.args.channel in
    let e = ifaces_are t in
    let h = c.channels_are_numbered_by_their_receivers.ensures.there c.args.channel c.requires in
    let there : i < (net_of t).ifaces = omega (arith, e, h) in
    let far = far_end_there (net_of t) c.every_topology_is_a_network.ensures.network i there in
    let same : c.link_of.result.iface ≡ (net_of t).far_end i = c.link_of.ensures.iface ∙ ap (net_of t).far_end c.receiver.ensures in
    omega (arith, e, far, same)

pub returns-clause-value : goal.returns-clause-value
returns-clause-value c = c.link_of.ensures.iface ∙ ap (net_of c.args.topology.now).far_end c.receiver.ensures
