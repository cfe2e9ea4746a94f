use Rattle.std.proofs.Common.{◌≡◌, ◌<◌, arith, ap, sym, ◌∙◌}
use Rattle.nm_topology.specs.Topology.{receiving_iface}
use Rattle.nm_sim.specs.Network.{net_of}
use Rattle.nm_book.proofs.Incoming.{ifaces_are, far_end_is, far_end_there}
use Rattle.nm_book.proofs.channels.sender_of.Goals as goal

pub partition_of-requires : goal.partition_of-requires
partition_of-requires c =
    let t = c.args.topology.now in
    let i = receiving_iface t c.args.channel in
    let there : i < (net_of t).ifaces = let e = ifaces_are t in let h = c.channels_are_numbered_by_their_receivers.ensures.there c.args.channel c.requires in omega (arith, e, h) in
    let far = far_end_there (net_of t) c.every_topology_is_a_network.ensures.network i there in
    let same = far_end_is t c.receiver.result c.iface-receiver.result.now c.iface-receiver.ensures in
    let at : (net_of t).far_end c.receiver.result ≡ (net_of t).far_end i = ap (net_of t).far_end c.receiver.ensures in
    let far_end = ap (λ f. f.iface) c.far.ensures in
    let e = ifaces_are t in omega (arith, far, same, at, far_end, e)

pub returns : goal.returns
returns c =
    let t = c.args.topology.now in
    let net = net_of t in
    let i = receiving_iface t c.args.channel in
    let far : c.far.result.iface ≡ net.far_end i =
    ap (λ f. f.iface) c.far.ensures ∙ sym (far_end_is t c.receiver.result c.iface-receiver.result.now c.iface-receiver.ensures) ∙ ap net.far_end c.receiver.ensures in
    c.partition_of.ensures ∙ ap (λ j. net.part (net.owner j)) far
