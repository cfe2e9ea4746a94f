use Rattle.std.proofs.Common.{sym, subst}
use Rattle.nm_sim.specs.Network.{net_of}
use Rattle.nm_laws.specs.Transmissions.{AreOfPackets}
use Rattle.nm_laws.proofs.Links.{have_octets}
use Rattle.nm_laws.proofs.transmissions.packets_have_octets.Goals as goal

pub returns-clause-events : goal.returns-clause-events
returns-clause-events c = λ n.
    let net = net_of c.args.topology.now in
    let ok = c.every_topology_is_a_network.ensures.network in
    let sources = c.source_times_rise.ensures in
    have_octets c.args.topology.now ok c.accepted_topologies_are_in_order.ensures.limits sources.fit sources.least sources.greatest c.a_sent_packet_fits.ensures
    (λ m. (c.every_state_is_orderly.ensures net ok).whole m) (λ m. (c.what_starts_arrives.ensures net ok).transmitting m) n

pub returns-clause-trace : goal.returns-clause-trace
returns-clause-trace c = λ until records h. subst AreOfPackets (sym h.2) (returns-clause-events c h.0)
