use Rattle.std.proofs.Common.{refl}
use Rattle.nm_topology.specs.Topology.{receiving_iface}
use Rattle.nm_book.proofs.laws.network_of.Goals as goal

pub returns : goal.returns
returns c = record {
  network = c.every_topology_is_a_network.ensures.network;
  here = λ d low. (c.channels_are_numbered_by_their_receivers.ensures.inverse (receiving_iface c.args.topology.now d) d (c.channels_are_numbered_by_their_receivers.ensures.there d low)).1 refl;
  numbered = λ p i comes. let found = c.channels_are_those_of_the_network.ensures.numbered p i comes in (found.0, found.1, found.2);
}
