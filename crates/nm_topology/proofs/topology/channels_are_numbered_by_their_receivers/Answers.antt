use Rattle.std.proofs.Common.{length}
use Rattle.nm_topology.proofs.Channels.{numbered, comes_in, comes_nowhere}
use Rattle.nm_topology.proofs.topology.channels_are_numbered_by_their_receivers.Goals as goal

pub returns-clause-inverse : goal.returns-clause-inverse
returns-clause-inverse c =
    numbered c.args.topology.now.receivers (length c.args.topology.now.ifaces) c.accepted_topologies_are_in_order.ensures.receivers.rising

pub returns-clause-there : goal.returns-clause-there
returns-clause-there c =
    comes_in c.args.topology.now.nodes c.args.topology.now.ifaces c.args.topology.now.receivers c.accepted_topologies_are_in_order.ensures.receivers

pub returns-clause-none : goal.returns-clause-none
returns-clause-none c = comes_nowhere c.args.topology.now.receivers (length c.args.topology.now.ifaces)
