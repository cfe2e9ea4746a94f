use Rattle.std.proofs.Common.{◌≡◌, drop}
use Rattle.nm_topology.specs.Topology.{channel_from}
use Rattle.nm_topology.proofs.topology.Topology.channel_of.Given as goal

abbrev pub invariant-loop-receiver : goal.invariant-loop-receiver
invariant-loop-receiver l = record {
  count : l.channel ≡ l.receiver-index;
  channel : channel_from l.channel (drop l.receiver-index l.«self».receivers) l.iface ≡ channel_from 0 l.«self».receivers l.iface;
}
