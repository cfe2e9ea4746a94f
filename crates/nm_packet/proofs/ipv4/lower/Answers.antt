use Rattle.std.proofs.Common.{rules, ◌∙◌}
use Rattle.nm_packet.proofs.RoundTrips.{one_hop_is}
use Rattle.nm_packet.proofs.ipv4.lower.Goals as goal

pub returns : goal.returns
returns c = search rules ∙ one_hop_is c.args.octets.now c.args.time_to_live c.args.checksum c.requires.small c.requires.packet c.requires.live c.requires.checksum
