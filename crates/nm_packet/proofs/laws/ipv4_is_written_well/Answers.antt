use Rattle.nm_packet.proofs.RoundTrips.{IsIpv4-packet_octets}
use Rattle.nm_packet.proofs.laws.ipv4_is_written_well.Goals as goal

pub returns : goal.returns
returns c = λ h payload fits total. IsIpv4-packet_octets h payload fits total
