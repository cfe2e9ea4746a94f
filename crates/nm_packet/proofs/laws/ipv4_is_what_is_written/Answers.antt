use Rattle.nm_packet.proofs.RoundTrips.{packet_octets-IsIpv4}
use Rattle.nm_packet.proofs.laws.ipv4_is_what_is_written.Goals as goal

pub returns : goal.returns
returns c = λ h payload octets is. packet_octets-IsIpv4 h payload octets is
