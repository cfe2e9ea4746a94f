use Rattle.nm_packet.proofs.Grammar.{header_fault-append, cut_of-append, fields_of-IsIpv4, payload_of-IsIpv4, IsPacket-IsIpv4}
use Rattle.nm_packet.proofs.laws.ipv4_is_read_as_made.Goals as goal

pub returns : goal.returns
returns c = λ h payload octets rest is.
    let packet = IsPacket-IsIpv4 h payload octets is in
    (header_fault-append octets rest packet, cut_of-append octets rest packet, fields_of-IsIpv4 h payload octets is, payload_of-IsIpv4 h payload octets is)
