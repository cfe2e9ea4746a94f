use Rattle.nm_packet.proofs.RoundTrips.{IsUdp-datagram_octets}
use Rattle.nm_packet.proofs.Checksums.{udp_checksum_of_pos}
use Rattle.nm_packet.proofs.laws.udp_is_written_well.Goals as goal

pub returns : goal.returns
returns c = λ s d h payload fits total. (IsUdp-datagram_octets s d h payload fits total, udp_checksum_of_pos _)
