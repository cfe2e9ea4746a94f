use Rattle.nm_packet.proofs.RoundTrips.{updated_checksum-lowered}
use Rattle.nm_packet.proofs.laws.lowered_checksum_by_difference.Goals as goal

pub returns : goal.returns
returns c = λ h payload octets is some. updated_checksum-lowered h payload octets is some
