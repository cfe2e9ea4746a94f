use Rattle.nm_packet.proofs.RoundTrips.{IsIcmp-message_octets}
use Rattle.nm_packet.proofs.laws.icmp_is_written_well.Goals as goal

pub returns : goal.returns
returns c = λ h payload fits. IsIcmp-message_octets h payload fits
