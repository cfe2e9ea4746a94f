use Rattle.nm_packet.proofs.Messages.{icmp_fault-IsIcmp, icmp_fields_of-IsIcmp, icmp_data_of-IsIcmp}
use Rattle.nm_packet.proofs.laws.icmp_is_read_as_made.Goals as goal

pub returns : goal.returns
returns c = λ h payload octets is. (icmp_fault-IsIcmp h payload octets is, icmp_fields_of-IsIcmp h payload octets is, icmp_data_of-IsIcmp h payload octets is)
