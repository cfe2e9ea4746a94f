use Rattle.nm_packet.proofs.Datagrams.{udp_fault-append, udp_cut_of-append, udp_fields_of-IsUdp, udp_data_of-IsUdp}
use Rattle.nm_packet.proofs.laws.udp_is_read_as_made.Goals as goal

pub returns : goal.returns
returns c = λ s d h payload octets rest is.
    (udp_fault-append s d h payload octets is rest, udp_cut_of-append s d h payload octets is rest, udp_fields_of-IsUdp s d h payload octets is, udp_data_of-IsUdp s d h payload octets is)
