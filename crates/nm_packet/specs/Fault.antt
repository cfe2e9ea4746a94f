-- The numbers of faults.
use Rattle.std.specs.Prelude.{ℕ}
use Rattle.nm_packet.specs.declared.fault.HeaderFault.{HeaderFault}
use Rattle.nm_packet.specs.declared.fault.HeaderFault.TheVariants as H
use Rattle.nm_packet.specs.declared.fault.UdpFault.{UdpFault}
use Rattle.nm_packet.specs.declared.fault.UdpFault.TheVariants as U
use Rattle.nm_packet.specs.declared.fault.IcmpFault.{IcmpFault}
use Rattle.nm_packet.specs.declared.fault.IcmpFault.TheVariants as I

abbrev pub header_fault_number : HeaderFault → ℕ
header_fault_number H.Short = 1
header_fault_number H.Version = 2
header_fault_number H.Ihl = 3
header_fault_number H.Checksum = 4
header_fault_number H.Total = 5

abbrev pub udp_fault_number : UdpFault → ℕ
udp_fault_number U.Short = 1
udp_fault_number U.Length = 2
udp_fault_number U.Checksum = 3

abbrev pub icmp_fault_number : IcmpFault → ℕ
icmp_fault_number I.Short = 1
icmp_fault_number I.Checksum = 2
