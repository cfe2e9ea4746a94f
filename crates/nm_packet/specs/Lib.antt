pub mod Address
pub mod Checksum
pub mod Fault
pub mod Icmp
pub mod Ipv4
pub mod Octets
pub mod Udp
