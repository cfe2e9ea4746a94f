-- UDP datagrams (RFC 768).
use Rattle.std.specs.Prelude.{◌≡◌, ℕ, ◌+◌, ◌<◌, ◌≤◌, ◌⊎◌, ◌||◌, ◌&&◌, not, ◌==◌, nat_lt, List, ◌∷◌, ◌++◌, length, take, drop, Option, Some, None, if◌then◌else◌}
use Rattle.nm_packet.specs.Octets.{word, long_word, word_at}
use Rattle.nm_packet.specs.Checksum.{word_sum, folded, checksum_of}
use Rattle.nm_packet.specs.declared.udp.Ports.{Ports}
use Rattle.nm_packet.specs.declared.fault.UdpFault.{UdpFault}
use Rattle.nm_packet.specs.declared.fault.UdpFault.TheVariants.{Short, Length, Checksum}

-- the fields before the data
pub record UdpHeader : Type 0 where
  pub source_port : ℕ
  pub destination_port : ℕ
  pub length : ℕ
  pub checksum : ℕ

-- the octets of a datagram
abbrev pub udp_octets : UdpHeader → List ℕ → List ℕ
udp_octets h payload = word h.source_port ++ word h.destination_port ++ word h.length
    ++ word h.checksum ++ payload

-- the pseudo header before a datagram of so many octets: source, destination, a zero, the
-- protocol 17 and the length
abbrev pub pseudo_header : ℕ → ℕ → ℕ → List ℕ
pseudo_header source destination size =
    long_word source ++ long_word destination ++ 0 ∷ 17 ∷ word size

-- the sum that the checksum is made of: over the pseudo header and the datagram
abbrev pub udp_sum : ℕ → ℕ → List ℕ → ℕ
udp_sum source destination octets =
    word_sum (pseudo_header source destination (length octets) ++ octets)

-- each field fits its bits
pub record UdpFits (h : UdpHeader) : Type 0 where
  pub source_port : h.source_port < 65536
  pub destination_port : h.destination_port < 65536
  pub length : h.length < 65536
  pub checksum : h.checksum < 65536

-- The octets are a datagram with these fields and these data between these addresses, and nothing
-- after it. A checksum of 0 means that the sender made none.
pub record IsUdp (source destination : ℕ) (h : UdpHeader) (payload octets : List ℕ) : Type 0 where
  pub fits : UdpFits h
  pub spelled : octets ≡ udp_octets h payload
  pub total : h.length ≡ length octets
  pub checksum : (h.checksum ≡ 0) ⊎ (folded (udp_sum source destination octets) ≡ 65535)

-- what is read of octets
abbrev pub udp_fields_of : List ℕ → UdpHeader
udp_fields_of octets = record {
  source_port = word_at octets 0;
  destination_port = word_at octets 2;
  length = word_at octets 4;
  checksum = word_at octets 6;
}

abbrev pub udp_data_of : List ℕ → List ℕ
udp_data_of octets = drop 8 octets

-- the octets up to the datagram's length
abbrev pub udp_cut_of : List ℕ → List ℕ
udp_cut_of octets = take (word_at octets 4) octets

-- the first test of a datagram that fails, None if all pass
abbrev pub udp_fault : ℕ → ℕ → List ℕ → Option UdpFault
udp_fault source destination octets = if nat_lt (length octets) 8 then Some Short
    else (if nat_lt (word_at octets 4) 8
    || nat_lt (length octets) (word_at octets 4) then Some Length
    else (if not (word_at octets 6 == 0)
    && not (folded (udp_sum source destination (udp_cut_of octets)) == 65535) then Some Checksum
    else None))

-- the octets have the datagram's length
pub record IsDatagram (octets : List ℕ) : Type 0 where
  pub least : 8 ≤ length octets
  pub total : word_at octets 4 ≡ length octets

-- the header that is written before data of so many octets, but for the checksum
abbrev pub udp_header : Ports → ℕ → UdpHeader
udp_header ports size = record {
  source_port = ports.source;
  destination_port = ports.destination;
  length = 8 + size;
  checksum = 0;
}

-- the checksum that is written if all other words have this sum: a 0 would mean that there is none
abbrev pub udp_checksum_of : ℕ → ℕ
udp_checksum_of sum = if checksum_of sum == 0 then 65535 else checksum_of sum

-- the header with the checksum that is written, which is over all other words
abbrev pub udp_checked : ℕ → ℕ → UdpHeader → List ℕ → UdpHeader
udp_checked source destination h payload =
    record h {
      checksum = udp_checksum_of
          (udp_sum source destination (udp_octets (record h { checksum = 0 }) payload));
    }

-- the octets of a datagram as it is written
abbrev pub datagram_octets : ℕ → ℕ → UdpHeader → List ℕ → List ℕ
datagram_octets source destination h payload =
    udp_octets (udp_checked source destination h payload) payload
