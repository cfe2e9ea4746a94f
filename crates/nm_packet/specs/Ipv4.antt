-- IPv4 packets (RFC 791, section 3.1).
use Rattle.std.specs.Prelude.{◌≡◌, ℕ, ◌+◌, ◌-◌, ◌*◌, ◌/◌, ◌%◌, ◌<◌, ◌≤◌, ◌||◌, not, ◌==◌, nat_lt, List, [], ◌∷◌, ◌++◌, length, take, drop, slice_index, Option, Some, None, if◌then◌else◌}
use Rattle.nm_packet.specs.Octets.{word, long_word, word_at, long_word_at}
use Rattle.nm_packet.specs.Checksum.{word_sum, folded, checksum_of}
use Rattle.nm_packet.specs.declared.ipv4.Ipv4Header.{Ipv4Header}
use Rattle.nm_packet.specs.declared.fault.HeaderFault.{HeaderFault}
use Rattle.nm_packet.specs.declared.fault.HeaderFault.TheVariants.{Short, Version, Ihl, Checksum, Total}

-- the fields of a header behind the version, which is 4
pub record Header : Type 0 where
  pub ihl : ℕ
  pub type_of_service : ℕ
  pub total_length : ℕ
  pub identification : ℕ
  pub flags : ℕ
  pub fragment_offset : ℕ
  pub time_to_live : ℕ
  pub protocol : ℕ
  pub header_checksum : ℕ
  pub source : ℕ
  pub destination : ℕ
  pub options : List ℕ

-- the octets of a header
abbrev pub header_octets : Header → List ℕ
header_octets h = (64 + h.ihl) ∷ h.type_of_service ∷ word h.total_length ++ word h.identification
    ++ word (h.flags * 8192 + h.fragment_offset) ++ h.time_to_live ∷ h.protocol
    ∷ word h.header_checksum ++ long_word h.source ++ long_word h.destination ++ h.options

-- each field fits its bits, and the length of the header is what the field says
pub record HeaderFits (h : Header) : Type 0 where
  pub ihl : h.ihl < 16
  pub length : 20 + length h.options ≡ 4 * h.ihl
  pub type_of_service : h.type_of_service < 256
  pub total_length : h.total_length < 65536
  pub identification : h.identification < 65536
  pub flags : h.flags < 8
  pub fragment_offset : h.fragment_offset < 8192
  pub time_to_live : h.time_to_live < 256
  pub protocol : h.protocol < 256
  pub header_checksum : h.header_checksum < 65536
  pub source : h.source < 4294967296
  pub destination : h.destination < 4294967296

-- the octets are a packet with this header and this payload, and nothing after it
pub record IsIpv4 (h : Header) (payload octets : List ℕ) : Type 0 where
  pub fits : HeaderFits h
  pub spelled : octets ≡ header_octets h ++ payload
  pub total_length : h.total_length ≡ length octets
  pub header_checksum : folded (word_sum (header_octets h)) ≡ 65535

-- what is read of octets: the length of the header, the header, what follows it, and the fields
abbrev pub header_length_of : List ℕ → ℕ
header_length_of octets = 4 * (slice_index octets 0 % 16)

abbrev pub header_of : List ℕ → List ℕ
header_of octets = take (header_length_of octets) octets

abbrev pub payload_of : List ℕ → List ℕ
payload_of octets = drop (header_length_of octets) octets

abbrev pub fields_of : List ℕ → Header
fields_of octets = record {
  ihl = slice_index octets 0 % 16;
  type_of_service = slice_index octets 1;
  total_length = word_at octets 2;
  identification = word_at octets 4;
  flags = word_at octets 6 / 8192;
  fragment_offset = word_at octets 6 % 8192;
  time_to_live = slice_index octets 8;
  protocol = slice_index octets 9;
  header_checksum = word_at octets 10;
  source = long_word_at octets 12;
  destination = long_word_at octets 16;
  options = drop 20 (header_of octets);
}

-- the octets up to the header's total length
abbrev pub cut_of : List ℕ → List ℕ
cut_of octets = take (word_at octets 2) octets

-- the first test of a header that fails, None if all pass
abbrev pub header_fault : List ℕ → Option HeaderFault
header_fault octets = if nat_lt (length octets) 20 then Some Short
    else (if not (slice_index octets 0 / 16 == 4) then Some Version
    else (if nat_lt (header_length_of octets) 20
    || nat_lt (length octets) (header_length_of octets) then Some Ihl
    else (if not (folded (word_sum (header_of octets)) == 65535) then Some Checksum
    else (if nat_lt (word_at octets 2) (header_length_of octets)
    || nat_lt (length octets) (word_at octets 2) then Some Total
    else None))))

-- The octets pass the tests, and nothing follows the packet. This is the grammar in the form of the
-- tests: octets are such a packet if `IsIpv4` holds of the fields and the payload that are read of
-- them.
pub record IsPacket (octets : List ℕ) : Type 0 where
  pub least : 20 ≤ length octets
  pub greatest : length octets < 65536
  pub version : slice_index octets 0 / 16 ≡ 4
  pub ihl : 20 ≤ header_length_of octets
  pub header : header_length_of octets ≤ length octets
  pub header_checksum : folded (word_sum (header_of octets)) ≡ 65535
  pub total_length : word_at octets 2 ≡ length octets

-- the header with the checksum that is written, which is over all its other words
abbrev pub checked : Header → Header
checked h = record h
    { header_checksum = checksum_of (word_sum (header_octets (record h { header_checksum = 0 }))) }

-- the octets of a packet as it is written
abbrev pub packet_octets : Header → List ℕ → List ℕ
packet_octets h payload = header_octets (checked h) ++ payload

-- the header that is written before a payload of so many octets: without options, and no fragment
abbrev pub plain_header : Ipv4Header → ℕ → Header
plain_header h size = record {
  ihl = 5;
  type_of_service = h.type_of_service;
  total_length = 20 + size;
  identification = h.identification;
  flags = 0;
  fragment_offset = 0;
  time_to_live = h.time_to_live;
  protocol = h.protocol;
  header_checksum = 0;
  source = h.source;
  destination = h.destination;
  options = [];
}

-- the header one hop on (RFC 791, section 3.2)
abbrev pub lowered : Header → Header
lowered h = record h { time_to_live = h.time_to_live - 1 }

-- what an error message quotes of a packet: its header as it came, and the first eight octets of
-- its payload, or all of them if there are fewer (RFC 792)
abbrev pub quote_of : List ℕ → List ℕ
quote_of octets = header_of octets ++ take 8 (payload_of octets)
