-- ICMP messages (RFC 792).
use Rattle.std.specs.Prelude.{◌≡◌, ℕ, ◌<◌, not, ◌==◌, nat_lt, List, ◌∷◌, ◌++◌, length, take, drop, slice_index, Option, Some, None, if◌then◌else◌}
use Rattle.nm_packet.specs.Octets.{word, word_at}
use Rattle.nm_packet.specs.Checksum.{word_sum, folded, checksum_of}
use Rattle.nm_packet.specs.declared.icmp.MessageKind.{MessageKind}
use Rattle.nm_packet.specs.declared.fault.IcmpFault.{IcmpFault}
use Rattle.nm_packet.specs.declared.fault.IcmpFault.TheVariants.{Short, Checksum}

-- the fields before the data; the meaning of the last four octets depends on the type
pub record IcmpHeader : Type 0 where
  pub message_type : ℕ
  pub code : ℕ
  pub checksum : ℕ
  pub rest : List ℕ

-- the octets of a message
abbrev pub icmp_octets : IcmpHeader → List ℕ → List ℕ
icmp_octets h payload = h.message_type ∷ h.code ∷ word h.checksum ++ h.rest ++ payload

-- each field fits its octets
pub record IcmpFits (h : IcmpHeader) : Type 0 where
  pub message_type : h.message_type < 256
  pub code : h.code < 256
  pub checksum : h.checksum < 65536
  pub rest : length h.rest ≡ 4

-- the octets are a message with these fields and these data
pub record IsIcmp (h : IcmpHeader) (payload octets : List ℕ) : Type 0 where
  pub fits : IcmpFits h
  pub spelled : octets ≡ icmp_octets h payload
  pub checksum : folded (word_sum octets) ≡ 65535

-- what is read of octets
abbrev pub icmp_fields_of : List ℕ → IcmpHeader
icmp_fields_of octets = record {
  message_type = slice_index octets 0;
  code = slice_index octets 1;
  checksum = word_at octets 2;
  rest = take 4 (drop 4 octets);
}

abbrev pub icmp_data_of : List ℕ → List ℕ
icmp_data_of octets = drop 8 octets

-- the first test of a message that fails, None if all pass
abbrev pub icmp_fault : List ℕ → Option IcmpFault
icmp_fault octets = if nat_lt (length octets) 8 then Some Short
    else (if not (folded (word_sum octets) == 65535) then Some Checksum else None)

-- the header that is written, but for the checksum
abbrev pub icmp_header : MessageKind → List ℕ → IcmpHeader
icmp_header kind rest =
    record { message_type = kind.message_type; code = kind.code; checksum = 0; rest = rest }

-- the header with the checksum that is written, which is over all other words
abbrev pub icmp_checked : IcmpHeader → List ℕ → IcmpHeader
icmp_checked h payload =
    record h { checksum = checksum_of (word_sum (icmp_octets (record h { checksum = 0 }) payload)) }

-- the octets of a message as it is written
abbrev pub message_octets : IcmpHeader → List ℕ → List ℕ
message_octets h payload = icmp_octets (icmp_checked h payload) payload
