-- What is written is in the grammar.
use Rattle.std.proofs.Common.{◌≡◌, ℕ, ◌+◌, ◌-◌, ◌*◌, ◌≤◌, ◌∷◌, [], ◌⊎◌, inl, inr, List, ◌++◌, length, slice_index, slice_set, Result, refl, sym, ap, subst, ◌∙◌, arith}
use Rattle.std.proofs.lemmas.List.{length-append}
use Rattle.std.proofs.lemmas.Result.{IfOk-weaker}
use Rattle.std.specs.Result.{IfOk}
use Rattle.nm_base.specs.Packet.{overwritten}
use Rattle.nm_packet.specs.Octets.{IsOctets, word}
use Rattle.nm_packet.specs.Checksum.{word_sum, folded, checksum_of, updated_checksum}
use Rattle.nm_packet.specs.Ipv4.{Header, HeaderFits, header_octets, checked, packet_octets, fields_of, payload_of, IsPacket, IsIpv4, lowered}
use Rattle.nm_packet.specs.Udp.{UdpHeader, UdpFits, udp_octets, udp_sum, udp_checked, udp_checksum_of, datagram_octets, IsUdp}
use Rattle.nm_packet.specs.Icmp.{IcmpHeader, IcmpFits, icmp_octets, icmp_checked, message_octets, IsIcmp}
use Rattle.nm_packet.proofs.Checksums.{folded-checksum_of, folded-udp_checksum_of, udp_checksum_of_le, one_checksum, folded-difference}
use Rattle.nm_packet.proofs.Grammar.{length-header_octets, IsIpv4-fields, spelled-fields}

-- the checksum is a word of the sum
word_sum-header : (h : Header) (c : ℕ) → word_sum (header_octets (record h { header_checksum = c })) ≡ word_sum (header_octets (record h { header_checksum = 0 })) + c
word_sum-header h c = omega arith

udp_sum-header : (source destination : ℕ) (h : UdpHeader) (payload : List ℕ) (c : ℕ) → udp_sum source destination (udp_octets (record h { checksum = c }) payload) ≡ udp_sum source destination (udp_octets (record h { checksum = 0 }) payload) + c
udp_sum-header source destination h payload c = omega arith

word_sum-message : (h : IcmpHeader) (payload : List ℕ) (c : ℕ) → word_sum (icmp_octets (record h { checksum = c }) payload) ≡ word_sum (icmp_octets (record h { checksum = 0 }) payload) + c
word_sum-message h payload c = omega arith

pub IsIpv4-packet_octets : (h : Header) (payload : List ℕ) → HeaderFits (record h { header_checksum = 0 }) → h.total_length ≡ 4 * h.ihl + length payload → IsIpv4 (checked h) payload (packet_octets h payload)
IsIpv4-packet_octets h payload fits total =
    let sum = word_sum (header_octets (record h { header_checksum = 0 })) in
    let all : HeaderFits (checked h) = record {
      ihl = fits.ihl;
      length = fits.length;
      type_of_service = fits.type_of_service;
      total_length = fits.total_length;
      identification = fits.identification;
      flags = fits.flags;
      fragment_offset = fits.fragment_offset;
      time_to_live = fits.time_to_live;
      protocol = fits.protocol;
      header_checksum = omega arith;
      source = fits.source;
      destination = fits.destination;
    } in
    record {
      fits = all;
      spelled = refl;
      total_length = total ∙ sym (length-append (header_octets (checked h)) payload ∙ ap (λ (n : ℕ). n + length payload) (length-header_octets (checked h) payload all));
      header_checksum = ap folded (word_sum-header h (checksum_of sum)) ∙ folded-checksum_of sum;
    }

-- the octets of a packet are those that are written, unless its checksum is ffff where 0000 is written
pub packet_octets-IsIpv4 : (h : Header) (payload octets : List ℕ) → IsIpv4 h payload octets → (octets ≡ packet_octets h payload) ⊎ ((h.header_checksum ≡ 65535) × ((checked h).header_checksum ≡ 0))
packet_octets-IsIpv4 h payload octets is =
    let sum = word_sum (header_octets (record h { header_checksum = 0 })) in
    let small = is.fits.header_checksum in
    let full : folded (sum + h.header_checksum) ≡ 65535 = ap folded (sym (word_sum-header h h.header_checksum)) ∙ is.header_checksum in
    by_checksum h payload octets is (one_checksum sum h.header_checksum (omega arith) full)
  where
    by_checksum : (h : Header) (payload octets : List ℕ) → IsIpv4 h payload octets → (h.header_checksum ≡ (checked h).header_checksum) ⊎ ((h.header_checksum ≡ 65535) × ((checked h).header_checksum ≡ 0)) → (octets ≡ packet_octets h payload) ⊎ ((h.header_checksum ≡ 65535) × ((checked h).header_checksum ≡ 0))
    by_checksum h payload octets is (inl e) = inl (is.spelled ∙ ap (λ (c : ℕ). header_octets (record h { header_checksum = c }) ++ payload) e)
    by_checksum h payload octets is (inr e) = inr e

pub IsUdp-datagram_octets : (source destination : ℕ) (h : UdpHeader) (payload : List ℕ) → UdpFits (record h { checksum = 0 }) → h.length ≡ 8 + length payload → IsUdp source destination (udp_checked source destination h payload) payload (datagram_octets source destination h payload)
IsUdp-datagram_octets source destination h payload fits total =
    let sum = udp_sum source destination (udp_octets (record h { checksum = 0 }) payload) in
    let small = udp_checksum_of_le sum in
    record {
      fits = record {
        source_port = fits.source_port;
        destination_port = fits.destination_port;
        length = fits.length;
        checksum = omega arith;
      };
      spelled = refl;
      total = omega arith;
      checksum = inr (ap folded (udp_sum-header source destination h payload (udp_checksum_of sum)) ∙ folded-udp_checksum_of sum);
    }

pub IsIcmp-message_octets : (h : IcmpHeader) (payload : List ℕ) → IcmpFits (record h { checksum = 0 }) → IsIcmp (icmp_checked h payload) payload (message_octets h payload)
IsIcmp-message_octets h payload fits =
    let sum = word_sum (icmp_octets (record h { checksum = 0 }) payload) in
    record {
      fits = record {
        message_type = fits.message_type;
        code = fits.code;
        checksum = omega arith;
        rest = fits.rest;
      };
      spelled = refl;
      checksum = ap folded (word_sum-message h payload (checksum_of sum)) ∙ folded-checksum_of sum;
    }

-- the checksum of the header one hop on, from the one that came
pub updated_checksum-lowered : (h : Header) (payload octets : List ℕ) → IsIpv4 h payload octets → 1 ≤ h.time_to_live → (checked (lowered h)).header_checksum ≡ updated_checksum h.header_checksum (h.time_to_live * 256 + h.protocol) ((h.time_to_live - 1) * 256 + h.protocol)
updated_checksum-lowered h payload octets is some =
    let sum = word_sum (header_octets (record h { header_checksum = 0 })) in
    let after = word_sum (header_octets (record (lowered h) { header_checksum = 0 })) in
    let less : after + 256 ≡ sum = omega arith in
    let small = is.fits.header_checksum in
    let low = is.fits.time_to_live in
    let last = is.fits.protocol in
    let full : folded (after + 256 + h.header_checksum) ≡ 65535 = ap (λ (s : ℕ). folded (s + h.header_checksum)) less ∙ ap folded (sym (word_sum-header h h.header_checksum)) ∙ is.header_checksum in
    let same = folded-difference after h.header_checksum 256 (omega arith) (omega arith) (omega arith) full in
    let words : 65535 - h.header_checksum + (65535 - 256) ≡ 65535 - h.header_checksum + (65535 - (h.time_to_live * 256 + h.protocol)) + ((h.time_to_live - 1) * 256 + h.protocol) = omega arith in
    ap (λ (x : ℕ). 65535 - x) (same ∙ ap folded words)

one_hop-spelled : (h : Header) (payload : List ℕ) (sum : ℕ) → slice_set (slice_set (slice_set (header_octets h ++ payload) 8 (h.time_to_live - 1)) 10 (slice_index (word sum) 0)) 11 (slice_index (word sum) 1) ≡ header_octets (record (lowered h) { header_checksum = sum }) ++ payload
one_hop-spelled h payload sum = refl

-- octets with the time to live and the checksum one hop on
pub one_hop_is : (xs : List ℕ) (live sum : ℕ) → IsOctets xs → IsPacket xs → live + 1 ≡ (fields_of xs).time_to_live → sum ≡ (checked (lowered (fields_of xs))).header_checksum
    → slice_set (slice_set (slice_set xs 8 live) 10 (slice_index (word sum) 0)) 11 (slice_index (word sum) 1) ≡ packet_octets (lowered (fields_of xs)) (payload_of xs)
one_hop_is xs live sum small packet less is =
    let h = fields_of xs in
    let payload = payload_of xs in
    let same : live ≡ h.time_to_live - 1 = omega (arith, less) in
    ap (λ (l : List ℕ). slice_set (slice_set (slice_set l 8 live) 10 (slice_index (word sum) 0)) 11 (slice_index (word sum) 1)) (spelled-fields xs small packet)
    ∙ ap (λ (t : ℕ). slice_set (slice_set (slice_set (header_octets h ++ payload) 8 t) 10 (slice_index (word sum) 0)) 11 (slice_index (word sum) 1)) same
    ∙ one_hop-spelled h payload sum
    ∙ ap (λ (s : ℕ). header_octets (record (lowered h) { header_checksum = s }) ++ payload) is

one_hop_over-spelled : (h : Header) (payload : List ℕ) (sum : ℕ) → overwritten (header_octets h ++ payload) 8 ((h.time_to_live - 1) ∷ h.protocol ∷ slice_index (word sum) 0 ∷ slice_index (word sum) 1 ∷ []) ≡ header_octets (record (lowered h) { header_checksum = sum }) ++ payload
one_hop_over-spelled h payload sum = refl

-- octets with what changes one hop on written over them
pub one_hop_over : (xs : List ℕ) (live sum : ℕ) → IsOctets xs → IsPacket xs → live + 1 ≡ (fields_of xs).time_to_live → sum ≡ (checked (lowered (fields_of xs))).header_checksum
    → overwritten xs 8 (live ∷ (fields_of xs).protocol ∷ slice_index (word sum) 0 ∷ slice_index (word sum) 1 ∷ []) ≡ packet_octets (lowered (fields_of xs)) (payload_of xs)
one_hop_over xs live sum small packet less is =
    let h = fields_of xs in
    let payload = payload_of xs in
    let same : live ≡ h.time_to_live - 1 = omega (arith, less) in
    let changed = λ (l : List ℕ) (t s : ℕ). overwritten l 8 (t ∷ h.protocol ∷ slice_index (word s) 0 ∷ slice_index (word s) 1 ∷ []) in
    ap (λ (l : List ℕ). changed l live sum) (spelled-fields xs small packet)
    ∙ ap (λ (t : ℕ). changed (header_octets h ++ payload) t sum) same
    ∙ one_hop_over-spelled h payload sum
    ∙ ap (λ (s : ℕ). header_octets (record (lowered h) { header_checksum = s }) ++ payload) is

-- a writer's packets are in the grammar
pub packet_written : {E : Type 0} (r : Result (List ℕ) E) (h : Header) (payload : List ℕ) → HeaderFits (record h { header_checksum = 0 }) → h.total_length ≡ 4 * h.ihl + length payload → IfOk r (λ p. p ≡ packet_octets h payload) → IfOk r (IsIpv4 (checked h) payload)
packet_written r h payload fits total is =
    IfOk-weaker r (λ p. p ≡ packet_octets h payload) (IsIpv4 (checked h) payload) (λ p e. subst (IsIpv4 (checked h) payload) (sym e) (IsIpv4-packet_octets h payload fits total)) is

-- so is a packet one hop on
pub lowered_written : {E : Type 0} (r : Result (List ℕ) E) (xs : List ℕ) → IsOctets xs → IsPacket xs → IfOk r (λ p. p ≡ packet_octets (lowered (fields_of xs)) (payload_of xs)) → IfOk r (IsIpv4 (checked (lowered (fields_of xs))) (payload_of xs))
lowered_written r xs small packet is =
    let h = fields_of xs in
    let read = IsIpv4-fields xs small packet in
    let fits : HeaderFits (record (lowered h) { header_checksum = 0 }) = record {
      ihl = read.fits.ihl;
      length = read.fits.length;
      type_of_service = read.fits.type_of_service;
      total_length = read.fits.total_length;
      identification = read.fits.identification;
      flags = read.fits.flags;
      fragment_offset = read.fits.fragment_offset;
      time_to_live = omega (arith, read.fits.time_to_live);
      protocol = read.fits.protocol;
      header_checksum = omega arith;
      source = read.fits.source;
      destination = read.fits.destination;
    } in
    let long = ap length read.spelled ∙ length-append (header_octets h) (payload_of xs) ∙ ap (λ (n : ℕ). n + length (payload_of xs)) (length-header_octets h (payload_of xs) read.fits) in
    packet_written r (lowered h) (payload_of xs) fits (read.total_length ∙ long) is
