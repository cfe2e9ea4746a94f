-- IPv4 packets as they are written and as they are read.
use Rattle.std.proofs.Common.{◌≡◌, ℕ, ◌+◌, ◌*◌, ◌/◌, ◌%◌, ◌<◌, ◌≤◌, List, ◌∷◌, ◌++◌, length, take, drop, slice_index, Some, None, Result, Ok, Err, refl, sym, ap, ◌∙◌, ⊎_elim, arith}
use Rattle.std.proofs.lemmas.List.{get_or-take, get_or_past, get_or_append_left, take_at, drop_at, take-append-le, length-append, length-drop, drop-append-le, take-append-drop, length-take, length-take-le}
use Rattle.std.proofs.lemmas.Bool.{cases_lt}
use Rattle.std.specs.Result.{MatchResult, IfOk}
use Rattle.nm_packet.specs.Octets.{word_at, long_word_at, IsOctets}
use Rattle.nm_packet.specs.Checksum.{word_sum, folded}
use Rattle.nm_packet.specs.Ipv4.{Header, HeaderFits, header_octets, IsIpv4, header_length_of, header_of, payload_of, fields_of, cut_of, header_fault, IsPacket}
use Rattle.nm_packet.specs.declared.fault.HeaderFault.{HeaderFault}
use Rattle.nm_packet.proofs.Faults.{no_fault, is_packet}
use Rattle.nm_packet.proofs.Numbers.{octets_of_word, one_by_one_is}

-- the first 20 octets and the rest
pub split20 : (xs : List ℕ) → 20 ≤ length xs → xs ≡ slice_index xs 0 ∷ slice_index xs 1 ∷ slice_index xs 2 ∷ slice_index xs 3 ∷ slice_index xs 4 ∷ slice_index xs 5 ∷ slice_index xs 6 ∷ slice_index xs 7 ∷ slice_index xs 8 ∷ slice_index xs 9 ∷ slice_index xs 10 ∷ slice_index xs 11 ∷ slice_index xs 12 ∷ slice_index xs 13 ∷ slice_index xs 14 ∷ slice_index xs 15 ∷ slice_index xs 16 ∷ slice_index xs 17 ∷ slice_index xs 18 ∷ slice_index xs 19 ∷ drop 20 xs
split20 xs h = one_by_one_is 20 0 xs h

-- the octets of a packet are spelled by the fields that are read of them
pub spelled-fields : (xs : List ℕ) → IsOctets xs → IsPacket xs → xs ≡ header_octets (fields_of xs) ++ payload_of xs
spelled-fields xs small packet =
    let n = header_length_of xs in
    let first : slice_index xs 0 ≡ 64 + slice_index xs 0 % 16 = omega arith in
    let w = octets_of_word xs small in
    let h6 : slice_index xs 6 ≡ (word_at xs 6 / 8192 * 8192 + word_at xs 6 % 8192) / 256 = omega (arith, small 6, small 7) in
    let h7 : slice_index xs 7 ≡ (word_at xs 6 / 8192 * 8192 + word_at xs 6 % 8192) % 256 = omega (arith, small 6, small 7) in
    let h12 : slice_index xs 12 ≡ long_word_at xs 12 / 16777216 = omega (arith, small 12, small 13, small 14, small 15) in
    let h13 : slice_index xs 13 ≡ long_word_at xs 12 / 65536 % 256 = omega (arith, small 12, small 13, small 14, small 15) in
    let h14 : slice_index xs 14 ≡ long_word_at xs 12 / 256 % 256 = omega (arith, small 12, small 13, small 14, small 15) in
    let h15 : slice_index xs 15 ≡ long_word_at xs 12 % 256 = omega (arith, small 12, small 13, small 14, small 15) in
    let h16 : slice_index xs 16 ≡ long_word_at xs 16 / 16777216 = omega (arith, small 16, small 17, small 18, small 19) in
    let h17 : slice_index xs 17 ≡ long_word_at xs 16 / 65536 % 256 = omega (arith, small 16, small 17, small 18, small 19) in
    let h18 : slice_index xs 18 ≡ long_word_at xs 16 / 256 % 256 = omega (arith, small 16, small 17, small 18, small 19) in
    let h19 : slice_index xs 19 ≡ long_word_at xs 16 % 256 = omega (arith, small 16, small 17, small 18, small 19) in
    let whole : take n xs ++ drop n xs ≡ xs = take-append-drop n xs in
    let long : 20 ≤ length (take n xs) = omega (arith, length-take-le n xs packet.header) in
    let rest : drop 20 xs ≡ drop 20 (take n xs) ++ drop n xs = ap (drop 20) (sym whole) ∙ drop-append-le 20 (take n xs) (drop n xs) long in
    let split = split20 xs (omega arith) in
    cc ((w 2).0, (w 2).1, (w 4).0, (w 4).1, (w 10).0, (w 10).1)

pub IsOctets-take : (n : ℕ) (xs : List ℕ) → IsOctets xs → IsOctets (take n xs)
IsOctets-take n xs small i = ⊎_elim
    (λ h. omega (arith, get_or-take n xs i 0 h, small i))
    (λ h. omega (arith, get_or_past (take n xs) i 0 (omega (arith, length-take {A = ℕ}))))
    (cases_lt i n)

-- the header that is read of a packet, written again
pub header_octets-fields : (xs : List ℕ) → IsOctets xs → IsPacket xs → header_octets (fields_of xs) ≡ header_of xs
header_octets-fields xs small packet =
    let n = header_length_of xs in
    let f = fields_of xs in
    let long : length (header_octets f) ≡ n = omega (arith, length-drop 20 (take n xs), length-take-le n xs packet.header, packet.ihl) in
    sym (ap (take n) (spelled-fields xs small packet) ∙ take_at (header_octets f) (payload_of xs) n long)

-- what passes the tests is in the grammar
pub IsIpv4-fields : (xs : List ℕ) → IsOctets xs → IsPacket xs → IsIpv4 (fields_of xs) (payload_of xs) xs
IsIpv4-fields xs small packet = record {
  fits = record {
    ihl = omega arith;
    length = omega (arith, length-drop 20 (header_of xs), length-take-le (header_length_of xs) xs packet.header, packet.ihl);
    type_of_service = small 1;
    total_length = omega (arith, small 2, small 3);
    identification = omega (arith, small 4, small 5);
    flags = omega (arith, small 6, small 7);
    fragment_offset = omega arith;
    time_to_live = small 8;
    protocol = small 9;
    header_checksum = omega (arith, small 10, small 11);
    source = omega (arith, small 12, small 13, small 14, small 15);
    destination = omega (arith, small 16, small 17, small 18, small 19);
  };
  spelled = spelled-fields xs small packet;
  total_length = packet.total_length;
  header_checksum = ap (λ (l : List ℕ). folded (word_sum l)) (header_octets-fields xs small packet) ∙ packet.header_checksum;
}

module _ (h : Header) (payload : List ℕ) (fits : HeaderFits h) where
  pub length-header_octets : length (header_octets h) ≡ 4 * h.ihl
  length-header_octets = omega (arith, fits.length)

  header_length_of-spelled : header_length_of (header_octets h ++ payload) ≡ 4 * h.ihl
  header_length_of-spelled = omega (arith, fits.ihl)

  header_of-spelled : header_of (header_octets h ++ payload) ≡ header_octets h
  header_of-spelled = take_at (header_octets h) payload _ (length-header_octets ∙ sym header_length_of-spelled)

  payload_of-spelled : payload_of (header_octets h ++ payload) ≡ payload
  payload_of-spelled = drop_at (header_octets h) payload _ (length-header_octets ∙ sym header_length_of-spelled)

  fields_of-spelled : fields_of (header_octets h ++ payload) ≡ h
  fields_of-spelled =
      let ihl : (64 + h.ihl) % 16 ≡ h.ihl = omega (arith, fits.ihl) in
      let total_length : word_at (header_octets h) 2 ≡ h.total_length = omega arith in
      let identification : word_at (header_octets h) 4 ≡ h.identification = omega arith in
      let flags : word_at (header_octets h) 6 / 8192 ≡ h.flags = omega (arith, fits.fragment_offset) in
      let fragment_offset : word_at (header_octets h) 6 % 8192 ≡ h.fragment_offset = omega (arith, fits.fragment_offset) in
      let header_checksum : word_at (header_octets h) 10 ≡ h.header_checksum = omega arith in
      let source : long_word_at (header_octets h) 12 ≡ h.source = omega arith in
      let destination : long_word_at (header_octets h) 16 ≡ h.destination = omega arith in
      let options = ap (drop 20) header_of-spelled in
      λ i. record {
        ihl = ihl i;
        type_of_service = h.type_of_service;
        total_length = total_length i;
        identification = identification i;
        flags = flags i;
        fragment_offset = fragment_offset i;
        time_to_live = h.time_to_live;
        protocol = h.protocol;
        header_checksum = header_checksum i;
        source = source i;
        destination = destination i;
        options = options i;
      }

pub fields_of-IsIpv4 : (h : Header) (payload xs : List ℕ) → IsIpv4 h payload xs → fields_of xs ≡ h
fields_of-IsIpv4 h payload xs p = ap fields_of p.spelled ∙ fields_of-spelled h payload p.fits

pub payload_of-IsIpv4 : (h : Header) (payload xs : List ℕ) → IsIpv4 h payload xs → payload_of xs ≡ payload
payload_of-IsIpv4 h payload xs p = ap payload_of p.spelled ∙ payload_of-spelled h payload p.fits

-- what is in the grammar passes the tests
pub IsPacket-IsIpv4 : (h : Header) (payload xs : List ℕ) → IsIpv4 h payload xs → IsPacket xs
IsPacket-IsIpv4 h payload xs p =
    let same = fields_of-IsIpv4 h payload xs p in
    let long : length xs ≡ 4 * h.ihl + length payload = ap length p.spelled ∙ length-append (header_octets h) payload ∙ ap (λ (n : ℕ). n + length payload) (length-header_octets h payload p.fits) in
    let first : slice_index xs 0 ≡ 64 + h.ihl = ap (λ (l : List ℕ). slice_index l 0) p.spelled in
    let total : word_at xs 2 ≡ h.total_length = ap (λ (f : Header). f.total_length) same in
    let header : header_of xs ≡ header_octets h = ap header_of p.spelled ∙ header_of-spelled h payload p.fits in
    let least = p.fits.length in
    let ihl = p.fits.ihl in
    let fits = p.fits.total_length in
    let whole = p.total_length in
    is_packet xs (omega arith) (omega arith) (omega arith) (omega arith) (ap (λ (l : List ℕ). folded (word_sum l)) header ∙ p.header_checksum) (omega arith)

module _ (xs rest : List ℕ) (packet : IsPacket xs) where
  before : (i : ℕ) → i < 20 → slice_index (xs ++ rest) i ≡ slice_index xs i
  before i h = get_or_append_left xs rest 0 i (omega (arith, packet.least))

  total_length-append : word_at (xs ++ rest) 2 ≡ length xs
  total_length-append = omega (arith, before 2 (omega arith), before 3 (omega arith), packet.total_length)

  header_length_of-append : header_length_of (xs ++ rest) ≡ header_length_of xs
  header_length_of-append = omega (arith, before 0 (omega arith))

  header_of-append : header_of (xs ++ rest) ≡ header_of xs
  header_of-append = ap (λ (n : ℕ). take n (xs ++ rest)) header_length_of-append ∙ take-append-le (header_length_of xs) xs rest packet.header

  -- a packet is read, whatever follows it
  pub header_fault-append : header_fault (xs ++ rest) ≡ None
  header_fault-append =
      let long = length-append xs rest in
      let first = before 0 (omega arith) in
      let total = total_length-append in
      let sum = ap (λ (l : List ℕ). folded (word_sum l)) header_of-append ∙ packet.header_checksum in
      no_fault (xs ++ rest) (omega (arith, packet.least)) (omega (arith, packet.version)) (omega (arith, packet.ihl)) (omega (arith, packet.header)) sum (omega (arith, packet.header)) (omega arith)

  pub cut_of-append : cut_of (xs ++ rest) ≡ xs
  cut_of-append = ap (λ (n : ℕ). take n (xs ++ rest)) total_length-append ∙ take_at xs rest (length xs) refl

-- a reader that gives the cut octets, or the fault, gives the packet
pub packet_read : (r : Result (List ℕ) HeaderFault) (octets xs : List ℕ) → MatchResult r (λ v. (header_fault octets ≡ None) × (v ≡ cut_of octets)) (λ e. header_fault octets ≡ Some e) → header_fault octets ≡ None → cut_of octets ≡ xs → r ≡ Ok xs
packet_read (Ok v) octets xs exact none cut = ap Ok (exact.1 ∙ cut)
packet_read (Err e) octets xs exact none cut = cc

-- such a reader's packets are in the grammar
pub grammar_read : (r : Result (List ℕ) HeaderFault) (octets : List ℕ) → MatchResult r (λ v. (header_fault octets ≡ None) × (v ≡ cut_of octets)) (λ e. header_fault octets ≡ Some e) → IfOk r (λ v. IsPacket v × IsOctets v) → IfOk r (λ v. IsIpv4 (fields_of v) (payload_of v) v)
grammar_read (Ok v) octets exact packet = IsIpv4-fields v packet.1 packet.0
grammar_read (Err e) octets exact packet = tt
