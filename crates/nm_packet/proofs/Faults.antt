-- The first test that fails, from the facts that the tests before it passed.
use Rattle.std.proofs.Common.{◌≡◌, ℕ, ◌/◌, ◌<◌, ◌≤◌, ◌⊎◌, true, List, length, take, slice_index, Some, None, nat_lt, refl, sym, ap, ◌∙◌, arith, inl, inr}
use Rattle.std.proofs.lemmas.Bool.{lt-ltb, le-ltb, eq-eqb, or_right}
use Rattle.std.proofs.lemmas.List.{get_or-take, take-take, length-take-le}
use Rattle.nm_packet.specs.Octets.{word_at}
use Rattle.nm_packet.specs.Checksum.{word_sum, folded}
use Rattle.nm_packet.specs.Ipv4.{header_fault, header_length_of, header_of, cut_of, IsPacket}
use Rattle.nm_packet.specs.declared.fault.HeaderFault.TheVariants.{Total}

-- the sum of the header as the code takes it
pub header_sum : (octets : List ℕ) (n sum : ℕ) → n ≡ header_length_of octets → sum ≡ folded (word_sum (take n octets)) → sum ≡ 65535 → folded (word_sum (header_of octets)) ≡ 65535
header_sum octets n sum is e full = ap (λ (k : ℕ). folded (word_sum (take k octets))) (sym is) ∙ sym e ∙ full

-- octets are a packet where the header says so and has its sum
pub is_packet : (xs : List ℕ) → slice_index xs 0 / 16 ≡ 4 → 20 ≤ header_length_of xs → header_length_of xs ≤ length xs → length xs < 65536 → folded (word_sum (header_of xs)) ≡ 65535 → word_at xs 2 ≡ length xs → IsPacket xs
is_packet xs version ihl header greatest checksum total = record {
  least = omega arith;
  greatest = greatest;
  version = version;
  ihl = ihl;
  header = header;
  header_checksum = checksum;
  total_length = total;
}

module _ (octets : List ℕ) (least : 20 ≤ length octets) (version : slice_index octets 0 / 16 ≡ 4) (ihl : 20 ≤ header_length_of octets) (header : header_length_of octets ≤ length octets) (checksum : folded (word_sum (header_of octets)) ≡ 65535) where
  pub total_fault : (word_at octets 2 < header_length_of octets) ⊎ (length octets < word_at octets 2) → header_fault octets ≡ Some Total
  total_fault (inl h) = rw (le-ltb (length octets) 20 least, eq-eqb _ 4 version, le-ltb _ _ ihl, le-ltb _ _ header, eq-eqb _ 65535 checksum, lt-ltb _ _ h) refl
  total_fault (inr h) = rw (le-ltb (length octets) 20 least, eq-eqb _ 4 version, le-ltb _ _ ihl, le-ltb _ _ header, eq-eqb _ 65535 checksum, lt-ltb _ _ h, or_right (nat_lt (word_at octets 2) (header_length_of octets)) true refl) refl

  module _ (low : header_length_of octets ≤ word_at octets 2) (high : word_at octets 2 ≤ length octets) where
    pub no_fault : header_fault octets ≡ None
    no_fault = rw (le-ltb (length octets) 20 least, eq-eqb _ 4 version, le-ltb _ _ ihl, le-ltb _ _ header, eq-eqb _ 65535 checksum, le-ltb _ _ low, le-ltb _ _ high) refl

    pub IsPacket-cut : word_at octets 2 < 65536 → IsPacket (cut_of octets)
    IsPacket-cut fits =
        let n = word_at octets 2 in
        let long : length (take n octets) ≡ n = length-take-le n octets high in
        let octet = λ (i : ℕ) (h : i < n). get_or-take n octets i 0 h in
        let first = octet 0 (omega arith) in
        let third = octet 2 (omega arith) in
        let fourth = octet 3 (omega arith) in
        let same : header_of (take n octets) ≡ header_of octets = rw first (take-take (header_length_of octets) n octets low) in
        is_packet _ (omega arith) (omega arith) (omega arith) (omega arith) (ap (λ (l : List ℕ). folded (word_sum l)) same ∙ checksum) (omega arith)
