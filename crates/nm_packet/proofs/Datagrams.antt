-- UDP datagrams as they are written and as they are read.
use Rattle.std.proofs.Common.{◌≡◌, ℕ, ◌<◌, ◌≤◌, ◌⊎◌, ⊎_elim, ◌==◌, not, false, List, ◌∷◌, ◌++◌, length, take, drop, slice_index, Some, None, Result, Ok, Err, refl, sym, ap, subst, ◌∙◌, arith, inl, inr}
use Rattle.std.proofs.lemmas.Bool.{le-ltb, eq-eqb, and_right}
use Rattle.std.proofs.lemmas.Grind.{common_steps}
use Rattle.std.proofs.lemmas.List.{get_or_append_left, get_or-take, take_at, length-append, length-take, length-take-le}
use Rattle.std.specs.Result.{IfOk, MatchResult}
use Rattle.nm_packet.specs.Octets.{IsOctets, word_at}
use Rattle.nm_packet.specs.Checksum.{folded}
use Rattle.nm_packet.specs.Udp.{UdpHeader, udp_octets, udp_sum, IsDatagram, IsUdp, udp_fields_of, udp_data_of, udp_cut_of, udp_fault}
use Rattle.nm_packet.specs.declared.fault.UdpFault.{UdpFault}
use Rattle.nm_packet.proofs.Grammar.{IsOctets-take}
use Rattle.nm_packet.proofs.Numbers.{octets_of_word, one_by_one_is}

module _ (source destination : ℕ) where
  -- the tests pass where each of them does
  no_udp_fault : (octets : List ℕ) → 8 ≤ length octets → 8 ≤ word_at octets 4 → word_at octets 4 ≤ length octets → (word_at octets 6 ≡ 0) ⊎ (folded (udp_sum source destination (udp_cut_of octets)) ≡ 65535) → udp_fault source destination octets ≡ None
  no_udp_fault octets least low high (inl none) = rw (le-ltb _ 8 least, le-ltb _ 8 low, le-ltb _ _ high, eq-eqb _ 0 none) refl
  no_udp_fault octets least low high (inr full) = rw (le-ltb _ 8 least, le-ltb _ 8 low, le-ltb _ _ high, eq-eqb _ 65535 full, and_right (not (word_at octets 6 == 0)) false refl) refl

  module _ (h : UdpHeader) (payload xs : List ℕ) (is : IsUdp source destination h payload xs) where
    -- the fields that are read are those that were written
    pub udp_fields_of-IsUdp : udp_fields_of xs ≡ h
    udp_fields_of-IsUdp =
        let source_port : word_at (udp_octets h payload) 0 ≡ h.source_port = omega arith in
        let destination_port : word_at (udp_octets h payload) 2 ≡ h.destination_port = omega arith in
        let size : word_at (udp_octets h payload) 4 ≡ h.length = omega arith in
        let checksum : word_at (udp_octets h payload) 6 ≡ h.checksum = omega arith in
        let same : udp_fields_of (udp_octets h payload) ≡ h = λ i. record { source_port = source_port i; destination_port = destination_port i; length = size i; checksum = checksum i } in
        ap udp_fields_of is.spelled ∙ same

    pub udp_data_of-IsUdp : udp_data_of xs ≡ payload
    udp_data_of-IsUdp = ap udp_data_of is.spelled

    module _ (rest : List ℕ) where
      long : 8 ≤ length xs
      long = let e = ap length is.spelled in omega arith

      before : (i : ℕ) → i < 8 → slice_index (xs ++ rest) i ≡ slice_index xs i
      before i h = get_or_append_left xs rest 0 i (omega (arith, long))

      size_is : word_at (xs ++ rest) 4 ≡ length xs
      size_is = let e = ap (λ (f : UdpHeader). f.length) udp_fields_of-IsUdp in omega (arith, before 4 (omega arith), before 5 (omega arith), is.total)

      checksum_is : word_at (xs ++ rest) 6 ≡ h.checksum
      checksum_is = let e = ap (λ (f : UdpHeader). f.checksum) udp_fields_of-IsUdp in omega (arith, before 6 (omega arith), before 7 (omega arith))

      pub udp_cut_of-append : udp_cut_of (xs ++ rest) ≡ xs
      udp_cut_of-append = ap (λ (n : ℕ). take n (xs ++ rest)) size_is ∙ take_at xs rest (length xs) refl

      summed : (h.checksum ≡ 0) ⊎ (folded (udp_sum source destination xs) ≡ 65535) → (word_at (xs ++ rest) 6 ≡ 0) ⊎ (folded (udp_sum source destination (udp_cut_of (xs ++ rest))) ≡ 65535)
      summed (inl none) = inl (checksum_is ∙ none)
      summed (inr full) = inr (ap (λ (l : List ℕ). folded (udp_sum source destination l)) udp_cut_of-append ∙ full)

      -- a datagram is read, whatever follows it
      pub udp_fault-append : udp_fault source destination (xs ++ rest) ≡ None
      udp_fault-append =
          let e = size_is in
          let l = long in
          no_udp_fault (xs ++ rest) (omega (arith, length-append xs rest)) (omega arith) (omega (arith, length-append xs rest)) (summed is.checksum)

-- a reader that gives the cut octets, or the fault, gives the datagram
pub datagram_read : (source destination : ℕ) (r : Result (List ℕ) UdpFault) (octets xs : List ℕ) → MatchResult r (λ v. (udp_fault source destination octets ≡ None) × (v ≡ udp_cut_of octets)) (λ e. udp_fault source destination octets ≡ Some e) → udp_fault source destination octets ≡ None → udp_cut_of octets ≡ xs → r ≡ Ok xs
datagram_read source destination (Ok v) octets xs exact none cut = ap Ok (exact.1 ∙ cut)
datagram_read source destination (Err e) octets xs exact none cut = cc

-- where no test fails, that of the checksum does not
checksum_passed : (source destination : ℕ) (octets : List ℕ) → udp_fault source destination octets ≡ None → (word_at octets 6 ≡ 0) ⊎ (folded (udp_sum source destination (udp_cut_of octets)) ≡ 65535)
checksum_passed source destination octets none = grind (arith, common_steps)

-- the first 8 octets and the rest
split8 : (xs : List ℕ) → 8 ≤ length xs → xs ≡ slice_index xs 0 ∷ slice_index xs 1 ∷ slice_index xs 2 ∷ slice_index xs 3 ∷ slice_index xs 4 ∷ slice_index xs 5 ∷ slice_index xs 6 ∷ slice_index xs 7 ∷ drop 8 xs
split8 xs h = one_by_one_is 8 0 xs h

-- octets of the length that they say are spelled by their fields and their data
udp_spelled : (xs : List ℕ) → IsOctets xs → IsDatagram xs → xs ≡ udp_octets (udp_fields_of xs) (udp_data_of xs)
udp_spelled xs small whole =
    let w = octets_of_word xs small in
    let split = split8 xs whole.least in
    cc ((w 0).0, (w 0).1, (w 2).0, (w 2).1, (w 4).0, (w 4).1, (w 6).0, (w 6).1)

-- the octets that such a reader cuts off are a datagram
cut_is_udp : (source destination : ℕ) (octets : List ℕ) → IsOctets octets → udp_fault source destination octets ≡ None → IsDatagram (udp_cut_of octets) → IsUdp source destination (udp_fields_of (udp_cut_of octets)) (udp_data_of (udp_cut_of octets)) (udp_cut_of octets)
cut_is_udp source destination octets small none whole =
    let n = word_at octets 4 in
    let v = udp_cut_of octets in
    let fit : IsOctets v = IsOctets-take n octets small in
    let least : 8 ≤ n = omega (arith, whole.least, length-take n octets) in
    let same : word_at v 6 ≡ word_at octets 6 = omega (arith, get_or-take n octets 6 0 (omega arith), get_or-take n octets 7 0 (omega arith)) in
    record {
      fits = record {
        source_port = omega (arith, fit 0, fit 1);
        destination_port = omega (arith, fit 2, fit 3);
        length = omega (arith, fit 4, fit 5);
        checksum = omega (arith, fit 6, fit 7);
      };
      spelled = udp_spelled v fit whole;
      total = whole.total;
      checksum = ⊎_elim (λ z. inl (same ∙ z)) (λ full. inr full) (checksum_passed source destination octets none);
    }

-- what such a reader gives is spelled by its fields and its data
pub datagram_found : (source destination : ℕ) (r : Result (List ℕ) UdpFault) (octets : List ℕ) → IsOctets octets → MatchResult r (λ v. (udp_fault source destination octets ≡ None) × (v ≡ udp_cut_of octets)) (λ e. udp_fault source destination octets ≡ Some e) → IfOk r IsDatagram → IfOk r (λ v. IsUdp source destination (udp_fields_of v) (udp_data_of v) v)
datagram_found source destination (Ok v) octets small exact whole =
    let cut = subst IsDatagram exact.1 whole in
    subst (λ (l : List ℕ). IsUdp source destination (udp_fields_of l) (udp_data_of l) l) (sym exact.1) (cut_is_udp source destination octets small exact.0 cut)
datagram_found source destination (Err e) octets small exact whole = tt

-- the octets up to the length that they say are a datagram
pub IsDatagram-take : (octets : List ℕ) (n : ℕ) → n ≡ word_at octets 4 → 8 ≤ n → n ≤ length octets → IsDatagram (take n octets)
IsDatagram-take octets n is least greatest =
    let long : length (take n octets) ≡ n = length-take-le n octets greatest in
    record {
      least = omega arith;
      total = omega (arith, get_or-take n octets 4 0 (omega arith), get_or-take n octets 5 0 (omega arith));
    }
