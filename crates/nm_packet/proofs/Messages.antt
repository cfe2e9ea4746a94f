-- ICMP messages as they are written and as they are read.
use Rattle.std.proofs.Common.{◌≡◌, ℕ, ◌+◌, ◌≤◌, List, [], ◌++◌, length, take, None, refl, ap, ◌∙◌, arith}
use Rattle.std.proofs.lemmas.Bool.{le-ltb, eq-eqb}
use Rattle.std.proofs.lemmas.List.{take_at, drop_at, length-append}
use Rattle.nm_packet.specs.Octets.{word_at}
use Rattle.nm_packet.specs.Checksum.{word_sum, folded}
use Rattle.nm_packet.specs.Icmp.{IcmpHeader, icmp_octets, IsIcmp, icmp_fault, icmp_fields_of, icmp_data_of}
use Rattle.nm_packet.proofs.Checksums.{folded-add, word_sum-append}

-- the sum as the code takes it, first of the header and then of the data
pub icmp_sum : (h : IcmpHeader) (payload : List ℕ) (first sum : ℕ) → length h.rest ≡ 4 → first ≡ folded (0 + word_sum (icmp_octets h [])) → sum ≡ folded (first + word_sum payload) → sum ≡ folded (word_sum (icmp_octets h payload))
icmp_sum h payload first sum long e f =
    let whole : 0 + word_sum (icmp_octets h []) + word_sum payload ≡ word_sum (icmp_octets h payload) = omega (arith, word_sum-append 2 h.rest [] long, word_sum-append 2 h.rest payload long) in
    f ∙ ap (λ (s : ℕ). folded (s + word_sum payload)) e ∙ folded-add (0 + word_sum (icmp_octets h [])) (word_sum payload) ∙ ap folded whole

module _ (h : IcmpHeader) (payload xs : List ℕ) (is : IsIcmp h payload xs) where
  -- the fields that are read are those that were written
  pub icmp_fields_of-IsIcmp : icmp_fields_of xs ≡ h
  icmp_fields_of-IsIcmp =
      let checksum : word_at (icmp_octets h payload) 2 ≡ h.checksum = omega arith in
      let rest : take 4 (h.rest ++ payload) ≡ h.rest = take_at h.rest payload 4 is.fits.rest in
      let same : icmp_fields_of (icmp_octets h payload) ≡ h = λ i. record { message_type = h.message_type; code = h.code; checksum = checksum i; rest = rest i } in
      ap icmp_fields_of is.spelled ∙ same

  pub icmp_data_of-IsIcmp : icmp_data_of xs ≡ payload
  icmp_data_of-IsIcmp = ap icmp_data_of is.spelled ∙ drop_at h.rest payload 4 is.fits.rest

  -- a message is read
  pub icmp_fault-IsIcmp : icmp_fault xs ≡ None
  icmp_fault-IsIcmp =
      let long : length xs ≡ 4 + length (h.rest ++ payload) = ap length is.spelled ∙ omega arith in
      let least : 8 ≤ length xs = omega (arith, length-append h.rest payload, is.fits.rest) in
      rw (le-ltb _ 8 least, eq-eqb _ 65535 is.checksum) refl
