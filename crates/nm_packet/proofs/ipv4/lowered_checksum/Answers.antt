use Rattle.std.proofs.Common.{◌≡◌, ◌-◌, ◌+◌, ◌*◌, ap, sym, ◌∙◌, arith, rules}
use Rattle.nm_packet.specs.Octets.{word_at}
use Rattle.nm_packet.specs.Ipv4.{fields_of, payload_of}
use Rattle.nm_packet.specs.Checksum.{updated_checksum}
use Rattle.nm_packet.proofs.Grammar.{IsIpv4-fields}
use Rattle.nm_packet.proofs.RoundTrips.{updated_checksum-lowered}
use Rattle.nm_packet.proofs.ipv4.lowered_checksum.Goals as goal

pub returns : goal.returns
returns c =
    let xs = c.args.packet.now in
    let h = fields_of xs in
    let less : word_at xs 8 - 256 ≡ (h.time_to_live - 1) * 256 + h.protocol = omega (arith, c.requires) in
    let made : c.updated_checksum.result ≡ updated_checksum h.header_checksum (word_at xs 8) (word_at xs 8 - 256) = search rules in
    made ∙ ap (updated_checksum h.header_checksum (word_at xs 8)) less
    ∙ sym (updated_checksum-lowered h (payload_of xs) xs (IsIpv4-fields xs c.octets-octets.ensures.small c.octets-octets.ensures.packet) c.requires)
