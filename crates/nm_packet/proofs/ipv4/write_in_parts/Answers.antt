use Rattle.std.proofs.Common.{rules, ◌≡◌, ◌+◌, ◌++◌, length, length-append, IfOk, arith}
use Rattle.std.proofs.lemmas.Grind.{common_steps}
use Rattle.nm_packet.specs.Ipv4.{packet_octets, plain_header}
use Rattle.nm_packet.proofs.RoundTrips.{packet_written}
use Rattle.nm_packet.proofs.ipv4.write_in_parts.Goals as goal

pub returns-clause-grammar : goal.returns-clause-grammar
returns-clause-grammar c =
    let payload = c.args.front.now ++ c.args.back.now in
    let h = plain_header c.args.header.now (length c.args.front.now + length c.args.back.now) in
    let value : IfOk c.from_own.result (λ p. p ≡ packet_octets h payload) = first_of (search rules, grind (arith, common_steps)) in
    packet_written c.from_own.result h payload c.octets.ensures.fits (omega (arith, length-append c.args.front.now c.args.back.now)) value
