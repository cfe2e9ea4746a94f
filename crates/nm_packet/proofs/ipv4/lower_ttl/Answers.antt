use Rattle.std.proofs.Common.{◌≡◌, List, ℕ, Result, IfOk, subst}
use Rattle.nm_packet.specs.Octets.{IsOctets}
use Rattle.nm_packet.specs.Ipv4.{IsIpv4, IsPacket, checked, fields_of, lowered, packet_octets, payload_of}
use Rattle.nm_packet.proofs.RoundTrips.{lowered_written}
use Rattle.nm_packet.proofs.ipv4.lower_ttl.Goals as goal

written : {E : Type 0} (r : Result (List ℕ) E) (xs ys : List ℕ) → IsOctets xs → IsPacket xs → ys ≡ xs
    → IfOk r (λ p. p ≡ packet_octets (lowered (fields_of ys)) (payload_of ys)) → IfOk r (IsIpv4 (checked (lowered (fields_of xs))) (payload_of xs))
written r xs ys small packet same is =
    lowered_written r xs small packet (subst (λ (l : List ℕ). IfOk r (λ p. p ≡ packet_octets (lowered (fields_of l)) (payload_of l))) same is)

pub returns-clause-grammar : goal.returns-clause-grammar
returns-clause-grammar c =
    written c.lowered_packet.result c.args.packet.now _ c.octets.ensures.small c.octets.ensures.packet c.octets.ensures.value c.lowered_packet.ensures
