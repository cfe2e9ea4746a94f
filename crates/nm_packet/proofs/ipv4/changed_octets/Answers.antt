use Rattle.std.proofs.Common.{rules, ◌-◌, ◌∙◌, arith}
use Rattle.nm_packet.proofs.RoundTrips.{one_hop_over}
use Rattle.nm_packet.proofs.ipv4.changed_octets.Goals as goal

pub invariant_of-view : goal.invariant_of-view
invariant_of-view c = (c.requires.packet, λ i. omega (arith, c.type_inv.octets i))

pub returns-clause-hop : goal.returns-clause-hop
returns-clause-hop c = search rules ∙ one_hop_over c.args.octets.now (c.time_to_live-time_to_live.result - 1) c.lowered_checksum.result (λ i. omega (arith, c.type_inv.octets i)) c.requires.packet (omega arith) c.lowered_checksum.ensures
