use Rattle.std.proofs.Common.{ap, ◌∙◌}
use Rattle.nm_packet.specs.Ipv4.{header_fault, cut_of}
use Rattle.nm_packet.proofs.Grammar.{IsPacket-IsIpv4, header_fault-append, cut_of-append, packet_read, grammar_read}
use Rattle.nm_packet.proofs.ipv4.Ipv4.read.Goals as goal

pub returns-clause-found : goal.returns-clause-found
returns-clause-found c = grammar_read _ c.args.octets.now c.tested.ensures.exact c.tested.ensures.packet

pub returns-clause-only : goal.returns-clause-only
returns-clause-only c = λ h payload packet rest is e.
    let whole = IsPacket-IsIpv4 h payload packet is in
    packet_read _ c.args.octets.now packet c.tested.ensures.exact (ap header_fault e ∙ header_fault-append packet rest whole) (ap cut_of e ∙ cut_of-append packet rest whole)
