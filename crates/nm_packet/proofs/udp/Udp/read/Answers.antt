use Rattle.std.proofs.Common.{arith, ap, ◌∙◌}
use Rattle.nm_packet.specs.Udp.{udp_fault, udp_cut_of}
use Rattle.nm_packet.proofs.Datagrams.{udp_fault-append, udp_cut_of-append, datagram_found, datagram_read}
use Rattle.nm_packet.proofs.udp.Udp.read.Goals as goal

pub returns-clause-found : goal.returns-clause-found
returns-clause-found c = datagram_found _ _ _ c.args.octets.now (λ i. omega (arith, c.type_inv.octets i)) c.tested.ensures.exact c.tested.ensures.whole

pub returns-clause-only : goal.returns-clause-only
returns-clause-only c = λ h payload datagram rest is e.
    let s = c.args.source in
    let d = c.args.destination in
    datagram_read s d _ c.args.octets.now datagram c.tested.ensures.exact (ap (udp_fault s d) e ∙ udp_fault-append s d h payload datagram is rest) (ap udp_cut_of e ∙ udp_cut_of-append s d h payload datagram is rest)
