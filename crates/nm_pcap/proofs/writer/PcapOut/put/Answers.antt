use Rattle.std.proofs.Common.{◌≡◌, ◌∙◌, ◌++◌, length, ap, subst}
use Rattle.nm_pcap.specs.Format.{record_header, record_octets}
use Rattle.nm_pcap.specs.Outcome.{Adds}
use Rattle.nm_pcap.specs.Writing.{written}
use Rattle.nm_pcap.proofs.writer.PcapOut.put.Goals as goal

pub returns : goal.returns
returns g c =
    let r = c.args.record.now in
    let header : c.record_header_octets-header.result ≡ record_header r.time (length r.packet) = c.record_header_octets-header.ensures ∙ ap (record_header r.time) c.octet_count.ensures.count in
    let octets : c.record_header_octets-header.result ++ c.octets.result.now ≡ record_octets r =
    ap (λ h. h ++ c.octets.result.now) header ∙ ap (λ p. record_header r.time (length r.packet) ++ p) c.octets.ensures.value
    in
    subst (λ l. Adds g.W.Sink.seen c.args.self.now c.write_two.new.self c.write_two.result (written c.args.self.now.form l)) octets c.write_two.ensures
