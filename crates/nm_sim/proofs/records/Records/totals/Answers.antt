use Rattle.std.proofs.Common.{◌≡◌, ◌<◌, true, cond, length, ltb, Some, slice_get, sym, ap, ◌∙◌, arith}
use Rattle.std.proofs.lemmas.Bool.Decides.{nat_tests}
use Rattle.std.proofs.lemmas.Option.{slice_get_within}
use Rattle.nm_pcap.specs.declared.format.TheConstants.{FILE_HEADER_OCTETS}
use Rattle.nm_sim.specs.Totals.{totals_of}
use Rattle.nm_sim.specs.Traffic.{totals_from}
use Rattle.nm_sim.proofs.Trafficking.{totals_counted}
use Rattle.nm_sim.proofs.records.Records.totals.Goals as goal

pub returns-in-Some : goal.returns-in-Some
returns-in-Some c = λ t trace h.
    let i = c.args.iface in
    let x = c.in-Some.traffic in
    let at : slice_get c.args.self.now.traffic i ≡ Some x = sym c.traffic_at.ensures ∙ c.in-Some.is in
    let within = slice_get_within c.args.self.now.traffic i x at in
    let count = h.count in
    let there : i < length t.ifaces = omega (arith, within, count) in
    let low : ltb i (length t.ifaces) ≡ true = grind (arith, nat_tests, there) in
    c.totals.ensures ∙ ap totals_from (h.traffic i x at) ∙ totals_counted i trace
    ∙ sym (ap (λ b. cond b (totals_of i trace) (0, FILE_HEADER_OCTETS)) low)
