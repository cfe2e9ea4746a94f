use Rattle.std.proofs.Common.{rules, ◌≡◌, ◌<◌, ◌++◌, length, get_or, ap, ◌∙◌}
use Rattle.nm_series.specs.Packets.{hop_words}
use Rattle.nm_series.proofs.PacketRows.{further_next}
use Rattle.nm_series.proofs.packets.push_further.Goals as goal

pub loop-hop-preserved : goal.loop-hop-preserved
loop-hop-preserved c =
    let t = c.args.topology.now in
    let hops = c.args.hops.now in
    let n = c.loop-hop.hop-index in
    let x = c.hop-item.result in
    let low : n < length hops = search rules in
    let is : x ≡ get_or hops n x = search rules in
    further_next t hops n x low c.args.text.now.items c.loop-hop.text.items c.push_text.new.text.items c.push_hop.new.text.items c.loop-hop.invariant c.in_ok-push_text.ensures
    (c.in_ok-push_hop.ensures ∙ ap (λ h. c.push_text.new.text.items ++ hop_words t h) is)
