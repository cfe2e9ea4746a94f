use Rattle.std.proofs.Common.{◌≡◌, ◌≤◌, length, slice_get, sym, ap, ◌∙◌, subst, rules}
use Rattle.std.specs.Option.{option_and_then}
use Rattle.nm_topology.specs.Topology.{receiving_iface}
use Rattle.nm_sim.specs.Network.{net_of}
use Rattle.nm_sim.specs.Part.{PartValue, Represents, completes_at}
use Rattle.nm_sim.proofs.Beginnings.{far_end_is}
use Rattle.nm_sim.proofs.Parts.{busy_is, busy_past}
use Rattle.nm_sim.proofs.part.Part.busy.Goals as goal

pub returns-then-index-ifaces-clause-value : goal.returns-then-index-ifaces-clause-value
returns-then-index-ifaces-clause-value g c = λ part s h.
    let t = c.args.topology.now in
    let past : length t.ifaces ≤ receiving_iface t c.args.channel = search rules in
    c.from_nanoseconds.ensures ∙ sym (busy_past t part s c.args.channel past)

pub returns-clause-value : goal.returns-clause-value
returns-clause-value g c = λ part s h.
    let t = c.args.topology.now in
    let represents = subst (λ (p : PartValue g.row.L.Denot). Represents g.L.EventList.pending t part p s) (sym c.self.view_is) h in
    let receiver = c.receiver-receiver.ensures in
    let far : c.far-sender.result.iface ≡ (net_of t).far_end (receiving_iface t c.args.channel)
    = ap (λ f. f.iface) c.far-sender.ensures ∙ sym (far_end_is t c.receiver-receiver.result c.iface.result.now c.iface.ensures) ∙ ap (λ j. (net_of t).far_end j) receiver in
    c.busy.ensures.value ∙ ap (λ j. completes_at (option_and_then (option_and_then (λ w. w.busy)) (slice_get c.self.inside.devices.ports j))) far
    ∙ busy_is t part c.self.inside.devices s represents.devices ((net_of t).far_end (receiving_iface t c.args.channel))
