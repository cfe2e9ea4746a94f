use Rattle.std.proofs.Common.{◌≡◌, ◌<◌, Some, length, refl, sym, ap, ◌∙◌, subst}
use Rattle.std.specs.FinMap.{insert}
use Rattle.nm_base.specs.declared.event.Event.TheVariants.{Delivery}
use Rattle.nm_base.specs.declared.event.Origin.TheVariants.{Arrival}
use Rattle.nm_base.specs.declared.key.Place.TheVariants.{Arrive}
use Rattle.nm_base.specs.Key.{key_of}
use Rattle.nm_topology.specs.Topology.{receiving_iface}
use Rattle.nm_sim.specs.Network.{here_of, net_of}
use Rattle.nm_sim.specs.Part.{PartValue}
use Rattle.nm_sim.proofs.Parts.{comes_here, represents_told}
use Rattle.nm_sim.proofs.part.Part.put_arrival.Goals as goal

pub returns-clause-arrival : goal.returns-clause-arrival
returns-clause-arrival g c = λ n partition comes. rw (← c.self.view_is) (λ part s h.
    let t = c.args.topology.now in
    let i = receiving_iface t c.args.channel in
    let p : PartValue g.row.L.Denot = record { part = c.self.inside.part; devices = c.self.inside.devices; timeline = c.self.inside.timeline; outgoing = c.self.inside.outgoing; records = c.self.inside.records; steps = c.self.inside.steps } in
    let q : PartValue g.row.L.Denot = record { part = c.self.inside.part; devices = c.self.inside.devices; timeline = c.put.new.self; outgoing = c.self.inside.outgoing; records = c.self.inside.records; steps = c.self.inside.steps } in
    let is : part ≡ Some n = sym h.is_part ∙ ap (λ (v : PartValue g.row.L.Denot). v.part) c.self.view_is ∙ partition in
    let both = comes_here t part n i is comes in
    let at = c.channels_are_those_of_the_network.ensures.numbered n i comes in
    let within : i < length t.ifaces = subst (λ j. j < length t.ifaces) at.2 (c.channels_are_numbered_by_their_receivers.ensures.there at.0 at.1) in
    represents_told g.L.EventList.pending t part i c.args.number c.args.time c.args.packet p q
    (record { is_part = refl; sent = ap (λ l. l.sent) c.put.ensures.others; outgoing = refl; steps = refl; wanted = refl; keeping = refl }) s h
    (c.a_message_keeps_order.ensures (net_of t) (here_of t part) s h.orderly i c.args.time c.args.number c.args.packet both.0 both.1) within refl refl
    (c.put.ensures.events ∙ ap (λ j. insert (g.L.EventList.pending c.self.inside.timeline.events) (key_of c.args.time (Arrive j) c.args.number) (Delivery (Arrival j) c.args.packet)) c.receiver.ensures))
