use Rattle.std.proofs.Common.{◌+◌, refl, sym, ap, ◌∙◌, subst, arith}
use Rattle.nm_model.specs.EventList.{schedule}
use Rattle.nm_model.specs.Run.{keyed, sent_after, transmission_events}
use Rattle.nm_sim.specs.Effects.{TransmitsAt, transmission_of}
use Rattle.nm_sim.specs.Network.{here_of, net_of}
use Rattle.nm_sim.specs.Outgoing.{OutgoingRepresents, channel_count}
use Rattle.nm_sim.specs.Part.{IsUnderWay, PartValue}
use Rattle.std.specs.Option.{IfSome}
use Rattle.nm_sim.proofs.Openings.{here_by_node}
use Rattle.nm_sim.proofs.Parts.{represents_after}
use Rattle.nm_sim.proofs.Takings.{transmission_fresh}
use Rattle.nm_sim.proofs.part.Part.finish.Goals as goal

pub schedule_transmission-transmitted-requires-clause-transmits : goal.schedule_transmission-transmitted-requires-clause-transmits
schedule_transmission-transmitted-requires-clause-transmits g c =
    let t = c.args.topology.now in
    let doing = c.requires.under_way.0 in
    let way = subst (λ (p : PartValue g.row.L.Denot). IsUnderWay g.L.EventList.pending t c.args.time c.args.start doing p) (sym c.self.view_is) c.requires.under_way.1 in
    subst (λ part. IfSome c.args.start (TransmitsAt t part c.args.time)) (sym way.taken.is_part) way.does.does.transmits

pub schedule_transmission-transmitted-requires-clause-numbered : goal.schedule_transmission-transmitted-requires-clause-numbered
schedule_transmission-transmitted-requires-clause-numbered g c =
    let t = c.args.topology.now in
    let doing = c.requires.under_way.0 in
    let way = subst (λ (p : PartValue g.row.L.Denot). IsUnderWay g.L.EventList.pending t c.args.time c.args.start doing p) (sym c.self.view_is) c.requires.under_way.1 in
    let net = net_of t in
    let isnet = c.every_topology_is_a_network.ensures.network in
    let p : PartValue g.row.L.Denot = record { part = c.self.inside.part; devices = c.self.inside.devices; timeline = c.self.inside.timeline; outgoing = c.self.inside.outgoing; records = c.self.inside.records; steps = c.self.inside.steps } in
    let entry = keyed c.args.time doing.number doing.event in
    let fresh = (c.new_keys_are_new.ensures net isnet).fresh (here_of t doing.part) (here_by_node t doing.part) doing.state way.taken.orderly entry way.taken.first in
    let apart = (c.new_keys_are_new.ensures net isnet).apart doing.state entry in (
      doing.state.sent,
      way.taken.numbered,
      (λ x. let f = way.taken.few x in omega (arith, f, c.self.invariant)),
      transmission_fresh g.L.EventList.pending t c.args.time doing p way.taken doing.follows way.does.does.follows fresh apart c.args.start way.does.does.transmission refl,
    )

pub schedule_transmission-transmitted-requires-clause-count : goal.schedule_transmission-transmitted-requires-clause-count
schedule_transmission-transmitted-requires-clause-count g c =
    let t = c.args.topology.now in
    let doing = c.requires.under_way.0 in
    let way = subst (λ (p : PartValue g.row.L.Denot). IsUnderWay g.L.EventList.pending t c.args.time c.args.start doing p) (sym c.self.view_is) c.requires.under_way.1 in
    way.taken.outgoing.count ∙ ap (channel_count t) (sym way.taken.is_part)

pub returns-clause-represents : goal.returns-clause-represents
returns-clause-represents g c = rw (← c.self.view_is) (λ doing way.
    let t = c.args.topology.now in
    let part = doing.part in
    let s = doing.state in
    let net = net_of t in
    let isnet = c.every_topology_is_a_network.ensures.network in
    let p : PartValue g.row.L.Denot = record { part = c.self.inside.part; devices = c.self.inside.devices; timeline = c.self.inside.timeline; outgoing = c.self.inside.outgoing; records = c.self.inside.records; steps = c.self.inside.steps } in
    let after : PartValue g.row.L.Denot = record { part = c.self.inside.part; devices = c.self.inside.devices; timeline = c.schedule_transmission-transmitted.new.self; outgoing = c.schedule_transmission-transmitted.new.outgoing; records = c.record_transmission.new.self; steps = c.self.inside.steps + 1 } in
    let orderly = (c.every_state_is_orderly.ensures net isnet).steps (here_of t part) (here_by_node t part) s way.taken.orderly in
    let did = c.schedule_transmission-transmitted.ensures in
    represents_after g.L.EventList.pending t c.args.time c.args.start doing p after
    c.accepted_topologies_are_in_order.ensures.order orderly way refl refl (did.numbered s.sent way.taken.numbered)
    (subst (λ r. OutgoingRepresents t r after.outgoing (sent_after net c.args.time s.sent (transmission_of c.args.start))) way.taken.is_part
    (did.outgoing s.sent (subst (λ r. OutgoingRepresents t r c.self.inside.outgoing s.sent) (sym way.taken.is_part) way.taken.outgoing)))
    (did.events s.sent way.taken.numbered ∙ ap (λ r. schedule (here_of t r) (transmission_events net c.args.time s.sent (transmission_of c.args.start)) (g.L.EventList.pending c.self.inside.timeline.events)) way.taken.is_part)
    (λ trace h. c.record_transmission.ensures.represents t trace (transmission_of c.args.start) did.transmitted h) c.record_transmission.ensures.keeping refl)
