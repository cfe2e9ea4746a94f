use Rattle.std.proofs.Common.{Some, refl, sym, ap, ap₂, ◌∙◌, subst}
use Rattle.nm_base.specs.declared.event.Event.TheVariants.{Delivery}
use Rattle.nm_base.specs.declared.event.Origin.TheVariants.{Arrival}
use Rattle.nm_model.specs.Run.{keyed}
use Rattle.nm_forward.proofs.Passing.{passes_none}
use Rattle.nm_sim.specs.Part.{Doing, IsReady, PartValue, states_in, to_do}
use Rattle.nm_sim.proofs.Parts.{represents_again}
use Rattle.nm_sim.proofs.Steps.{least_has, port_is_kept}
use Rattle.nm_base.specs.Wanted.{is_wanted}
use Rattle.nm_forward.specs.Row.{arrival_row, row_counter}
use Rattle.nm_forward.specs.State.{table_of}
use Rattle.nm_sim.specs.Network.{net_of}
use Rattle.nm_sim.proofs.Takings.{arrives_on, is_untold, key_is_free}
use Rattle.nm_sim.proofs.part.Part.arrive_recorded.Goals as goal

pub react_to_arrival-requires-clause-place : goal.react_to_arrival-requires-clause-place
react_to_arrival-requires-clause-place g c =
    let part = c.requires.ready.0 in
    let s = c.requires.ready.1 in
    let ready = subst (λ (p : PartValue g.row.L.Denot). IsReady g.L.EventList.pending c.args.topology.now part (keyed c.args.due.time c.args.due.number (Delivery (Arrival c.args.iface) c.args.packet)) p s) (sym c.self.view_is) c.requires.ready.2 in
    let there = least_has s.pending (keyed c.args.due.time c.args.due.number (Delivery (Arrival c.args.iface) c.args.packet)) ready.taken.first in
    port_is_kept c.args.topology.now part s ready.taken.orderly c.self.inside.devices ready.devices c.args.iface c.args.due.time c.args.due.number (Delivery (Arrival c.args.iface) c.args.packet) there (ready.taken.placed _ _ there)

pub put-requires-clause-fresh : goal.put-requires-clause-fresh
put-requires-clause-fresh g c =
    let part = c.requires.ready.0 in
    let s = c.requires.ready.1 in
    let p : PartValue g.row.L.Denot = record { part = c.self.inside.part; devices = c.self.inside.devices; timeline = c.self.inside.timeline; outgoing = c.self.inside.outgoing; records = c.self.inside.records; steps = c.self.inside.steps } in
    let ready = subst (λ (p : PartValue g.row.L.Denot). IsReady g.L.EventList.pending c.args.topology.now part (keyed c.args.due.time c.args.due.number (Delivery (Arrival c.args.iface) c.args.packet)) p s) (sym c.self.view_is) c.requires.ready.2 in
    key_is_free g.L.EventList.pending c.args.topology.now part (keyed c.args.due.time c.args.due.number (Delivery (Arrival c.args.iface) c.args.packet)) p s ready

pub returns-in_default : goal.returns-in_default
returns-in_default g c = rw (← c.self.view_is) (
  λ part s ready.
      let p : PartValue g.row.L.Denot = record { part = c.self.inside.part; devices = c.self.inside.devices; timeline = c.self.inside.timeline; outgoing = c.self.inside.outgoing; records = c.self.inside.records; steps = c.self.inside.steps } in
      let q : PartValue g.row.L.Denot = record { part = c.self.inside.part; devices = c.react_to_arrival.new.self; timeline = c.put.new.self; outgoing = c.self.inside.outgoing; records = c.self.inside.records; steps = c.self.inside.steps } in
      represents_again g.L.EventList.pending c.args.topology.now part (keyed c.args.due.time c.args.due.number (Delivery (Arrival c.args.iface) c.args.packet)) p q
      (record { is_part = refl; sent = ap (λ l. l.sent) c.put.ensures.others; outgoing = refl; steps = refl; wanted = ap (λ d. d.wanted) c.in_default.ensures.err; keeping = refl }) s ready
      c.in_default.ensures.err refl c.put.ensures.events,
  refl,
  refl,
)

pub send-sent-requires-clause-passes : goal.send-sent-requires-clause-passes
send-sent-requires-clause-passes g c = passes_none _ c.in-Ok.reaction c.in-Ok.ensures.twins

pub send-sent-requires-clause-reacted : goal.send-sent-requires-clause-reacted
send-sent-requires-clause-reacted g c =
    let part = c.requires.ready.0 in
    let s = c.requires.ready.1 in
    let p : PartValue g.row.L.Denot = record { part = c.self.inside.part; devices = c.self.inside.devices; timeline = c.self.inside.timeline; outgoing = c.self.inside.outgoing; records = c.self.inside.records; steps = c.self.inside.steps } in
    let q : PartValue g.row.L.Denot = record { part = c.self.inside.part; devices = c.react_to_arrival.new.self; timeline = c.self.inside.timeline; outgoing = c.self.inside.outgoing; records = c.record_arrival.new.self; steps = c.self.inside.steps } in
    let ready = subst (λ (p : PartValue g.row.L.Denot). IsReady g.L.EventList.pending c.args.topology.now part (keyed c.args.due.time c.args.due.number (Delivery (Arrival c.args.iface) c.args.packet)) p s) (sym c.self.view_is) c.requires.ready.2 in (
      record (to_do part (keyed c.args.due.time c.args.due.number (Delivery (Arrival c.args.iface) c.args.packet)) s) { came = Some (c.args.iface, c.args.packet) },
      arrives_on g.L.EventList.pending c.args.topology.now part c.args.due.time c.args.due.number p q (record { is_part = refl; sent = refl; outgoing = refl; steps = refl; wanted = c.react_to_arrival.ensures.wanted; keeping = c.record_arrival.ensures.keeping }) s c.args.packet c.in-Ok.reaction c.args.iface
          ready (c.in-Ok.ensures.reacts (states_in part s) ready.devices) refl (c.record_arrival.ensures.represents c.args.topology.now),
    )

pub returns : goal.returns
returns g c = rw (← c.self.view_is) (
  λ part s ready.
      let p : PartValue g.row.L.Denot = record { part = c.self.inside.part; devices = c.self.inside.devices; timeline = c.self.inside.timeline; outgoing = c.self.inside.outgoing; records = c.self.inside.records; steps = c.self.inside.steps } in
      let q : PartValue g.row.L.Denot = record { part = c.self.inside.part; devices = c.react_to_arrival.new.self; timeline = c.self.inside.timeline; outgoing = c.self.inside.outgoing; records = c.record_arrival.new.self; steps = c.self.inside.steps } in
      let doing : Doing = record (to_do part (keyed c.args.due.time c.args.due.number (Delivery (Arrival c.args.iface) c.args.packet)) s) { came = Some (c.args.iface, c.args.packet) } in
      let reacted = arrives_on g.L.EventList.pending c.args.topology.now part c.args.due.time c.args.due.number p q (record { is_part = refl; sent = refl; outgoing = refl; steps = refl; wanted = c.react_to_arrival.ensures.wanted; keeping = c.record_arrival.ensures.keeping }) s c.args.packet c.in-Ok.reaction c.args.iface
      ready (c.in-Ok.ensures.reacts (states_in part s) ready.devices) refl (c.record_arrival.ensures.represents c.args.topology.now) in
      let happened = c.send-sent.ensures.happened doing reacted in (
        c.send-sent.ensures.represents doing reacted,
        record {
          arrived = ap₂ (λ octets counter. Some (record { iface = c.args.iface; octets = octets; counter = counter })) c.octet_count-octets.ensures.count
              (is_untold (is_wanted c.self.inside.records.keeping.wanted c.args.iface) (row_counter (arrival_row (table_of c.args.topology.now ((net_of c.args.topology.now).owner c.args.iface)) c.args.packet)) (ap (λ (p : PartValue g.row.L.Denot). is_wanted p.records.keeping.wanted c.args.iface) c.self.view_is ∙ c.requires.wanted));
          offering = happened.offering;
          started = happened.started;
        },
      ),
  c.send-sent.ensures.steps,
  c.send-sent.ensures.keeping ∙ c.record_arrival.ensures.keeping,
)
