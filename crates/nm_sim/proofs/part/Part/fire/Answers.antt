use Rattle.std.proofs.Common.{◌≡◌, ◌+◌, suc, refl, sym, ap, ◌∙◌, subst, arith}
use Rattle.nm_base.specs.declared.event.Event.TheVariants.{Delivery}
use Rattle.nm_base.specs.declared.event.Origin.TheVariants.{Source}
use Rattle.nm_forward.proofs.Passing.{passes_none}
use Rattle.nm_model.specs.Run.{by_source, keyed}
use Rattle.nm_traffic.specs.Source.{source_at}
use Rattle.nm_sim.specs.Network.{here_of, net_of}
use Rattle.nm_sim.specs.Part.{Doing, IsReady, PartValue, states_in, to_do}
use Rattle.nm_sim.proofs.Openings.{here_by_node}
use Rattle.nm_sim.proofs.Parts.{represents_again}
use Rattle.nm_sim.proofs.Steps.{least_has, source_is_kept}
use Rattle.nm_sim.proofs.Takings.{fires_next, fires_on, follows_fresh, key_is_free}
use Rattle.nm_sim.proofs.part.Part.fire.Goals as goal

pub react_to_source-requires-clause-place : goal.react_to_source-requires-clause-place
react_to_source-requires-clause-place g c =
    let part = c.requires.ready.0 in
    let s = c.requires.ready.1 in
    let ready = subst (λ (p : PartValue g.row.L.Denot). IsReady g.L.EventList.pending c.args.topology.now part (keyed c.args.due.time c.args.due.number (Delivery (Source c.args.source) c.args.packet)) p s) (sym c.self.view_is) c.requires.ready.2 in
    let there = least_has s.pending (keyed c.args.due.time c.args.due.number (Delivery (Source c.args.source) c.args.packet)) ready.taken.first in
    source_is_kept c.args.topology.now part s ready.taken.orderly c.self.inside.devices ready.devices c.args.source c.args.due.time c.args.due.number (Delivery (Source c.args.source) c.args.packet) there (ready.taken.placed _ _ there)

pub put-requires-clause-fresh : goal.put-requires-clause-fresh
put-requires-clause-fresh g c =
    let part = c.requires.ready.0 in
    let s = c.requires.ready.1 in
    let p : PartValue g.row.L.Denot = record { part = c.self.inside.part; devices = c.self.inside.devices; timeline = c.self.inside.timeline; outgoing = c.self.inside.outgoing; records = c.self.inside.records; steps = c.self.inside.steps } in
    let ready = subst (λ (p : PartValue g.row.L.Denot). IsReady g.L.EventList.pending c.args.topology.now part (keyed c.args.due.time c.args.due.number (Delivery (Source c.args.source) c.args.packet)) p s) (sym c.self.view_is) c.requires.ready.2 in
    key_is_free g.L.EventList.pending c.args.topology.now part (keyed c.args.due.time c.args.due.number (Delivery (Source c.args.source) c.args.packet)) p s ready

pub returns-in_default : goal.returns-in_default
returns-in_default g c = rw (← c.self.view_is) (
  λ part s ready.
      let p : PartValue g.row.L.Denot = record { part = c.self.inside.part; devices = c.self.inside.devices; timeline = c.self.inside.timeline; outgoing = c.self.inside.outgoing; records = c.self.inside.records; steps = c.self.inside.steps } in
      let q : PartValue g.row.L.Denot = record { part = c.self.inside.part; devices = c.react_to_source.new.self; timeline = c.put.new.self; outgoing = c.self.inside.outgoing; records = c.self.inside.records; steps = c.self.inside.steps } in
      represents_again g.L.EventList.pending c.args.topology.now part (keyed c.args.due.time c.args.due.number (Delivery (Source c.args.source) c.args.packet)) p q
      (record { is_part = refl; sent = ap (λ l. l.sent) c.put.ensures.others; outgoing = refl; steps = refl; wanted = ap (λ d. d.wanted) c.in_default.ensures.err; keeping = refl }) s ready
      c.in_default.ensures.err refl c.put.ensures.events,
  refl,
  refl,
)

pub schedule_next-requires-clause-fresh : goal.schedule_next-requires-clause-fresh
schedule_next-requires-clause-fresh g c =
    let part = c.requires.ready.0 in
    let s = c.requires.ready.1 in
    let t = c.args.topology.now in
    let net = net_of t in
    let isnet = c.every_topology_is_a_network.ensures.network in
    let p : PartValue g.row.L.Denot = record { part = c.self.inside.part; devices = c.self.inside.devices; timeline = c.self.inside.timeline; outgoing = c.self.inside.outgoing; records = c.self.inside.records; steps = c.self.inside.steps } in
    let entry = keyed c.args.due.time c.args.due.number (Delivery (Source c.args.source) c.args.packet) in
    let ready = subst (λ (p : PartValue g.row.L.Denot). IsReady g.L.EventList.pending c.args.topology.now part (keyed c.args.due.time c.args.due.number (Delivery (Source c.args.source) c.args.packet)) p s) (sym c.self.view_is) c.requires.ready.2 in
    let fresh = (c.new_keys_are_new.ensures net isnet).fresh (here_of t part) (here_by_node t part) s ready.taken.orderly entry ready.taken.first in
    let apart = (c.new_keys_are_new.ensures net isnet).apart s entry in
    let n : c.args.due.number + 1 ≡ suc c.args.due.number = omega arith in
    follows_fresh g.L.EventList.pending t c.args.due.time (to_do part entry s) p ready.taken (by_source c.args.source c.in-Ok.fired.follows)
    (ap (by_source c.args.source) (c.in-Ok.ensures.follows ∙ ap (source_at t c.args.source) n) ∙ fires_next t s c.args.due.time c.args.source c.args.due.number c.args.packet) fresh apart refl

pub send-requires-clause-passes : goal.send-requires-clause-passes
send-requires-clause-passes g c = passes_none _ c.in-Ok.fired.reaction c.in-Ok.ensures.twins

pub send-requires-clause-reacted : goal.send-requires-clause-reacted
send-requires-clause-reacted g c =
    let part = c.requires.ready.0 in
    let s = c.requires.ready.1 in
    let t = c.args.topology.now in
    let p : PartValue g.row.L.Denot = record { part = c.self.inside.part; devices = c.self.inside.devices; timeline = c.self.inside.timeline; outgoing = c.self.inside.outgoing; records = c.self.inside.records; steps = c.self.inside.steps } in
    let q : PartValue g.row.L.Denot = record { part = c.self.inside.part; devices = c.react_to_source.new.self; timeline = c.schedule_next.new.self; outgoing = c.self.inside.outgoing; records = c.self.inside.records; steps = c.self.inside.steps } in
    let ready = subst (λ (p : PartValue g.row.L.Denot). IsReady g.L.EventList.pending c.args.topology.now part (keyed c.args.due.time c.args.due.number (Delivery (Source c.args.source) c.args.packet)) p s) (sym c.self.view_is) c.requires.ready.2 in
    let n : c.args.due.number + 1 ≡ suc c.args.due.number = omega arith in (
      record (to_do part (keyed c.args.due.time c.args.due.number (Delivery (Source c.args.source) c.args.packet)) s) { follows = by_source c.args.source c.in-Ok.fired.follows },
      fires_on g.L.EventList.pending t part c.args.due.time c.args.due.number p q (record { is_part = refl; sent = ap (λ l. l.sent) c.schedule_next.ensures.others; outgoing = refl; steps = refl; wanted = c.react_to_source.ensures.wanted; keeping = refl }) s c.args.packet c.in-Ok.fired.reaction c.args.source c.in-Ok.fired.follows
          ready (c.in-Ok.ensures.reacts (states_in part s) ready.devices) (c.in-Ok.ensures.follows ∙ ap (source_at t c.args.source) n) c.schedule_next.ensures.events refl,
    )

pub returns : goal.returns
returns g c = rw (← c.self.view_is) (
  λ part s ready.
      let t = c.args.topology.now in
      let p : PartValue g.row.L.Denot = record { part = c.self.inside.part; devices = c.self.inside.devices; timeline = c.self.inside.timeline; outgoing = c.self.inside.outgoing; records = c.self.inside.records; steps = c.self.inside.steps } in
      let q : PartValue g.row.L.Denot = record { part = c.self.inside.part; devices = c.react_to_source.new.self; timeline = c.schedule_next.new.self; outgoing = c.self.inside.outgoing; records = c.self.inside.records; steps = c.self.inside.steps } in
      let n : c.args.due.number + 1 ≡ suc c.args.due.number = omega arith in
      let doing : Doing = record (to_do part (keyed c.args.due.time c.args.due.number (Delivery (Source c.args.source) c.args.packet)) s) { follows = by_source c.args.source c.in-Ok.fired.follows } in
      let reacted = fires_on g.L.EventList.pending t part c.args.due.time c.args.due.number p q (record { is_part = refl; sent = ap (λ l. l.sent) c.schedule_next.ensures.others; outgoing = refl; steps = refl; wanted = c.react_to_source.ensures.wanted; keeping = refl }) s c.args.packet c.in-Ok.fired.reaction c.args.source c.in-Ok.fired.follows
      ready (c.in-Ok.ensures.reacts (states_in part s) ready.devices) (c.in-Ok.ensures.follows ∙ ap (source_at t c.args.source) n) c.schedule_next.ensures.events refl in
      let happened = c.send.ensures.happened doing reacted in (
        c.send.ensures.represents doing reacted,
        record { arrived = happened.arrived; offering = happened.offering; started = happened.started },
      ),
  c.send.ensures.steps,
  c.send.ensures.keeping,
)
