use Rattle.std.proofs.Common.{◌≡◌, ℕ, ◌+◌, None, [], ◌∷◌, ◌++◌, slice_index, slice_set, refl, sym, ap, ◌∙◌, subst, arith}
use Rattle.std.specs.FinMap.{get, insert}
use Rattle.std.specs.Option.{IfSome}
use Rattle.nm_base.specs.declared.event.Event.TheVariants.{Completion, Delivery}
use Rattle.nm_base.specs.declared.event.Origin.TheVariants.{Arrival}
use Rattle.nm_base.specs.declared.key.Place.TheVariants.{Arrive, Complete}
use Rattle.nm_base.specs.Key.{key_of}
use Rattle.nm_model.specs.EventList.{schedule}
use Rattle.nm_model.specs.Lists.{set_at}
use Rattle.nm_model.specs.Run.{transmission_events, sent_after}
use Rattle.nm_sim.specs.Effects.{TransmitsAt, transmission_of}
use Rattle.nm_sim.specs.Network.{here_of, net_of}
use Rattle.nm_sim.specs.Outgoing.{OutgoingRepresents}
use Rattle.nm_sim.specs.Timelines.{AreFresh, TimelineRepresents, TimelineValue}
use Rattle.nm_sim.proofs.Beginnings.{arrival_fresh, arrives_at, begun_events, begun_numbered, completion_fresh, far_end_is, still_free}
use Rattle.nm_sim.proofs.timeline.Timeline.schedule_transmission.Goals as goal

pub take_number-number-requires-clause-receiver : goal.take_number-number-requires-clause-receiver
take_number-number-requires-clause-receiver g c =
    let linked = c.accepted_topologies_are_in_order.ensures.order.linked c.in_ok-iface.iface c.iface.result.now c.iface.ensures in
    let far_end = ap (λ f. f.iface) c.far-far_end.ensures in
    omega (arith, linked.within, far_end, c.requires.numbered.1.count)

pub take_number-number-requires-clause-count : goal.take_number-number-requires-clause-count
take_number-number-requires-clause-count g c =
    let linked = c.accepted_topologies_are_in_order.ensures.order.linked c.in_ok-iface.iface c.iface.result.now c.iface.ensures in
    let far_end = ap (λ f. f.iface) c.far-far_end.ensures in
    let number = c.requires.numbered.1.numbers c.far-far_end.result.iface (omega (arith, linked.within, far_end)) in
    let few = c.requires.numbered.2 c.far-far_end.result.iface in
    omega (arith, number, few)

pub schedule_arrival-requires-clause-far_end : goal.schedule_arrival-requires-clause-far_end
schedule_arrival-requires-clause-far_end g c =
    ap (λ f. f.iface) c.far-far_end.ensures ∙ sym (far_end_is c.args.topology.now c.in_ok-iface.iface c.iface.result.now c.iface.ensures)

pub schedule_arrival-requires-clause-within : goal.schedule_arrival-requires-clause-within
schedule_arrival-requires-clause-within g c =
    let linked = c.accepted_topologies_are_in_order.ensures.order.linked c.in_ok-iface.iface c.iface.result.now c.iface.ensures in
    let far_end = ap (λ f. f.iface) c.far-far_end.ensures in
    omega (arith, linked.within, far_end)

pub schedule_arrival-requires-clause-fresh : goal.schedule_arrival-requires-clause-fresh
schedule_arrival-requires-clause-fresh g c =
    let t = c.args.topology.now in
    let z = c.requires.numbered in
    let linked = c.accepted_topologies_are_in_order.ensures.order.linked c.in_ok-iface.iface c.iface.result.now c.iface.ensures in
    let far_end = ap (λ f. f.iface) c.far-far_end.ensures in
    let transmits = subst (λ o. IfSome o (TransmitsAt t c.args.part.now c.args.time)) c.in_ok-iface.was c.requires.transmits in
    let fresh = subst (λ o. AreFresh (g.L.EventList.pending c.args.self.now.events) (transmission_events (net_of t) c.args.time z.0 (transmission_of o))) c.in_ok-iface.was z.3 in
    let free = arrival_fresh t c.args.self.now c.args.time z.0 z.1 c.args.part.now c.in_ok-iface.iface c.in_ok-iface.start transmits
    c.far-far_end.result.iface (far_end_is t c.in_ok-iface.iface c.iface.result.now c.iface.ensures ∙ sym far_end) (omega (arith, linked.within, far_end)) _ fresh in
    (λ k. get (g.L.EventList.pending (c.take_number-number.ensures.events k)) (key_of c.in_ok-iface.start.arrives (Arrive c.far-far_end.result.iface) (c.take_number-number.ensures.number k))) ∙ free

pub put-requires-clause-fresh : goal.put-requires-clause-fresh
put-requires-clause-fresh g c =
    let t = c.args.topology.now in
    let z = c.requires.numbered in
    let linked = c.accepted_topologies_are_in_order.ensures.order.linked c.in_ok-iface.iface c.iface.result.now c.iface.ensures in
    let far_end = ap (λ f. f.iface) c.far-far_end.ensures in
    let transmits = subst (λ o. IfSome o (TransmitsAt t c.args.part.now c.args.time)) c.in_ok-iface.was c.requires.transmits in
    let fresh = subst (λ o. AreFresh (g.L.EventList.pending c.args.self.now.events) (transmission_events (net_of t) c.args.time z.0 (transmission_of o))) c.in_ok-iface.was z.3 in
    let free = completion_fresh t c.args.self.now c.args.time z.0 z.1 c.args.part.now c.in_ok-iface.iface c.in_ok-iface.start transmits
    c.far-far_end.result.iface (far_end_is t c.in_ok-iface.iface c.iface.result.now c.iface.ensures ∙ sym far_end) (omega (arith, linked.within, far_end)) _ fresh in
    let before : get (g.L.EventList.pending c.take_number-number.new.self.events) (key_of c.in_ok-iface.start.completes (Complete c.in_ok-iface.iface) c.take_number-number.result) ≡ None
    = (λ k. get (g.L.EventList.pending (c.take_number-number.ensures.events k)) (key_of c.in_ok-iface.start.completes (Complete c.in_ok-iface.iface) (c.take_number-number.ensures.number k))) ∙ free in
    still_free (here_of t c.args.part.now) (g.L.EventList.pending c.take_number-number.new.self.events) (g.L.EventList.pending c.self.inside.events)
    (key_of c.in_ok-iface.start.arrives (Arrive c.far-far_end.result.iface) c.take_number-number.result) (Delivery (Arrival c.far-far_end.result.iface) c.in_ok-iface.start.item.packet)
    c.in_ok-iface.start.completes c.in_ok-iface.iface c.take_number-number.result c.far-far_end.result.iface refl
    (ap (λ (l : TimelineValue g.row.L.Denot). g.L.EventList.pending l.events) c.self.view_is ∙ c.schedule_arrival.ensures.events) before

pub returns-clause-events : goal.returns-clause-events
returns-clause-events g c = λ sent numbered.
    let t = c.args.topology.now in
    let linked = c.accepted_topologies_are_in_order.ensures.order.linked c.in_ok-iface.iface c.iface.result.now c.iface.ensures in
    let far_end = ap (λ f. f.iface) c.far-far_end.ensures in
    let transmits = subst (λ o. IfSome o (TransmitsAt t c.args.part.now c.args.time)) c.in_ok-iface.was c.requires.transmits in
    let middle : g.L.EventList.pending c.self.inside.events
    ≡ schedule (here_of t c.args.part.now) ((key_of c.in_ok-iface.start.arrives (Arrive c.far-far_end.result.iface) (slice_index c.args.self.now.sent c.far-far_end.result.iface), Delivery (Arrival c.far-far_end.result.iface) c.in_ok-iface.start.item.packet) ∷ [])
    (g.L.EventList.pending c.args.self.now.events)
    = ap (λ (l : TimelineValue g.row.L.Denot). g.L.EventList.pending l.events) c.self.view_is ∙ c.schedule_arrival.ensures.events
    ∙ (λ k. schedule (here_of t c.args.part.now) ((key_of c.in_ok-iface.start.arrives (Arrive c.far-far_end.result.iface) (c.take_number-number.ensures.number k), Delivery (Arrival c.far-far_end.result.iface) c.in_ok-iface.start.item.packet) ∷ [])
    (g.L.EventList.pending (c.take_number-number.ensures.events k))) in
    subst (λ o. g.L.EventList.pending c.put.new.self ≡ schedule (here_of t c.args.part.now) (transmission_events (net_of t) c.args.time sent (transmission_of o)) (g.L.EventList.pending c.args.self.now.events))
    (sym c.in_ok-iface.was)
    (begun_events t c.args.self.now c.args.time sent numbered c.args.part.now c.in_ok-iface.iface c.in_ok-iface.start transmits
    c.far-far_end.result.iface (far_end_is t c.in_ok-iface.iface c.iface.result.now c.iface.ensures ∙ sym far_end) (omega (arith, linked.within, far_end)) _ _ _ middle
    (c.put.ensures.pending ∙ ap (λ n. insert (g.L.EventList.pending c.self.inside.events) (key_of c.in_ok-iface.start.completes (Complete c.in_ok-iface.iface) n) (Completion c.in_ok-iface.iface)) c.take_number-number.ensures.number))

pub returns-clause-numbered : goal.returns-clause-numbered
returns-clause-numbered g c = λ sent numbered.
    let t = c.args.topology.now in
    let linked = c.accepted_topologies_are_in_order.ensures.order.linked c.in_ok-iface.iface c.iface.result.now c.iface.ensures in
    let far_end = ap (λ f. f.iface) c.far-far_end.ensures in
    let transmits = subst (λ o. IfSome o (TransmitsAt t c.args.part.now c.args.time)) c.in_ok-iface.was c.requires.transmits in
    let after : TimelineValue g.row.L.Denot = record { events = c.put.new.self; sent = c.self.inside.sent.items } in
    subst (λ o. TimelineRepresents t after (sent_after (net_of t) c.args.time sent (transmission_of o))) (sym c.in_ok-iface.was)
    (begun_numbered t c.args.self.now c.args.time sent numbered c.args.part.now c.in_ok-iface.iface c.in_ok-iface.start transmits
    c.far-far_end.result.iface (far_end_is t c.in_ok-iface.iface c.iface.result.now c.iface.ensures ∙ sym far_end) (omega (arith, linked.within, far_end)) after
    (ap (λ (l : TimelineValue g.row.L.Denot). l.sent) c.self.view_is ∙ c.schedule_arrival.ensures.sent ∙ c.take_number-number.ensures.sent
    ∙ ap (λ n. slice_set c.args.self.now.sent c.far-far_end.result.iface (n + 1)) c.take_number-number.ensures.number))

pub returns-clause-outgoing : goal.returns-clause-outgoing
returns-clause-outgoing g c = λ sent h.
    let t = c.args.topology.now in
    let far : c.far-far_end.result.iface ≡ (net_of t).far_end c.in_ok-iface.iface = ap (λ f. f.iface) c.far-far_end.ensures ∙ sym (far_end_is t c.in_ok-iface.iface c.iface.result.now c.iface.ensures) in
    let transmits = subst (λ o. IfSome o (TransmitsAt t c.args.part.now c.args.time)) c.in_ok-iface.was c.requires.transmits in
    subst (λ o. OutgoingRepresents t c.args.part.now c.schedule_arrival.new.outgoing (sent_after (net_of t) c.args.time sent (transmission_of o))) (sym c.in_ok-iface.was)
    (subst (λ (a : ℕ × ℕ). OutgoingRepresents t c.args.part.now c.schedule_arrival.new.outgoing (set_at sent a.0 (sent a.0 ++ (a.1, c.in_ok-iface.start.item.packet) ∷ [])))
    (λ k. (far k, arrives_at t c.args.part.now c.args.time c.in_ok-iface.iface c.in_ok-iface.start transmits k)) (c.schedule_arrival.ensures.outgoing sent h))
