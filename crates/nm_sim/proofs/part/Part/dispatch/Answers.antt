use Rattle.std.proofs.Common.{Ok, ap, ◌∙◌, ℕ, List, sym, subst}
use Rattle.nm_base.specs.declared.event.Event.{Event}
use Rattle.nm_base.specs.declared.event.Event.TheVariants.{Delivery}
use Rattle.nm_model.specs.Run.{keyed}
use Rattle.nm_sim.specs.Effects.{CanHappen}
use Rattle.nm_sim.specs.Part.{IsReady, Performed}
use Rattle.nm_sim.proofs.Steps.{can_happen, least_has}
use Rattle.nm_sim.proofs.part.Part.dispatch.Goals as goal

pub complete-requires-clause-ready : goal.complete-requires-clause-ready
complete-requires-clause-ready g c = (
  c.requires.ready.0,
  c.requires.ready.1,
  subst (λ (e : Event (List ℕ)). IsReady g.L.EventList.pending c.args.topology.now c.requires.ready.0 (keyed c.args.due.time c.args.due.number e) c.args.self.now c.requires.ready.1) c.in-Completion.is c.requires.ready.2,
)

pub arrive-requires-clause-ready : goal.arrive-requires-clause-ready
arrive-requires-clause-ready g c = (
  c.requires.ready.0,
  c.requires.ready.1,
  subst (λ (e : Event (List ℕ)). IsReady g.L.EventList.pending c.args.topology.now c.requires.ready.0 (keyed c.args.due.time c.args.due.number e) c.args.self.now c.requires.ready.1) (c.in-Delivery.is ∙ ap (λ o. Delivery o c.in-Delivery.packet) c.in-Arrival.is) c.requires.ready.2,
)

pub fire-requires-clause-fits : goal.fire-requires-clause-fits
fire-requires-clause-fits g c =
    let r = c.requires.ready.2 in
    let laws = c.source_times_rise.ensures in
    let can = can_happen c.args.topology.now c.accepted_topologies_are_in_order.ensures.limits laws.fit laws.rise laws.end laws.before c.requires.ready.0 c.requires.ready.1 r.taken.orderly r.taken.placed c.args.self.now.devices r.devices
    c.args.due.time c.args.due.number c.args.event (least_has c.requires.ready.1.pending (keyed c.args.due.time c.args.due.number c.args.event) r.taken.first) in
    (subst (CanHappen c.args.topology.now c.args.self.now.devices c.args.due.number) (c.in-Delivery.is ∙ ap (λ o. Delivery o c.in-Delivery.packet) c.in-Source.is) can).1

pub fire-requires-clause-number : goal.fire-requires-clause-number
fire-requires-clause-number g c =
    let r = c.requires.ready.2 in
    let laws = c.source_times_rise.ensures in
    let can = can_happen c.args.topology.now c.accepted_topologies_are_in_order.ensures.limits laws.fit laws.rise laws.end laws.before c.requires.ready.0 c.requires.ready.1 r.taken.orderly r.taken.placed c.args.self.now.devices r.devices
    c.args.due.time c.args.due.number c.args.event (least_has c.requires.ready.1.pending (keyed c.args.due.time c.args.due.number c.args.event) r.taken.first) in
    (subst (CanHappen c.args.topology.now c.args.self.now.devices c.args.due.number) (c.in-Delivery.is ∙ ap (λ o. Delivery o c.in-Delivery.packet) c.in-Source.is) can).2

pub fire-requires-clause-ready : goal.fire-requires-clause-ready
fire-requires-clause-ready g c = (
  c.requires.ready.0,
  c.requires.ready.1,
  subst (λ (e : Event (List ℕ)). IsReady g.L.EventList.pending c.args.topology.now c.requires.ready.0 (keyed c.args.due.time c.args.due.number e) c.args.self.now c.requires.ready.1) (c.in-Delivery.is ∙ ap (λ o. Delivery o c.in-Delivery.packet) c.in-Source.is) c.requires.ready.2,
)

pub returns-in-Completion : goal.returns-in-Completion
returns-in-Completion g c =
    subst (λ (e : Event (List ℕ)). Performed g.L.EventList.pending c.args.topology.now (keyed c.args.due.time c.args.due.number e) c.args.self.now c.complete.new.self (Ok c.complete.result))
    (sym c.in-Completion.is) c.complete.ensures

pub returns-in-Arrival : goal.returns-in-Arrival
returns-in-Arrival g c =
    subst (λ (e : Event (List ℕ)). Performed g.L.EventList.pending c.args.topology.now (keyed c.args.due.time c.args.due.number e) c.args.self.now c.arrive.new.self c.arrive.result)
    (sym (c.in-Delivery.is ∙ ap (λ o. Delivery o c.in-Delivery.packet) c.in-Arrival.is)) c.arrive.ensures

pub returns-in-Source : goal.returns-in-Source
returns-in-Source g c =
    subst (λ (e : Event (List ℕ)). Performed g.L.EventList.pending c.args.topology.now (keyed c.args.due.time c.args.due.number e) c.args.self.now c.fire.new.self c.fire.result)
    (sym (c.in-Delivery.is ∙ ap (λ o. Delivery o c.in-Delivery.packet) c.in-Source.is)) c.fire.ensures
