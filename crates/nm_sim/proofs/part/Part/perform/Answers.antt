use Rattle.std.proofs.Common.{◌^◌, ◌<◌, refl, sym, subst}
use Rattle.nm_model.specs.Run.{keyed}
use Rattle.nm_sim.specs.Part.{HasMemory, PartValue, Represents}
use Rattle.nm_sim.proofs.Takings.{memory_at, performed_err, performed_ok, performed_one, performed_told, ready_at, time_is}
use Rattle.nm_sim.proofs.part.Part.perform.Goals as goal

pub dispatch-requires-clause-ready : goal.dispatch-requires-clause-ready
dispatch-requires-clause-ready g c =
    let z = c.requires.least in
    let t = c.args.topology.now in
    let p : PartValue g.row.L.Denot = record { part = c.self.inside.part; devices = c.self.inside.devices; timeline = c.self.inside.timeline; outgoing = c.self.inside.outgoing; records = c.self.inside.records; steps = c.self.inside.steps } in
    let represents = subst (λ (p : PartValue g.row.L.Denot). Represents g.L.EventList.pending t z.0 p z.1) (sym c.self.view_is) z.3 in
    let stop = c.accepted_topologies_are_in_order.ensures.limits.greatest_stop in
    let time = time_is g.L.EventList.pending t z.0 p z.1 represents c.in-Some.entry.0 c.in-Some.entry.1 c.in-Some.entry.2 c.in-Some.ensures.least z.2 z.4 z.5 stop in
    let few = subst (λ (p : PartValue g.row.L.Denot). p.steps < 2 ^ 62) (sym c.self.view_is) c.requires.steps in
    let ready = ready_at g.L.EventList.pending t c.in-Some.entry.0 c.in-Some.entry.1 c.in-Some.entry.2 p c.take_least.new.self
    c.in-Some.ensures.least c.in-Some.ensures.rest c.in-Some.ensures.others time few in
    (z.0, z.1, ready z.0 z.1 represents)

pub dispatch-requires-clause-memory : goal.dispatch-requires-clause-memory
dispatch-requires-clause-memory g c =
    let p : PartValue g.row.L.Denot = record { part = c.self.inside.part; devices = c.self.inside.devices; timeline = c.self.inside.timeline; outgoing = c.self.inside.outgoing; records = c.self.inside.records; steps = c.self.inside.steps } in
    memory_at g.L.EventList.room p c.take_least.new.self (subst (λ (p : PartValue g.row.L.Denot). HasMemory g.L.EventList.room p) (sym c.self.view_is) c.requires.memory) c.in-Some.ensures.room

pub returns-clause-ok : goal.returns-clause-ok
returns-clause-ok g c =
    let z = c.requires.least in
    let t = c.args.topology.now in
    let p : PartValue g.row.L.Denot = record { part = c.self.inside.part; devices = c.self.inside.devices; timeline = c.self.inside.timeline; outgoing = c.self.inside.outgoing; records = c.self.inside.records; steps = c.self.inside.steps } in
    let represents = subst (λ (p : PartValue g.row.L.Denot). Represents g.L.EventList.pending t z.0 p z.1) (sym c.self.view_is) z.3 in
    let stop = c.accepted_topologies_are_in_order.ensures.limits.greatest_stop in
    let time = time_is g.L.EventList.pending t z.0 p z.1 represents c.in-Some.entry.0 c.in-Some.entry.1 c.in-Some.entry.2 c.in-Some.ensures.least z.2 z.4 z.5 stop in
    let few = subst (λ (p : PartValue g.row.L.Denot). p.steps < 2 ^ 62) (sym c.self.view_is) c.requires.steps in
    let ready = ready_at g.L.EventList.pending t c.in-Some.entry.0 c.in-Some.entry.1 c.in-Some.entry.2 p c.take_least.new.self
    c.in-Some.ensures.least c.in-Some.ensures.rest c.in-Some.ensures.others time few in
    let q : PartValue g.row.L.Denot = record { part = c.self.inside.part; devices = c.self.inside.devices; timeline = c.take_least.new.self; outgoing = c.self.inside.outgoing; records = c.self.inside.records; steps = c.self.inside.steps } in
    rw (← c.self.view_is) (performed_ok g.L.EventList.pending t (keyed c.in-Some.entry.0 c.in-Some.entry.1 c.in-Some.entry.2) p q c.dispatch.new.self ready c.dispatch.result c.dispatch.ensures)

pub returns-clause-happened : goal.returns-clause-happened
returns-clause-happened g c =
    let z = c.requires.least in
    let t = c.args.topology.now in
    let p : PartValue g.row.L.Denot = record { part = c.self.inside.part; devices = c.self.inside.devices; timeline = c.self.inside.timeline; outgoing = c.self.inside.outgoing; records = c.self.inside.records; steps = c.self.inside.steps } in
    let represents = subst (λ (p : PartValue g.row.L.Denot). Represents g.L.EventList.pending t z.0 p z.1) (sym c.self.view_is) z.3 in
    let stop = c.accepted_topologies_are_in_order.ensures.limits.greatest_stop in
    let time = time_is g.L.EventList.pending t z.0 p z.1 represents c.in-Some.entry.0 c.in-Some.entry.1 c.in-Some.entry.2 c.in-Some.ensures.least z.2 z.4 z.5 stop in
    let few = subst (λ (p : PartValue g.row.L.Denot). p.steps < 2 ^ 62) (sym c.self.view_is) c.requires.steps in
    let ready = ready_at g.L.EventList.pending t c.in-Some.entry.0 c.in-Some.entry.1 c.in-Some.entry.2 p c.take_least.new.self
    c.in-Some.ensures.least c.in-Some.ensures.rest c.in-Some.ensures.others time few in
    let q : PartValue g.row.L.Denot = record { part = c.self.inside.part; devices = c.self.inside.devices; timeline = c.take_least.new.self; outgoing = c.self.inside.outgoing; records = c.self.inside.records; steps = c.self.inside.steps } in
    rw (← c.self.view_is) (performed_told g.L.EventList.pending t (keyed c.in-Some.entry.0 c.in-Some.entry.1 c.in-Some.entry.2) p q c.dispatch.new.self ready c.dispatch.result c.dispatch.ensures refl)

pub returns-clause-err : goal.returns-clause-err
returns-clause-err g c =
    let z = c.requires.least in
    let t = c.args.topology.now in
    let p : PartValue g.row.L.Denot = record { part = c.self.inside.part; devices = c.self.inside.devices; timeline = c.self.inside.timeline; outgoing = c.self.inside.outgoing; records = c.self.inside.records; steps = c.self.inside.steps } in
    let represents = subst (λ (p : PartValue g.row.L.Denot). Represents g.L.EventList.pending t z.0 p z.1) (sym c.self.view_is) z.3 in
    let stop = c.accepted_topologies_are_in_order.ensures.limits.greatest_stop in
    let time = time_is g.L.EventList.pending t z.0 p z.1 represents c.in-Some.entry.0 c.in-Some.entry.1 c.in-Some.entry.2 c.in-Some.ensures.least z.2 z.4 z.5 stop in
    let few = subst (λ (p : PartValue g.row.L.Denot). p.steps < 2 ^ 62) (sym c.self.view_is) c.requires.steps in
    let ready = ready_at g.L.EventList.pending t c.in-Some.entry.0 c.in-Some.entry.1 c.in-Some.entry.2 p c.take_least.new.self
    c.in-Some.ensures.least c.in-Some.ensures.rest c.in-Some.ensures.others time few in
    let q : PartValue g.row.L.Denot = record { part = c.self.inside.part; devices = c.self.inside.devices; timeline = c.take_least.new.self; outgoing = c.self.inside.outgoing; records = c.self.inside.records; steps = c.self.inside.steps } in
    rw (← c.self.view_is) (performed_err g.L.EventList.pending t (keyed c.in-Some.entry.0 c.in-Some.entry.1 c.in-Some.entry.2) p q c.dispatch.new.self ready c.dispatch.result c.dispatch.ensures)

pub returns-clause-one : goal.returns-clause-one
returns-clause-one g c = rw (← c.self.view_is) (performed_one g.L.EventList.pending c.args.topology.now (keyed c.in-Some.entry.0 c.in-Some.entry.1 c.in-Some.entry.2) _ c.dispatch.new.self c.dispatch.result c.dispatch.ensures).0

pub returns-clause-none : goal.returns-clause-none
returns-clause-none g c = rw (← c.self.view_is) (performed_one g.L.EventList.pending c.args.topology.now (keyed c.in-Some.entry.0 c.in-Some.entry.1 c.in-Some.entry.2) _ c.dispatch.new.self c.dispatch.result c.dispatch.ensures).1

pub returns-clause-keeping : goal.returns-clause-keeping
returns-clause-keeping g c = rw (← c.self.view_is) (performed_one g.L.EventList.pending c.args.topology.now (keyed c.in-Some.entry.0 c.in-Some.entry.1 c.in-Some.entry.2) _ c.dispatch.new.self c.dispatch.result c.dispatch.ensures).2
