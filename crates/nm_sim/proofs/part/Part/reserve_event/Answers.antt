use Rattle.std.proofs.Common.{refl, sym, subst}
use Rattle.nm_sim.specs.Part.{PartValue, Represents}
use Rattle.nm_sim.proofs.Parts.{represents_same}
use Rattle.nm_sim.proofs.part.Part.reserve_event.Goals as goal

pub returns-in_err-reserve-clause-same : goal.returns-in_err-reserve-clause-same
returns-in_err-reserve-clause-same g c = λ t part s h.
    let p : PartValue g.row.L.Denot = record { part = c.self.inside.part; devices = c.self.inside.devices; timeline = c.self.inside.timeline; outgoing = c.self.inside.outgoing; records = c.self.inside.records; steps = c.self.inside.steps } in
    let q : PartValue g.row.L.Denot = record { part = c.self.inside.part; devices = c.reserve.new.self; timeline = c.self.inside.timeline; outgoing = c.self.inside.outgoing; records = c.self.inside.records; steps = c.self.inside.steps } in
    let represents = subst (λ (p : PartValue g.row.L.Denot). Represents g.L.EventList.pending t part p s) (sym c.self.view_is) h in
    represents_same g.L.EventList.pending t part p q s represents refl c.reserve.ensures.same refl refl refl (λ k. refl) refl refl

pub returns-in_err-reserve-2-clause-same : goal.returns-in_err-reserve-2-clause-same
returns-in_err-reserve-2-clause-same g c = λ t part s h.
    let p : PartValue g.row.L.Denot = record { part = c.self.inside.part; devices = c.self.inside.devices; timeline = c.self.inside.timeline; outgoing = c.self.inside.outgoing; records = c.self.inside.records; steps = c.self.inside.steps } in
    let q : PartValue g.row.L.Denot = record { part = c.self.inside.part; devices = c.reserve.new.self; timeline = c.reserve-2.new.self; outgoing = c.self.inside.outgoing; records = c.self.inside.records; steps = c.self.inside.steps } in
    let represents = subst (λ (p : PartValue g.row.L.Denot). Represents g.L.EventList.pending t part p s) (sym c.self.view_is) h in
    represents_same g.L.EventList.pending t part p q s represents refl c.reserve.ensures.same c.reserve-2.ensures.events c.reserve-2.ensures.sent refl (λ k. refl) refl refl

pub returns-in_err-reserve-3-clause-same : goal.returns-in_err-reserve-3-clause-same
returns-in_err-reserve-3-clause-same g c = λ t part s h.
    let p : PartValue g.row.L.Denot = record { part = c.self.inside.part; devices = c.self.inside.devices; timeline = c.self.inside.timeline; outgoing = c.self.inside.outgoing; records = c.self.inside.records; steps = c.self.inside.steps } in
    let q : PartValue g.row.L.Denot = record { part = c.self.inside.part; devices = c.reserve.new.self; timeline = c.reserve-2.new.self; outgoing = c.reserve-3.new.self; records = c.self.inside.records; steps = c.self.inside.steps } in
    let represents = subst (λ (p : PartValue g.row.L.Denot). Represents g.L.EventList.pending t part p s) (sym c.self.view_is) h in
    represents_same g.L.EventList.pending t part p q s represents refl c.reserve.ensures.same c.reserve-2.ensures.events c.reserve-2.ensures.sent c.reserve-3.ensures.count c.reserve-3.ensures.messages refl refl

pub returns-clause-same : goal.returns-clause-same
returns-clause-same g c = λ t part s h.
    let p : PartValue g.row.L.Denot = record { part = c.self.inside.part; devices = c.self.inside.devices; timeline = c.self.inside.timeline; outgoing = c.self.inside.outgoing; records = c.self.inside.records; steps = c.self.inside.steps } in
    let q : PartValue g.row.L.Denot = record { part = c.self.inside.part; devices = c.reserve.new.self; timeline = c.reserve-2.new.self; outgoing = c.reserve-3.new.self; records = c.reserve-4.new.self; steps = c.self.inside.steps } in
    let represents = subst (λ (p : PartValue g.row.L.Denot). Represents g.L.EventList.pending t part p s) (sym c.self.view_is) h in
    represents_same g.L.EventList.pending t part p q s represents refl c.reserve.ensures.same c.reserve-2.ensures.events c.reserve-2.ensures.sent c.reserve-3.ensures.count c.reserve-3.ensures.messages c.reserve-4.ensures.list refl
