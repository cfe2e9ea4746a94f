use Rattle.std.proofs.Common.{refl, sym, subst}
use Rattle.nm_sim.specs.Part.{PartValue, Represents}
use Rattle.nm_sim.proofs.Parts.{is_same, represents_same}
use Rattle.nm_sim.proofs.part.Part.reserve.Goals as goal

pub returns-clause-same : goal.returns-clause-same
returns-clause-same g c = λ t part s h.
    let p : PartValue g.row.L.Denot = record { part = c.self.inside.part; devices = c.self.inside.devices; timeline = c.self.inside.timeline; outgoing = c.self.inside.outgoing; records = c.self.inside.records; steps = c.self.inside.steps } in
    let q : PartValue g.row.L.Denot = record { part = c.self.inside.part; devices = c.self.inside.devices; timeline = c.reserve.new.self; outgoing = c.self.inside.outgoing; records = c.self.inside.records; steps = c.self.inside.steps } in
    let represents = subst (λ (p : PartValue g.row.L.Denot). Represents g.L.EventList.pending t part p s) (sym c.self.view_is) h in
    represents_same g.L.EventList.pending t part p q s represents refl (is_same c.self.inside.devices) c.reserve.ensures.events c.reserve.ensures.sent refl (λ k. refl) refl refl
