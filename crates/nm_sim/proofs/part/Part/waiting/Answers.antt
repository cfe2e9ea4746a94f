use Rattle.std.proofs.Common.{length, sym, subst, ◌∙◌}
use Rattle.nm_sim.specs.Part.{PartValue, Represents}
use Rattle.nm_sim.proofs.Parts.{waiting_is}
use Rattle.nm_sim.proofs.part.Part.waiting.Goals as goal

pub returns : goal.returns
returns g c = λ t part s h.
    let represents = subst (λ (p : PartValue g.row.L.Denot). Represents g.L.EventList.pending t part p s) (sym c.self.view_is) h in
    c.waiting.ensures ∙ waiting_is length t part c.self.inside.devices s represents.devices c.args.iface
