use Rattle.std.proofs.Common.{length, sum_by, sym, subst, ◌∙◌}
use Rattle.nm_sim.specs.Part.{PartValue, Represents}
use Rattle.nm_sim.proofs.Parts.{waiting_is}
use Rattle.nm_sim.proofs.part.Part.waiting_octets.Goals as goal

pub returns : goal.returns
returns g c = λ t part s h.
    let represents = subst (λ (p : PartValue g.row.L.Denot). Represents g.L.EventList.pending t part p s) (sym c.self.view_is) h in
    c.waiting_octets.ensures ∙ waiting_is (sum_by length) t part c.self.inside.devices s represents.devices c.args.iface
