use Rattle.std.proofs.Common.{sym, subst, arith}
use Rattle.nm_sim.specs.Part.{PartValue, Represents}
use Rattle.nm_sim.proofs.Parts.{kept_few}
use Rattle.nm_sim.proofs.part.Part.records.Goals as goal

pub records-requires : goal.records-requires
records-requires g c =
    let z = c.requires in
    let h = subst (λ (p : PartValue g.row.L.Denot). Represents g.L.EventList.pending z.0 z.1 p z.2) (sym c.self.view_is) z.3 in
    let few = kept_few g.L.EventList.pending z.0 z.1 _ z.2 h in
    omega (arith, few, c.self.invariant)
