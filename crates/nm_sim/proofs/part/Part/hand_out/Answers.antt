use Rattle.std.proofs.Common.{slice_get, sym, ap, ◌∙◌, subst, arith}
use Rattle.nm_sim.specs.Part.{PartValue, Represents}
use Rattle.nm_sim.specs.Records.{cut}
use Rattle.nm_sim.proofs.Parts.{kept_few, represents_records}
use Rattle.nm_sim.proofs.Recordings.{first_left}
use Rattle.nm_sim.proofs.part.Part.hand_out.Goals as goal

pub hand_out-requires : goal.hand_out-requires
hand_out-requires g c =
    let z = c.requires in
    let h = subst (λ (p : PartValue g.row.L.Denot). Represents g.L.EventList.pending z.0 z.1 p z.2) (sym c.self.view_is) z.3 in
    let few = kept_few g.L.EventList.pending z.0 z.1 _ z.2 h in
    omega (arith, few, c.self.invariant)

pub returns-clause-represents : goal.returns-clause-represents
returns-clause-represents g c = λ t part s h.
    let at = subst (λ (p : PartValue g.row.L.Denot). Represents g.L.EventList.pending t part p s) (sym c.self.view_is) h in (
      represents_records g.L.EventList.pending t part c.hand_out.new.self s at (c.hand_out.ensures.represents t s.records at.records) (ap (λ k. k.wanted) c.hand_out.ensures.keeping),
      c.hand_out.ensures.first ∙ ap (λ l. slice_get l 0) at.records.kept ∙ first_left c.self.inside.records.keeping.handed (cut c.self.inside.records.keeping.wanted s.records)
          ∙ ap (λ (p : PartValue g.row.L.Denot). slice_get (cut p.records.keeping.wanted s.records) p.records.keeping.handed) c.self.view_is,
    )
