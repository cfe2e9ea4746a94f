use Rattle.std.proofs.Common.{ℕ, ◌+◌, length, sym, ap, ◌∙◌, subst, arith}
use Rattle.nm_sim.specs.Part.{PartValue, Represents}
use Rattle.nm_sim.specs.Records.{Keeping, cut}
use Rattle.nm_sim.proofs.Parts.{kept_few, represents_records}
use Rattle.nm_sim.proofs.Recordings.{rest_is_all}
use Rattle.nm_sim.proofs.part.Part.let_go.Goals as goal

pub let_go-requires : goal.let_go-requires
let_go-requires g c =
    let z = c.requires in
    let h = subst (λ (p : PartValue g.row.L.Denot). Represents g.L.EventList.pending z.0 z.1 p z.2) (sym c.self.view_is) z.3 in
    let few = kept_few g.L.EventList.pending z.0 z.1 _ z.2 h in
    omega (arith, few, c.self.invariant)

abbrev made : Keeping → ℕ → Keeping
made k n = record k { handed = n }

pub returns-clause-represents : goal.returns-clause-represents
returns-clause-represents g c = λ t part s h.
    let at = subst (λ (p : PartValue g.row.L.Denot). Represents g.L.EventList.pending t part p s) (sym c.self.view_is) h in (
      represents_records g.L.EventList.pending t part c.let_go.new.self s at (c.let_go.ensures.represents t s.records at.records) (ap (λ k. k.wanted) c.let_go.ensures.keeping),
      c.let_go.ensures.keeping ∙ ap (λ n. made c.self.inside.records.keeping n)
          (ap (λ l. c.self.inside.records.keeping.handed + length l) at.records.kept ∙ rest_is_all c.self.inside.records.keeping.handed (cut c.self.inside.records.keeping.wanted s.records) at.records.few)
          ∙ ap (λ (p : PartValue g.row.L.Denot). made p.records.keeping (length (cut p.records.keeping.wanted s.records))) c.self.view_is,
    )
