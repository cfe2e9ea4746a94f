use Rattle.std.proofs.Common.{ap, ◌∙◌}
use Rattle.nm_sim.specs.Part.{PartValue}
use Rattle.nm_sim.proofs.part.Part.trace.Goals as goal

pub returns-clause-trace : goal.returns-clause-trace
returns-clause-trace g c = λ t part s h. c.trace.ensures ∙ ap (λ (p : PartValue g.row.L.Denot). p.records.kept) c.self.view_is ∙ h.records.kept
