use Rattle.std.proofs.Common.{◌≡◌, sym, subst, arith}
use Rattle.std.specs.Prelude.{IsSomeAnd}
use Rattle.std.proofs.lemmas.List.{length-map}
use Rattle.nm_measure.specs.declared.flow_counts.FlowCounts.{FlowCounts}
use Rattle.nm_measure.specs.Counted.{HasArrivals}
use Rattle.nm_measure.specs.Starts.{begun_in}
use Rattle.nm_measure.specs.Ways.{ends_in}
use Rattle.nm_measure.proofs.Flowing.{arrivals_found}
use Rattle.nm_measure.proofs.Starting.{begun_found}
use Rattle.nm_measure.proofs.measured.Measured.times.Goals as goal

pub returns-clause-arrivals : goal.returns-clause-arrivals
returns-clause-arrivals c = rw (← c.self.view_is) (λ t until m low.
    let flows = c.self.inside.watched.flows in
    let count = m.sent.count in
    let mapped = length-map flows.counts.items (λ (f : FlowCounts). f.sent) in
    subst (λ o. IsSomeAnd o (HasArrivals c.args.source (ends_in t m.events))) (sym c.times.ensures)
    (arrivals_found (ends_in t m.events) _ flows.counts.items flows.times.items m.watched.numbers c.args.source (omega (arith, low, count, mapped))))

pub returns-clause-begun : goal.returns-clause-begun
returns-clause-begun c = rw (← c.self.view_is) (λ t until m low.
    subst (λ o. IsSomeAnd o (λ x. x.begun ≡ begun_in t c.args.source m.events)) (sym c.times.ensures)
    (begun_found t m.first m.events c.self.inside.watched.flows.times.items m.starts c.args.source low))
