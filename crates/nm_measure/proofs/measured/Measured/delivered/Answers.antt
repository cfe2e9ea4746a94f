use Rattle.std.proofs.Common.{◌∙◌, subst}
use Rattle.std.specs.Option.{option_map}
use Rattle.std.specs.Prelude.{IsSomeAnd}
use Rattle.nm_measure.specs.Counted.{HasArrivals}
use Rattle.nm_measure.specs.Ways.{ends_in}
use Rattle.nm_measure.proofs.measured.Measured.delivered.Goals as goal

pub returns-in-Some : goal.returns-in-Some
returns-in-Some c = λ t until m low.
    let h = subst (λ o. IsSomeAnd (option_map (λ x. x.now) o) (HasArrivals c.args.source (ends_in t m.events))) c.in-Some.is (c.times.ensures.arrivals t until m low) in
    record {
      octets = c.octets.ensures ∙ h.octets;
      delayed = c.total.ensures.sum _ h.delays;
      differences = c.differences.ensures.sum _ h.delays;
      fits = h.delays.added.sums.fits;
    }

pub returns-in-None : goal.returns-in-None
returns-in-None c = λ t until m low.
    absurd (subst (λ o. IsSomeAnd (option_map (λ x. x.now) o) (HasArrivals c.args.source (ends_in t m.events))) c.in-None.is (c.times.ensures.arrivals t until m low))
