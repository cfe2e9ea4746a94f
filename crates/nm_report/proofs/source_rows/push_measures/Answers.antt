use Rattle.std.proofs.Common.{◌≡◌, subst, arith}
use Rattle.std.specs.Option.{option_map}
use Rattle.std.specs.Prelude.{IsSomeAnd}
use Rattle.nm_measure.specs.Counted.{HasArrivals, delays_of, trips_of}
use Rattle.nm_measure.specs.Starts.{begun_in}
use Rattle.nm_measure.specs.Ways.{ends_in}
use Rattle.nm_measure.proofs.Starting.{delays_few, trips_few}
use Rattle.nm_report.proofs.Pieces.{on_ok}
use Rattle.nm_report.proofs.source_rows.push_measures.Goals as goal

pub returns-in-Some : goal.returns-in-Some
returns-in-Some c = λ t until m low.
    let j = c.args.number in
    let flow = c.flow_of.ensures.ended t until m low in
    let arrivals = subst (λ o. IsSomeAnd (option_map (λ x. x.now) o) (HasArrivals j (ends_in t m.events))) c.in-Some.is (c.times.ensures.arrivals t until m low) in
    let begun = subst (λ o. IsSomeAnd (option_map (λ x. x.now) o) (λ x. x.begun ≡ begun_in t j m.events)) c.in-Some.is (c.times.ensures.begun t until m low) in
    let most = c.events.ensures.most in
    let value = c.events.ensures.value in
    let steps = m.steps in
    let late = delays_few t j m.events in
    let round = trips_few t j m.events in
    on_ok c.push_counted.result (λ says.
    let said = says (delays_of j (ends_in t m.events)) (trips_of j (ends_in t m.events)) arrivals.delays arrivals.trips
    (omega (arith, late, most, value, steps)) (omega (arith, round, most, value, steps)) in (
      said.values,
      record {
        counts = c.flow_of.result;
        times = c.in-Some.times.now;
        is = record { sent = flow.0; balances = c.flow_of.ensures.balances; ended = flow.1; arrivals = arrivals; begun = begun };
        are = said.are;
      },
      said.is,
    )) c.push_counted.ensures

pub returns-in-None : goal.returns-in-None
returns-in-None c = λ t until m low.
    absurd (subst (λ o. IsSomeAnd (option_map (λ x. x.now) o) (HasArrivals c.args.number (ends_in t m.events))) c.in-None.is (c.times.ensures.arrivals t until m low))
