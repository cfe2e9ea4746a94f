use Rattle.std.proofs.Common.{◌++◌, ap, ◌∙◌, refl, subst, arith}
use Rattle.std.specs.Option.{option_map}
use Rattle.std.specs.Prelude.{IsSomeAnd}
use Rattle.nm_measure.specs.Counted.{HasArrivals, delays_of}
use Rattle.nm_measure.specs.Ways.{ends_in}
use Rattle.nm_measure.proofs.Starting.{delays_few}
use Rattle.nm_series.specs.Buckets.{bucket_rows}
use Rattle.nm_series.proofs.RowsMore.{on_ok}
use Rattle.nm_series.proofs.buckets.push_source.Goals as goal

pub returns-in-Some-clause-is : goal.returns-in-Some-clause-is
returns-in-Some-clause-is c = λ t until m low.
    let j = c.args.source in
    let d = c.in-Some.times.now.delays in
    let arrivals = subst (λ o. IsSomeAnd (option_map (λ x. x.now) o) (HasArrivals j (ends_in t m.events))) c.in-Some.is (c.times.ensures.arrivals t until m low) in
    let most = c.events.ensures.most in
    let value = c.events.ensures.value in
    let steps = m.steps in
    let late = delays_few t j m.events in
    on_ok c.push_delays.result (λ (more : _). (
      bucket_rows j d.spread.is_rounded d.spread.rows.items,
      record {
        is_rounded = d.spread.is_rounded;
        rows = d.spread.rows.items;
        are = c.rows.ensures.spread (delays_of j (ends_in t m.events)) arrivals.delays (omega (arith, late, most, value, steps));
        is = refl;
      },
      more ∙ ap (λ k. c.args.text.now.items ++ bucket_rows k d.spread.is_rounded d.spread.rows.items) c.index.ensures,
    )) c.push_delays.ensures.is

pub returns-in-None-clause-is : goal.returns-in-None-clause-is
returns-in-None-clause-is c = λ t until m low.
    absurd (subst (λ o. IsSomeAnd (option_map (λ x. x.now) o) (HasArrivals c.args.source (ends_in t m.events))) c.in-None.is (c.times.ensures.arrivals t until m low))
