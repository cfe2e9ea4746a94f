use Rattle.std.proofs.Common.{sym, subst, arith}
use Rattle.nm_measure.specs.Measured.{IsMeasuredBefore}
use Rattle.nm_series.proofs.series.Series.begin.Goals as goal

pub all_before-requires : goal.all_before-requires
all_before-requires g c =
    subst (λ u. IsMeasuredBefore c.args.topology.now u c.in_ok-measured.measured) (sym c.from_nanoseconds-time.ensures) c.in_ok-measured.ensures.before

pub returns-clause-series : goal.returns-clause-series
returns-clause-series g c =
    let start = c.from_nanoseconds-time.ensures in
    record {
      measured = subst (λ u. IsMeasuredBefore c.args.topology.now u c.in_ok-measured.measured) (sym start) c.in_ok-measured.ensures.before;
      before = c.in_ok-before.ensures;
      within = omega (arith, start);
    }
