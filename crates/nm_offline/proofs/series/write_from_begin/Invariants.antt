use Rattle.std.proofs.Common.{◌≡◌}
use Rattle.nm_series.specs.Series.{IsSeries}
use Rattle.nm_offline.specs.Series.{IsStepOf, columns_of}
use Rattle.nm_offline.proofs.Stepping.{Going}
use Rattle.nm_offline.proofs.series.write_from_begin.Given as goal

abbrev pub invariant-loop : goal.invariant-loop
invariant-loop g l = record {
  series : IsSeries g.T.Totals.had l.topology l.series;
  step : l.series.step ≡ l.fn.series.step;
  going : Going (IsStepOf l.fn.subject l.topology) (columns_of l.fn.subject) l.fn.series.step l.topology.stop (g.S.Sink.seen l.fn.sink) (g.S.Sink.seen l.sink) l.series.time;
}
