use Rattle.std.proofs.Common.{◌≤◌, ◌<◌, Some, refl, rules, sym, subst, arith}
use Rattle.nm_model.specs.Before.{IsBefore}
use Rattle.nm_sim.specs.Network.{net_of}
use Rattle.nm_series.specs.Series.{IsSeries, Nexts, SeriesValue}
use Rattle.nm_series.proofs.series.Series.next.Goals as goal

pub returns : goal.returns
returns g c =
    let t = c.args.topology.now in
    let had = g.T.Totals.had in
    let inside : SeriesValue _ = record { measured = c.self.inside.measured; before = c.self.inside.before.items; time = c.self.inside.time; step = c.self.inside.step } in
    let was : IsSeries had t inside = subst (λ o. IsSeries had t o) (sym c.self.view_is) c.requires in
    let end : c.end_of.result ≤ t.stop = let e = c.end_of.ensures in omega (arith, e) in
    let now : SeriesValue _ = record { measured = c.advance.new.self; before = c.in_ok-after.after.items; time = c.end_of.result; step = c.self.inside.step } in
    let early : c.self.inside.time < t.stop = search rules in
    subst (λ o. Nexts had g.T.Totals.are_rows t o now (Some c.in_ok-text.text.items)) c.self.view_is (
      record {
        measured = c.in_ok-advance.ensures.before;
        before = c.in_ok-after.ensures;
        within = end;
      },
      early,
      c.end_of.ensures,
      refl,
      c.in_ok-text.ensures.rows,
    )

pub rows-requires-clause-step : goal.rows-requires-clause-step
rows-requires-clause-step g c =
    let t = c.args.topology.now in
    let had = g.T.Totals.had in
    let inside : SeriesValue _ = record { measured = c.self.inside.measured; before = c.self.inside.before.items; time = c.self.inside.time; step = c.self.inside.step } in
    let was : IsSeries had t inside = subst (λ o. IsSeries had t o) (sym c.self.view_is) c.requires in
    record {
      first = c.self.inside.measured.part.steps;
      begins = subst (IsBefore (net_of t) c.self.inside.time) (sym was.measured.steps) was.measured.over;
      measured = c.in_ok-advance.ensures.before;
      recent = c.in_ok-advance.ensures.recent;
    }
