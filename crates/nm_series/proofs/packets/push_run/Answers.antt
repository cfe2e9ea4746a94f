use Rattle.std.proofs.Common.{arith}
use Rattle.nm_measure.specs.Courses.{ways_in}
use Rattle.nm_series.proofs.RowsMore.{on_ok}
use Rattle.nm_series.proofs.packets.push_run.Goals as goal

pub loop-preserved : goal.loop-preserved
loop-preserved c =
    let t = c.args.topology.now in
    let min = c.end_of-until.ensures in
    record {
      before = c.in_ok-push_until.ensures.before;
      within = omega (arith, min);
      rows = λ j initial has.
          let all = c.in_ok-push_until.ensures.rows j initial (c.loop.invariant.rows j initial has) in
          (ways_in t j c.push_until.new.measured.part.steps, all.0, all.1);
    }

pub returns-clause-rows : goal.returns-clause-rows
returns-clause-rows c = on_ok c.push_until-2.result (λ rows j initial has. rows j initial (c.loop.invariant.rows j initial has)) c.push_until-2.ensures.rows
