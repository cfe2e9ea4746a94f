use Rattle.std.proofs.Common.{subst}
use Rattle.std.specs.Arc.{arc_value}
use Rattle.nm_sim.specs.Trace.{IsTraceBefore}
use Rattle.nm_program.proofs.RunEndings.{says_if}
use Rattle.nm_program.proofs.runs.report_text.Goals as goal

pub returns : goal.returns
returns c =
    let t = arc_value c.args.network.now in
    let there = c.every_topology_has_a_trace.ensures.there t.stop in
    says_if (λ v. v.items) t c.deref-2.result.now c.args.report.now.totals.items there.0 c.run_text.result c.deref-2.ensures c.requires
    (subst (λ z. IsTraceBefore z t.stop there.0) c.deref.ensures there.1) c.run_text.ensures
