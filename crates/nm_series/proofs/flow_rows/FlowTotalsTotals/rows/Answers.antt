use Rattle.std.proofs.Common.{◌++◌, sym, ap, ◌∙◌, subst, length}
use Rattle.nm_sim.specs.Network.{net_of}
use Rattle.nm_series.specs.Flows.{AreFlowTotals, flow_rows}
use Rattle.nm_series.proofs.flow_rows.FlowTotalsTotals.rows.Goals as goal

pub returns : goal.returns
returns c =
    let t = c.args.topology.now in
    let from = c.args.span.now.from in
    let until = c.args.span.now.until in
    let was = c.requires.before in
    let is = c.requires.after in
    let step = c.requires.step in
    let once = (c.times_pass.ensures (net_of t) c.every_topology_is_a_network.ensures.network).before_once in
    let began = once from step.first was.events step.begins was.over in
    let ended = once until step.measured.events is.events step.measured.over is.over in
    record {
      rows = record {
        before = step.first;
        after = step.measured.events;
        begins = step.begins;
        ends = step.measured.over;
        rows = c.in_ok-push_rows.ensures step.first until step.recent step.measured
            (subst (λ n. AreFlowTotals t n c.args.before.now) (sym began) was.totals)
            (subst (λ n. AreFlowTotals t n c.args.after.now) (sym ended) is.totals)
            ∙ ap (λ l. l ++ flow_rows t from step.first step.measured.events (length t.sources)) c.new-text.ensures.items;
      };
    }
